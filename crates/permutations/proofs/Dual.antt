-- The dual: vertices and faces change places, and so do contraction and removal.
--   dual m == the map whose successor is the face-next of m
use mathlib.Core.Logic.{inl, inr}
use mathlib.Core.Path.{ap, ◌≡◌, ◌∙◌, refl, fun_ext, sym, subst}
use Prim.Native.Nat.{ℕ}
use native.Mathlib.Omega.{arith}
use lib.Dec.{T}
use Rattle.permutations.specs.Partner.{partner, end?, End}
use Rattle.permutations.proofs.PartnerLemmas.{partner_partner}
use Rattle.permutations.specs.Perm.{Perm}
use Rattle.permutations.specs.Splice.{swap, swap_left, swap_right, swap_other, splice, crossed, skip, skip_after}
use Rattle.permutations.specs.Map.{Map, face, Good, mate, mate_live, partner_live, mate_gone, map_path, off_edge, mate_off_other, remove, contract}
use Rattle.permutations.proofs.MapLemmas.{mate_mate, mate_off_end, pairs_off, good_remove}

abbrev pub dual : Map → Map
dual m = record { live = m.live; next = face m }

-- ---- the dual is a good map, and its dual is the map

module _ {D : ℕ} {m : Map} (G : Good D m) where
  pub face_at : (x : ℕ) → T (m.live x) → face m x ≡ m.next (partner x)
  unfolding face
  face_at x t = ap m.next (mate_live m.live x t)

  pub face_partner : (x : ℕ) → T (m.live x) → face m (partner x) ≡ m.next x
  face_partner x t = face_at (partner x) (partner_live G x t) ∙ ap m.next (partner_partner x)

  face_gone : (x : ℕ) → ¬ (T (m.live x)) → face m x ≡ x
  unfolding face
  face_gone x n = ap m.next (mate_gone m.live x n) ∙ G.gone x n

  pub face_perm : Perm D (face m)
  unfolding face
  face_perm = record {
    inv = λ x. mate m.live (G.perm.inv x);
    back = λ x. ap (mate m.live) (G.perm.back (mate m.live x)) ∙ mate_mate m.live G.pairs x;
    forth = λ x. ap m.next (mate_mate m.live G.pairs (G.perm.inv x)) ∙ G.perm.forth x;
    still = λ x h. face_gone x (λ t. let k = G.small x t in omega arith);
  }

  pub good_dual : Good D (dual m)
  good_dual = record { perm = face_perm; gone = face_gone; pairs = G.pairs; small = G.small }

  pub dual_dual : dual (dual m) ≡ m
  unfolding face
  dual_dual = map_path refl (fun_ext (λ x. ap m.next (mate_mate m.live G.pairs x)))

-- ---- removing an edge splices the faces

module _ {D : ℕ} {m : Map} (G : Good D m) (p : ℕ) (t : T (m.live p)) where
  mate_swap : (x : ℕ) → mate m.live (swap p (partner p) x) ≡ mate (off_edge m.live p) x
  mate_swap x = go (end? p x)
    where
      q : T (m.live (partner p))
      q = partner_live G p t

      go : Dec (End p x) → mate m.live (swap p (partner p) x) ≡ mate (off_edge m.live p) x
      go (yes (inl e)) =
          ap (mate m.live) (swap_left e) ∙ mate_live m.live (partner p) q ∙ partner_partner p ∙ sym (mate_off_end m.live (inl e) ∙ e)
      go (yes (inr e)) = ap (mate m.live) (swap_right e) ∙ mate_live m.live p t ∙ sym (mate_off_end m.live (inr e) ∙ e)
      go (no n) = ap (mate m.live) (swap_other (λ e. n (inl e)) (λ e. n (inr e))) ∙ sym (mate_off_other m.live n)

  mate_off_inj : (x y : ℕ) → mate (off_edge m.live p) x ≡ mate (off_edge m.live p) y → x ≡ y
  mate_off_inj x y e =
      let back = mate_mate (off_edge m.live p) (pairs_off G p) in
      sym (back x) ∙ ap (mate (off_edge m.live p)) e ∙ back y

  pub face_remove : face (remove m p) ≡ splice (face m) p (partner p)
  unfolding face splice crossed
  face_remove =
      skip_after m.next (mate (off_edge m.live p)) mate_off_inj (mate_off_end m.live (inl refl)) (mate_off_end m.live (inr refl))
      ∙ ap (λ k. skip k p (partner p)) (fun_ext (λ x. ap m.next (sym (mate_swap x))))

-- ---- contraction is removal in the dual, and removal is contraction in the dual

module _ {D : ℕ} {m : Map} (G : Good D m) (p : ℕ) (t : T (m.live p)) where
  pub dual_remove : dual (remove m p) ≡ contract (dual m) p
  dual_remove = map_path refl (face_remove G p t)

pub contract_by_dual : {D : ℕ} {m : Map} → Good D m → (p : ℕ) → T (m.live p) → dual (remove (dual m) p) ≡ contract m p
contract_by_dual G p t = dual_remove (good_dual G) p t ∙ ap (λ n. contract n p) (dual_dual G)

module _ {D : ℕ} {m : Map} (G : Good D m) (p : ℕ) (t : T (m.live p)) where
  pub good_contract : Good D (contract m p)
  good_contract = subst (Good D) (contract_by_dual G p t) (good_dual (good_remove (good_dual G) p t))

  pub dual_contract : dual (contract m p) ≡ remove (dual m) p
  dual_contract = ap dual (sym (contract_by_dual G p t)) ∙ dual_dual (good_remove (good_dual G) p t)

  -- contracting an edge skips it in the faces
  pub face_contract : face (contract m p) ≡ skip (face m) p (partner p)
  face_contract = ap (λ n. n.next) dual_contract

pub remove_by_dual : {D : ℕ} {m : Map} → Good D m → (p : ℕ) → T (m.live p) → dual (contract (dual m) p) ≡ remove m p
remove_by_dual G p t = dual_contract (good_dual G) p t ∙ ap (λ n. remove n p) (dual_dual G)
