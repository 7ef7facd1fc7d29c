-- Pieces: darts joined by steps to the successor and steps over an edge. A legal operation keeps who is in whose piece.
--   Linked m x y == x and y are in one piece
use mathlib.Core.Logic.{⊎_elim, inr, inl, ◌↔◌}
use mathlib.Core.Path.{ap, ◌≡◌, subst, sym, refl, ◌∙◌}
use Prim.Native.Nat.{ℕ}
use lib.Dec.{T}
use Rattle.permutations.specs.Partner.{partner, End, end?}
use Rattle.permutations.proofs.PartnerLemmas.{partner_partner, partner_ne}
use Rattle.permutations.specs.Perm.{inj}
use Rattle.permutations.specs.Splice.{swap, swap_left, swap_right, swap_other, crossed, splice, skip}
use Rattle.permutations.specs.Cycle.{Meets, meets_ind, meets_back, meets_next}
use Rattle.permutations.specs.Joined.{without_meets, Joined, On}
use Rattle.permutations.proofs.JoinedLemmas.{splice_meets}
use Rattle.permutations.specs.Map.{Map, mate, Good, mate_live, partner_live, next_live, face, off_edge, mate_off_other, contract, partner_small, remove}
use Rattle.permutations.proofs.MapLemmas.{mate_mate, mate_off_end}
use Rattle.permutations.proofs.Dual.{dual, good_dual, dual_dual, remove_by_dual, good_contract}
use Rattle.permutations.proofs.Legal.{act, Contractible, Contract, Removable, Whole, Op, Legal, dart, Remove}
use Rattle.permutations.proofs.LegalLemmas.{dual_contractible}

-- "Two darts are in one piece when partner and successor steps join them."
pub data Linked (m : Map) : ℕ → ℕ → Type 0 where
  here : {x y : ℕ} → x ≡ y → Linked m x y
  turn : {x y : ℕ} → Linked m (m.next x) y → Linked m x y
  over : {x y : ℕ} → Linked m (mate m.live x) y → Linked m x y

-- what holds of x, and goes over each step, holds of all of x's piece
pub linked_ind : (m : Map) (P : ℕ → Type 0) → ((z : ℕ) → P z → P (m.next z)) → ((z : ℕ) → P z → P (mate m.live z))
    → {x y : ℕ} → Linked m x y → P x → P y
linked_ind m P s t (here e) h = subst P e h
linked_ind m P s t (turn {x = x} l) h = linked_ind m P s t l (s x h)
linked_ind m P s t (over {x = x} l) h = linked_ind m P s t l (t x h)

module _ (m : Map) where
  pub linked_trans : {x y z : ℕ} → Linked m x y → Linked m y z → Linked m x z
  linked_trans {x} {y} {z} (here e) k = subst (λ w. Linked m w z) (sym e) k
  linked_trans (turn l) k = turn (linked_trans l k)
  linked_trans (over l) k = over (linked_trans l k)

  pub linked_next : (x : ℕ) → Linked m x (m.next x)
  linked_next x = turn (here refl)

  pub linked_mate : (x : ℕ) → Linked m x (mate m.live x)
  linked_mate x = over (here refl)

  pub meets_linked : {x y : ℕ} → Meets m.next x y → Linked m x y
  meets_linked {x} h = meets_ind m.next (Linked m x) (λ z l. linked_trans l (linked_next z)) h (here refl)

module _ {D : ℕ} {m : Map} (G : Good D m) where
  pub linked_sym : {x y : ℕ} → Linked m x y → Linked m y x
  linked_sym {x} l =
      linked_ind m (λ z. Linked m z x) (λ z h. linked_trans m (meets_linked m (meets_back G.perm z)) h)
      (λ z h. over (subst (λ w. Linked m w x) (sym (mate_mate m.live G.pairs z)) h)) l (here refl)

  pub mate_lives : (x : ℕ) → T (m.live x) → T (m.live (mate m.live x))
  mate_lives x t = subst (λ z. T (m.live z)) (sym (mate_live m.live x t)) (partner_live G x t)

  pub linked_live : {x y : ℕ} → Linked m x y → T (m.live x) → T (m.live y)
  linked_live l t = linked_ind m (λ z. T (m.live z)) (next_live G) mate_lives l t

  -- a step round a face is a step over the edge, and one round the vertex
  pub dual_linked : {x y : ℕ} → Linked (dual m) x y → Linked m x y
  unfolding face
  dual_linked {x} l =
      linked_ind (dual m) (Linked m x) (λ z h. linked_trans m h (over (turn (here refl)))) (λ z h. linked_trans m h (linked_mate m z)) l (here refl)

-- the dual has the same pieces
pub linked_dual : {D : ℕ} {m : Map} → Good D m → {x y : ℕ} → Linked m x y → Linked (dual m) x y
linked_dual {D} {m} G {x} {y} l = dual_linked (good_dual G) (subst (λ n. Linked n x y) (sym (dual_dual G)) l)

module _ {D : ℕ} {m : Map} (G : Good D m) (p : ℕ) (pl : T (m.live p)) where
  pub mate_p : {x : ℕ} → x ≡ p → mate m.live x ≡ partner p
  mate_p e = ap (mate m.live) e ∙ mate_live m.live p pl

  mate_q : {x : ℕ} → x ≡ partner p → mate m.live x ≡ p
  mate_q e = ap (mate m.live) e ∙ mate_live m.live (partner p) (partner_live G p pl) ∙ partner_partner p

  pub mate_end : {x : ℕ} → End p x → End p (mate m.live x)
  mate_end = ⊎_elim (λ e. inr (mate_p e)) (λ e. inl (mate_q e))

  end_mate : (x : ℕ) → End p (mate m.live x) → End p x
  end_mate x h = subst (End p) (mate_mate m.live G.pairs x) (mate_end h)

  -- a step of the contracted map is a run of steps of the map
  linked_swap : (z : ℕ) → Linked m z (swap p (partner p) z)
  linked_swap z = go (end? p z)
    where
      go : Dec (End p z) → Linked m z (swap p (partner p) z)
      go (yes (inl e)) = over (here (mate_p e ∙ sym (swap_left e)))
      go (yes (inr e)) = over (here (mate_q e ∙ sym (swap_right e)))
      go (no n) = here (sym (swap_other (λ e. n (inl e)) (λ e. n (inr e))))

  linked_crossed : {x y : ℕ} → Meets (crossed m.next p (partner p)) x y → Linked m x y
  unfolding crossed
  linked_crossed {x} h =
      meets_ind (crossed m.next p (partner p)) (Linked m x)
      (λ z l. linked_trans m l (linked_trans m (linked_swap z) (linked_next m (swap p (partner p) z)))) h (here refl)

  linked_splice : (z : ℕ) → Linked m z (splice m.next p (partner p) z)
  unfolding splice skip
  linked_splice z =
      linked_crossed (without_meets (crossed m.next p (partner p)) p
      (without_meets _ (partner p) (meets_next (splice m.next p (partner p)) z)))

  linked_mate_off : (z : ℕ) → Linked m z (mate (off_edge m.live p) z)
  linked_mate_off z = go (end? p z)
    where
      go : Dec (End p z) → Linked m z (mate (off_edge m.live p) z)
      go (yes e) = here (sym (mate_off_end m.live e))
      go (no n) = over (here (sym (mate_off_other m.live n)))

  pub contract_linked : {x y : ℕ} → Linked (contract m p) x y → Linked m x y
  contract_linked {x} l =
      linked_ind (contract m p) (Linked m x) (λ z h. linked_trans m h (linked_splice z)) (λ z h. linked_trans m h (linked_mate_off z)) l (here refl)

module _ {D : ℕ} {m : Map} (G : Good D m) (p : ℕ) (c : Contractible m p) where
  joined_linked : {x y : ℕ} → ¬ (End p x) → ¬ (End p y) → Joined m.next p (partner p) x y → Linked (contract m p) x y
  joined_linked nx ny j =
      meets_linked (contract m p)
      ((splice_meets G.perm p (partner p) (G.small p c.lives) (partner_small G p c.lives) c.two
      (λ e. nx (inl e)) (λ e. nx (inr e)) (λ e. ny (inl e)) (λ e. ny (inr e))).1 j)

  -- on the way from x: z is reached in the contracted map, or z is a dart of the edge, and all that is left of the joined vertex is reached
  record Way (x z : ℕ) : Type 0 where
    off : ¬ (End p z) → Linked (contract m p) x z
    at : End p z → (y : ℕ) → ¬ (End p y) → On m.next p (partner p) y → Linked (contract m p) x y

  meets_end : {x z : ℕ} → Meets m.next x z → End p z → On m.next p (partner p) x
  meets_end {x} k = ⊎_elim (λ e. inl (subst (Meets m.next x) e k)) (λ e. inr (subst (Meets m.next x) e k))

  way_next : (x z : ℕ) → Way x z → Way x (m.next z)
  way_next x z w = go (end? p z)
    where
      go : Dec (End p z) → Way x (m.next z)
      go (yes e) = record { off = λ n. w.at e (m.next z) n (meets_end (meets_back G.perm z) e); at = λ d. w.at e }
      go (no n) = record {
        off = λ k. linked_trans (contract m p) (w.off n) (joined_linked n k (inl (meets_next m.next z)));
        at = λ d y k o. linked_trans (contract m p) (w.off n) (joined_linked n k (inr (meets_end (meets_next m.next z) d, o)));
      }

  way_mate : (x z : ℕ) → Way x z → Way x (mate m.live z)
  way_mate x z w = go (end? p z)
    where
      go : Dec (End p z) → Way x (mate m.live z)
      go (yes e) = record { off = λ n. absurd (n (mate_end G p c.lives e)); at = λ d. w.at e }
      go (no n) = record {
        off = λ k. linked_trans (contract m p) (w.off n) (over (here (mate_off_other m.live n)));
        at = λ d. absurd (n (end_mate G p c.lives z d));
      }

  pub linked_contract : {x y : ℕ} → ¬ (End p x) → ¬ (End p y) → Linked m x y → Linked (contract m p) x y
  linked_contract {x} nx ny l =
      (linked_ind m (Way x) (way_next x) (way_mate x) l (record { off = λ n. here refl; at = λ e. absurd (nx e) })).off ny

-- CONTRACTING KEEPS THE PIECES
pub contract_pieces : {D : ℕ} {m : Map} → Good D m → (p : ℕ) → Contractible m p
    → {x y : ℕ} → ¬ (End p x) → ¬ (End p y) → Linked (contract m p) x y ↔ Linked m x y
contract_pieces G p c nx ny = (contract_linked G p c.lives, linked_contract G p c nx ny)

-- REMOVING KEEPS THE PIECES, by the dual
pub remove_pieces : {D : ℕ} {m : Map} → Good D m → (p : ℕ) → Removable m p
    → {x y : ℕ} → ¬ (End p x) → ¬ (End p y) → Linked (remove m p) x y ↔ Linked m x y
remove_pieces {D} {m} G p r {x} {y} nx ny =
    let d = good_dual G in
    let c = dual_contractible G p r in
    let e = contract_pieces d p c nx ny in
    let by = remove_by_dual G p r.lives in
    let k = good_contract d p r.lives in (
      λ l. dual_linked G (e.0 (dual_linked k (subst (λ n. Linked n x y) (sym by) l))),
      λ l. subst (λ n. Linked n x y) by (linked_dual k (e.1 (linked_dual G l))),
    )

-- the darts of a live edge are in one piece
pub end_linked : {D : ℕ} {m : Map} → Good D m → (u : ℕ) → T (m.live u) → {y : ℕ} → End u y → Linked m y u
end_linked {D} {m} G u t {y} (inl e) = here e
end_linked {D} {m} G u t {y} (inr e) = linked_sym G (over (here (mate_p G u t refl ∙ sym e)))

-- an edge is all of its piece where its piece has no other dart
pub whole_only : {D : ℕ} {m : Map} → Good D m → (p : ℕ) → T (m.live p) → Whole m p → (y : ℕ) → Linked m p y → End p y
whole_only {D} {m} G p t w y l = linked_ind m (End p) step (λ z h. mate_end G p t h) l (inl refl)
  where
    step : (z : ℕ) → End p z → End p (m.next z)
    step z (inl e) = ⊎_elim (λ h. inl (ap m.next e ∙ h.0)) (λ h. inr (ap m.next e ∙ h.0)) w
    step z (inr e) = ⊎_elim (λ h. inr (ap m.next e ∙ h.1)) (λ h. inl (ap m.next e ∙ h.1)) w

pub only_whole : {D : ℕ} {m : Map} → Good D m → (p : ℕ) → T (m.live p) → ((y : ℕ) → Linked m p y → End p y) → Whole m p
only_whole {D} {m} G p t only =
    go (only (m.next p) (linked_next m p)) (only (m.next (partner p)) (linked_trans m (over (here (mate_live m.live p t))) (linked_next m (partner p))))
  where
    go : End p (m.next p) → End p (m.next (partner p)) → Whole m p
    go (inl a) (inl b) = absurd (partner_ne p (inj G.perm (a ∙ sym b)))
    go (inl a) (inr b) = inl (a, b)
    go (inr a) (inl b) = inr (a, b)
    go (inr a) (inr b) = absurd (partner_ne p (inj G.perm (a ∙ sym b)))

-- A LEGAL OPERATION KEEPS THE PIECES
pub act_pieces : {D : ℕ} {m : Map} → Good D m → (a : Op) → Legal m a
    → {x y : ℕ} → ¬ (End (dart a) x) → ¬ (End (dart a) y) → Linked (act m a) x y ↔ Linked m x y
act_pieces G (Contract p) l nx ny = contract_pieces G p l nx ny
act_pieces G (Remove p) l nx ny = remove_pieces G p l nx ny
