-- The dart that plays p.
--   Leading k D t past p == p may lead an operation of kind k: it survives, the near one is not p, and the far one neither q nor p
use mathlib.Core.Bool.{Bool, true, false}
use mathlib.Core.List.{List}
use mathlib.Core.Logic.{◌≢◌, inl, inr}
use mathlib.Core.Path.{◌≡◌, refl, sym, ◌∙◌, subst}
use Prim.Native.Nat.{ℕ, ◌*◌}
use native.Mathlib.Decide.{ℕ_discrete}
use lib.Dec.{T, eqb}
use Rattle.permutations.specs.Choice.{pick, eqb_same, eqb_other}
use Rattle.permutations.specs.Partner.{partner, End}
use Rattle.permutations.proofs.PartnerLemmas.{partner_first, partner_partner}
use Rattle.permutations.specs.Cycle.{Meets, meets_next, meets_sym}
use Rattle.permutations.specs.Map.{partner_live}
use Rattle.permutations.proofs.Legal.{Separate, Legal, around, around_perm, Whole, act}
use Rattle.darts.specs.Map.{successor, face_next}
use Rattle.darts.specs.Operation.{Kind, contraction, removal, turned, lead}
use Rattle.darts.specs.Tests.{near}
use Rattle.laws.specs.Standing.{map_of, Standing}
use Rattle.laws.proofs.bridge.Standing.{live, op_of, next_entry}
use Rattle.laws.proofs.bridge.Judged.{face_entry}
use Rattle.laws.proofs.bridge.AnyKind.{dart_op, act_partner}
use Rattle.laws.proofs.bridge.Relink.{near_entry, far_entry}

pub record Leading (k : Kind) (D : ℕ) (t past : List ℕ) (p : ℕ) : Type 0 where
  pub lives : T (live D past p)
  pub p_not_p : near_entry k t p ≢ p
  pub q_not_q : far_entry k t p ≢ partner p
  pub q_not_p : far_entry k t p ≢ p

-- "removal with s = p, contraction with r = p": the operation turns round where the far one is p
pub lead_pick : (k : Kind) (t : List ℕ) (e : ℕ) → (let p : ℕ = 2 * e in lead k t e ≡ pick (eqb (far_entry k t p) p) (partner p) p)
unfolding lead turned near
lead_pick removal t e = rw (partner_first e)
lead_pick contraction t e = rw (partner_first e)

-- the lead is a dart of the edge
pub lead_end : (k : Kind) (t : List ℕ) (e : ℕ) → End (2 * e) (lead k t e)
lead_end k t e = rw (lead_pick k t e) (go (eqb (far_entry k t (2 * e)) (2 * e)))
  where
    go : (b : Bool) → End (2 * e) (pick b (partner (2 * e)) (2 * e))
    go true = inr refl
    go false = inl refl

module _ {D : ℕ} {t past : List ℕ} (S : Standing D t past) where
  -- the permutation whose cycles the operation joins steps from a dart to the far one
  around_entry : (k : Kind) (p x : ℕ) → T (live D past x) → around (map_of D t past) (op_of k p) x ≡ far_entry k t x
  unfolding face_next near
  around_entry removal p x h = sym (face_entry S x h)
  around_entry contraction p x h = next_entry S x h

  module _ (k : Kind) (p : ℕ) (L : Separate (around (map_of D t past) (op_of k p)) (map_of D t past) p) where
    partner_lives : T (live D past (partner p))
    partner_lives = partner_live S.good p L.lives

    meets_entry : {y : ℕ} (x : ℕ) → T (live D past x) → far_entry k t x ≡ y → Meets (around (map_of D t past) (op_of k p)) x y
    meets_entry x h e =
        let f = around (map_of D t past) (op_of k p) in
        subst (Meets f x) (around_entry k p x h ∙ e) (meets_next f x)

    -- p and q share no cycle
    apart_q : far_entry k t p ≢ partner p
    apart_q e = L.two (meets_entry p L.lives e)

    apart_p : near_entry k t p ≢ p
    apart_p e =
        L.two (meets_sym (around_perm S.good (op_of k p)) (meets_entry (partner p) partner_lives (rw (partner_partner p) e)))

  -- the edge is no whole piece
  not_crossed : (k : Kind) (p : ℕ) → T (live D past p) → ¬ Whole (map_of D t past) p → near_entry k t p ≡ partner p → far_entry k t p ≢ p
  unfolding near
  not_crossed k p h more e z = more (go k e z)
    where
      r : (map_of D t past).next p ≡ successor t p
      r = next_entry S p h

      s : (map_of D t past).next (partner p) ≡ successor t (partner p)
      s = next_entry S (partner p) (partner_live S.good p h)

      go : (k : Kind) → near_entry k t p ≡ partner p → far_entry k t p ≡ p → Whole (map_of D t past) p
      go removal e z = inr (r ∙ e, s ∙ z)
      go contraction e z = inl (r ∙ z, s ∙ e)

  -- IN A LEGAL OPERATION THE LEAD MAY LEAD
  pub lead_leads : (k : Kind) (e : ℕ) → Legal (map_of D t past) (op_of k (2 * e)) → Leading k D t past (lead k t e)
  lead_leads k e legal = rw (lead_pick k t e) (go (ℕ_discrete (far_entry k t p) p))
    where
      p : ℕ
      p = 2 * e

      L : Separate (around (map_of D t past) (op_of k p)) (map_of D t past) p
      L = subst (Separate (around (map_of D t past) (op_of k p)) (map_of D t past)) (dart_op k p) legal

      go : Dec (far_entry k t p ≡ p) → Leading k D t past (pick (eqb (far_entry k t p) p) (partner p) p)
      go (yes z) = rw (eqb_same z) (record {
        lives = partner_lives k p L;
        p_not_p = rw (partner_partner p) (apart_q k p L);
        q_not_q = rw (partner_partner p) (apart_p k p L);
        q_not_p = rw (partner_partner p) (λ e. not_crossed k p L.lives L.more e z);
      })
      go (no n) = rw (eqb_other n) (record { lives = L.lives; p_not_p = apart_p k p L; q_not_q = apart_q k p L; q_not_p = n })

  -- and turned round or not, the operation is the same
  pub act_lead : (k : Kind) (e : ℕ) → T (live D past (2 * e)) → act (map_of D t past) (op_of k (lead k t e)) ≡ act (map_of D t past) (op_of k (2 * e))
  act_lead k e h = rw (lead_pick k t e) (go (eqb (far_entry k t (2 * e)) (2 * e)))
    where
      go : (b : Bool) → act (map_of D t past) (op_of k (pick b (partner (2 * e)) (2 * e))) ≡ act (map_of D t past) (op_of k (2 * e))
      go true = act_partner S.good (2 * e) h k
      go false = refl
