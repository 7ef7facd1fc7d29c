-- Turning round, and what the dart that plays p sees of its edge.
--   removal_turns, contraction_turns == when an operation turns round, and which dart plays p
--   loop_at_lead                     == an edge that is an empty loop from either side is one at the dart that plays p in its removal
--   pending_at_lead                  == an edge that is pending from either side is so at the dart that plays p in its contraction
use mathlib.Core.List.{List}
use mathlib.Core.Logic.{◌≢◌, ◌↔◌, ◌⊎◌, inl, inr, ⊎_elim}
use mathlib.Core.Path.{◌≡◌, ◌∙◌}
use Prim.Native.Nat.{ℕ, ◌+◌, ◌*◌}
use native.Mathlib.Decide.{ℕ_discrete}
use Rattle.permutations.specs.Choice.{eqb_same, eqb_other}
use Rattle.permutations.specs.Partner.{partner}
use Rattle.permutations.proofs.PartnerLemmas.{partner_first, partner_partner}
use Rattle.darts.specs.Map.{successor}
use Rattle.darts.specs.Operation.{Kind, contraction, removal, lead}
use Rattle.darts.specs.Tests.{near}
use Rattle.laws.proofs.bridge.Relink.{near_entry, far_entry}
use Rattle.laws.proofs.bridge.Lead.{lead_pick}

module _ (k : Kind) (t : List ℕ) (e : ℕ) where
  abbrev p : ℕ
  p = 2 * e

  -- the far one is p, and the operation turns round, or neither
  turns : ((far_entry k t p ≡ p) × (lead k t e ≡ partner p)) ⊎ ((far_entry k t p ≢ p) × (lead k t e ≡ p))
  turns = go (ℕ_discrete (far_entry k t p) p)
    where
      go : Dec (far_entry k t p ≡ p) → ((far_entry k t p ≡ p) × (lead k t e ≡ partner p)) ⊎ ((far_entry k t p ≢ p) × (lead k t e ≡ p))
      go (yes z) = inl (z, lead_pick k t e ∙ rw (eqb_same z))
      go (no n) = inr (n, lead_pick k t e ∙ rw (eqb_other n))

  -- one entry alone is written where either side of the edge asks for it
  either_side : ((near_entry k t p ≡ partner p) ⊎ (far_entry k t p ≡ p)) ↔ (near_entry k t (lead k t e) ≡ partner (lead k t e))
  either_side = ⊎_elim
      (λ h. rw (h.1, partner_partner p) (λ _. h.0, λ _. inr h.0))
      (λ h. rw h.1 (⊎_elim (λ z. z) (λ z. absurd (h.0 z)), inl)) turns

-- "Turn round (p = 2e+1, q = 2e, r and s again) in two cases only: removal with s = p, contraction with r = p."
module _ (t : List ℕ) (e : ℕ) where
  pub removal_turns :
      ((successor t (2 * e + 1) ≡ 2 * e) × (lead removal t e ≡ 2 * e + 1)) ⊎ ((successor t (2 * e + 1) ≢ 2 * e) × (lead removal t e ≡ 2 * e))
  unfolding near
  removal_turns = rw (partner_first e) at (turns removal t e)

  pub contraction_turns :
      ((successor t (2 * e) ≡ 2 * e) × (lead contraction t e ≡ 2 * e + 1)) ⊎ ((successor t (2 * e) ≢ 2 * e) × (lead contraction t e ≡ 2 * e))
  unfolding near
  contraction_turns = rw (partner_first e) at (turns contraction t e)

  -- "an empty loop (r = q or s = p)": it is r = q where p leads
  pub loop_at_lead : ((successor t (2 * e) ≡ 2 * e + 1) ⊎ (successor t (2 * e + 1) ≡ 2 * e)) ↔ (successor t (lead removal t e) ≡ partner (lead removal t e))
  unfolding near
  loop_at_lead = rw (partner_first e) at (either_side removal t e)

  -- "Testing for a pending edge from one side only" is a slip: s = q or r = p, and it is s = q where p leads
  pub pending_at_lead : ((successor t (2 * e + 1) ≡ 2 * e + 1) ⊎ (successor t (2 * e) ≡ 2 * e))
      ↔ (successor t (partner (lead contraction t e)) ≡ partner (lead contraction t e))
  unfolding near
  pending_at_lead = rw (partner_first e) at (either_side contraction t e)
