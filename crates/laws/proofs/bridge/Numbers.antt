-- A history number tells kind, lead and edge, and which darts are gone.
use mathlib.Core.Bool.{Bool, true, false, and-false}
use mathlib.Core.List.{List, ◌∷◌}
use mathlib.Core.Logic.{◌≢◌, inl, inr, ⊎_elim}
use mathlib.Core.Path.{◌≡◌, sym, ◌∙◌, fun_ext}
use Prim.Native.Nat.{ℕ, ◌+◌, ◌*◌, ◌/◌, ◌%◌}
use native.Mathlib.Decide.{ℕ_discrete}
use native.Mathlib.Omega.{arith}
use lib.Dec.{ltb}
use Rattle.permutations.specs.Choice.{pick, eqb_same, eqb_other}
use Rattle.permutations.specs.Partner.{End, end?}
use Rattle.permutations.proofs.PartnerLemmas.{partner_cases, partner_edge}
use Rattle.permutations.specs.Map.{off_edge, off_edge_other}
use Rattle.permutations.proofs.MapLemmas.{off_edge_end}
use Rattle.darts.specs.Map.{gone, survives}
use Rattle.darts.specs.Operation.{Kind, contraction, removal, turned, lead, number, kind_of, lead_of, edge_of}
use Rattle.laws.proofs.bridge.Standing.{live}

pub number_kind : (k : Kind) (p : ℕ) → kind_of (number k p) ≡ k
unfolding kind_of number
number_kind removal p = let e : 2 * p % 2 ≡ 0 = omega arith in rw (eqb_same e)
number_kind contraction p = let n : (2 * p + 1) % 2 ≢ 0 = omega arith in rw (eqb_other n)

pub number_lead : (k : Kind) (p : ℕ) → lead_of (number k p) ≡ p
unfolding lead_of number
number_lead removal p = omega arith
number_lead contraction p = omega arith

-- p is on edge p / 2
pub number_half : (k : Kind) (p : ℕ) → number k p / 4 ≡ p / 2
unfolding number
number_half removal p = omega arith
number_half contraction p = omega arith

lead_edge : (k : Kind) (t : List ℕ) (e : ℕ) → lead k t e / 2 ≡ e
unfolding lead
lead_edge k t e = go (turned k t e)
  where
    go : (b : Bool) → pick b (2 * e + 1) (2 * e) / 2 ≡ e
    go true = omega arith
    go false = omega arith

pub number_edge : (k : Kind) (t : List ℕ) (e : ℕ) → edge_of (number k (lead k t e)) ≡ e
unfolding edge_of
number_edge k t e = number_half k (lead k t e) ∙ lead_edge k t e

-- ---- the edge that an operation takes is gone

end_edge : {p x : ℕ} → End p x → p / 2 ≡ x / 2
end_edge {p} = ⊎_elim (λ e. rw e) (λ e. rw e (sym (partner_edge p)))

edge_end : (p x : ℕ) → p / 2 ≡ x / 2 → End p x
edge_end p x h = go (ℕ_discrete x p)
  where
    go : Dec (x ≡ p) → End p x
    go (yes e) = inl e
    go (no n) = inr (⊎_elim (λ c. omega arith) (λ c. omega arith) (partner_cases p))

-- WHO SURVIVES AN OPERATION: all but the edge's two darts
pub live_after : (k : Kind) (D : ℕ) (past : List ℕ) (p : ℕ) → live D (number k p ∷ past) ≡ off_edge (live D past) p
unfolding live survives gone
live_after k D past p = fun_ext (λ x. go x (end? p x))
  where
    go : (x : ℕ) → Dec (End p x) → live D (number k p ∷ past) x ≡ off_edge (live D past) p x
    go x (yes e) = rw (number_half k p, eqb_same (end_edge e), off_edge_end (live D past) e) (and-false (ltb x D))
    go x (no n) = rw (number_half k p, eqb_other (λ e. n (edge_end p x e))) (sym (off_edge_other (live D past) n))
