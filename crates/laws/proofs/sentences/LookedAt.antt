-- What a call on a state does look at: where the table's first D numbers and the history's first numbers, as many as the state counts, are a pyramid,
-- it is accepted as such, whatever stands behind them.
--   PyramidLent s t h w == so it is, and the slices are long enough
--   said r              == the answer of a step that gives r
--   reduce_looks, sweep_looks, undo_looks, unfold_looks == the call answers what its step says of these numbers
--   counts_looks, counts_done == and the counts are those of these numbers
use mathlib.Core.List.{List, reverse}
use mathlib.Core.Path.{◌≡◌, refl, ap, ◌∙◌}
use Prim.Native.Nat.{ℕ, ◌*◌, ◌/◌, ◌≤◌}
use lib.ListN.{length, take}
use Rattle.darts.specs.Answers.{Answer, done}
use Rattle.darts.specs.Counts.{counts_of}
use Rattle.darts.specs.Operation.{Kind}
use Rattle.darts.specs.State.{State, Result, gives, refuses, reduce}
use Rattle.darts.specs.Levels.{sweep, undo_level, unfold_to}
use Rattle.darts.specs.Pyramid.{Pyramid}
use Rattle.darts.specs.Calls.{After, table_of, past_of, hands_back, on_state, reduce_by, sweep_by, undo_by, unfold_by, counts}
use Rattle.laws.proofs.calls.Judging.{Lent, judged_lent, on_lent}

-- "Each call on this page is lent the table with at least D numbers, the history with D/2 and the work area with 4D"
pub record PyramidLent (s : State) (t h w : List ℕ) : Type 0 where
  pub pyramid : Pyramid s (take s.darts t) (reverse (take s.operations h))
  pub table : s.darts ≤ length t
  pub history : s.darts / 2 ≤ length h
  pub work : 4 * s.darts ≤ length w

abbrev pub said : Result → Answer
said (gives z u new) = done
said (refuses a) = a

module _ {s : State} {t h w : List ℕ} (P : PyramidLent s t h w) where
  lent_so : Lent s t h w
  unfolding table_of past_of
  lent_so = record { pyramid = P.pyramid; lengths = record { table = P.table; history = P.history; work = P.work } }

  pub counts_looks : (counts s t h w).counts ≡ counts_of s.darts (take s.darts t) (reverse (take s.operations h))
  unfolding counts table_of past_of
  counts_looks = rw (judged_lent s t h w lent_so)

  pub counts_done : (counts s t h w).answer ≡ done
  unfolding counts
  counts_done = judged_lent s t h w lent_so

  hands_said : (r : Result) → (hands_back s t h w r).answer ≡ said r
  unfolding hands_back
  hands_said (gives z u new) = refl
  hands_said (refuses a) = refl

  on_state_looks : (step : State → List ℕ → List ℕ → Result)
      → (on_state step s t h w).answer ≡ said (step s (take s.darts t) (reverse (take s.operations h)))
  unfolding table_of past_of
  on_state_looks step = ap (λ (a : After). a.answer) (on_lent s t h w step lent_so) ∙ hands_said (step s (table_of s t) (past_of s h))

  pub reduce_looks : (k : Kind) (es : List ℕ)
      → (reduce_by k es s t h w).answer ≡ said (reduce k es s (take s.darts t) (reverse (take s.operations h)))
  unfolding reduce_by
  reduce_looks k es = on_state_looks (reduce k es)

  pub sweep_looks : (sweep_by s t h w).answer ≡ said (sweep s (take s.darts t) (reverse (take s.operations h)))
  unfolding sweep_by
  sweep_looks = on_state_looks sweep

  pub undo_looks : (undo_by s t h w).answer ≡ said (undo_level s (take s.darts t) (reverse (take s.operations h)))
  unfolding undo_by
  undo_looks = on_state_looks undo_level

  pub unfold_looks : (k : ℕ) → (unfold_by k s t h w).answer ≡ said (unfold_to k s (take s.darts t) (reverse (take s.operations h)))
  unfolding unfold_by
  unfold_looks k = on_state_looks (unfold_to k)
