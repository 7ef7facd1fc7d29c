-- The place of a call that is done is 0 (document 01, "Answer numbers").
--   done_place == a call on a state whose step is earnest has place 0 where it is done; instances for reduce, sweep, undo, unfold
--   start_place, counts_place == the same for start and counts
use mathlib.Core.List.{List}
use mathlib.Core.Path.{◌≡◌, refl}
use Prim.Native.Nat.{ℕ}
use native.Mathlib.Decide.{ℕ_discrete}
use native.Mathlib.Omega.{arith}
use lib.Dec.{eqb}
use Rattle.permutations.specs.Choice.{eqb_same, eqb_other}
use Rattle.std.proofs.Common.{if◌then◌else◌}
use Rattle.darts.specs.Operation.{Kind}
use Rattle.darts.specs.State.{State, Result, gives, refuses, reduce}
use Rattle.darts.specs.Levels.{sweep, undo_level, unfold_to}
use Rattle.darts.specs.Calls.{table_of, past_of, judged, hands_back, on_state, start, reduce_by, sweep_by, undo_by, unfold_by, counts}
use Rattle.laws.proofs.calls.Judging.{Judging, uncounted, cramped, other, lent, judging}
use Rattle.laws.proofs.calls.Outcomes.{Starting, no_count, no_room, no_base, base, starting}
use Rattle.laws.proofs.runs.Earnest.{Earnest, earnest_reduce, earnest_sweep, earnest_undo, earnest_unfold}

-- ---- calls on a state

module _ (s : State) (t h w : List ℕ) where
  ends_place : (r : Result) → Earnest r → (hands_back s t h w r).answer.number ≡ 0 → (hands_back s t h w r).answer.place ≡ 0
  unfolding hands_back
  ends_place (gives z u new) k e = refl
  ends_place (refuses a) k e = absurd (k e)

  -- 0, "done": place 0
  pub done_place : (step : State → List ℕ → List ℕ → Result) → ((s : State) (t past : List ℕ) → Earnest (step s t past))
      → (on_state step s t h w).answer.number ≡ 0 → (on_state step s t h w).answer.place ≡ 0
  unfolding on_state
  done_place step k = ends_place _ (go (ℕ_discrete (judged s t h w).number 0))
    where
      go : Dec ((judged s t h w).number ≡ 0)
          → Earnest (if eqb (judged s t h w).number 0 then step s (table_of s t) (past_of s h) else refuses (judged s t h w))
      go (yes e) = rw (eqb_same e) (k s (table_of s t) (past_of s h))
      go (no n) = rw (eqb_other n) n

  pub reduce_place : (k : Kind) (es : List ℕ) → (reduce_by k es s t h w).answer.number ≡ 0 → (reduce_by k es s t h w).answer.place ≡ 0
  unfolding reduce_by
  reduce_place k es = done_place (reduce k es) (earnest_reduce k es)

  pub sweep_place : (sweep_by s t h w).answer.number ≡ 0 → (sweep_by s t h w).answer.place ≡ 0
  unfolding sweep_by
  sweep_place = done_place sweep earnest_sweep

  pub undo_place : (undo_by s t h w).answer.number ≡ 0 → (undo_by s t h w).answer.place ≡ 0
  unfolding undo_by
  undo_place = done_place undo_level earnest_undo

  pub unfold_place : (k : ℕ) → (unfold_by k s t h w).answer.number ≡ 0 → (unfold_by k s t h w).answer.place ≡ 0
  unfolding unfold_by
  unfold_place k = done_place (unfold_to k) (earnest_unfold k)

  -- counts answer 0, 1, 2 or 4, each with place 0
  pub counts_place : (counts s t h w).answer.place ≡ 0
  unfolding counts
  counts_place = go (judging s t h w)
    where
      go : Judging s t h w → (judged s t h w).place ≡ 0
      go (uncounted c e) = rw e
      go (cramped c l e) = rw e
      go (other c l p e) = rw e
      go (lent l e) = rw e

-- ---- start

pub start_place : (D : ℕ) (t h w : List ℕ) → (start D t h w).answer.number ≡ 0 → (start D t h w).answer.place ≡ 0
start_place D t h w z = go (starting D t h w)
  where
    go : Starting D t h w → (start D t h w).answer.place ≡ 0
    go (no_count c e) = absurd (let k : 1 ≡ 0 = rw e at z in omega arith)
    go (no_room c l e) = absurd (let k : 2 ≡ 0 = rw e at z in omega arith)
    go (no_base c l b e) = absurd (let k : 3 ≡ 0 = rw e at z in omega arith)
    go (base c l b e) = rw e
