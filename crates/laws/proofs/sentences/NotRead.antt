-- What a call does not read: two lendings may differ past D in the table, past the operation count in the history and everywhere in the work area
-- (`Agree`), and the call does not tell them apart. It answers alike, and they agree again wherever it looked or wrote.
--   Alike D n a b             == so it is with a and b, which two calls left; n operations were counted before the call
--   start_alike, reduce_alike, sweep_alike, undo_alike, unfold_alike == the calls that hand back a state
--   AlikeCounts, counts_alike == counts
--   AlikeWritten, write_alike == write
use mathlib.Core.Bool.{not}
use mathlib.Core.List.{List, [], reverse}
use mathlib.Core.Logic.{◌≢◌}
use mathlib.Core.Path.{◌≡◌, refl, sym, ◌∙◌, subst}
use Prim.Native.Nat.{ℕ, ◌*◌, ◌<◌, max}
use native.Mathlib.Decide.{dec_lt}
use native.Mathlib.Omega.{arith}
use lib.Dec.{T, eqb, ltb}
use lib.ListN.{length, take, replicate, length-reverse}
use Rattle.darts.specs.Counts.{counts_of}
use Rattle.permutations.specs.Choice.{T?, T→true, not_T→false, eqb_other}
use Rattle.darts.specs.Answers.{Answer, no_permutation, done}
use Rattle.darts.specs.Map.{Verdict, permutes, culprits, permutation_test}
use Rattle.darts.specs.Operation.{Kind}
use Rattle.darts.specs.State.{State, zeros, Result, gives, refuses, reduce}
use Rattle.darts.specs.Levels.{sweep, undo_level, unfold_to}
use Rattle.darts.specs.Pyramid.{dart_count}
use Rattle.darts.specs.File.{file_of}
use Rattle.darts.specs.Calls.{After, Counted, Written, leaves, room, fitting, table_of, past_of, cleared, work_after, judged, hands_back, on_state, begins, start, reduce_by, sweep_by, undo_by, unfold_by, counts, write}
use Rattle.slices.specs.Over.{over}
use Rattle.laws.proofs.bridge.Verdicts.{test_same}
use Rattle.laws.proofs.calls.Cleared.{cleared_zero}
use Rattle.laws.proofs.sentences.Steps.{Keeps, reduce_keeps, sweep_keeps, undo_keeps, unfold_keeps}
use Rattle.laws.proofs.sentences.Outcome.{outcome, outcome_by}
use Rattle.laws.proofs.sentences.Agreeing.{Agree, by_one_test, take_new, take_over, room_same, table_same, past_same, judged_same}

-- "Numbers of a lent table past D are neither read nor written, nor those of a history past the larger of the operation counts before and after the
-- call." "History past the count is not looked at". "After every call except those answered 1 or 2 the work area's first 4D numbers are zero", whatever
-- they were.
pub record Alike (D n : ℕ) (a b : After) : Type 0 where
  pub answer : a.answer ≡ b.answer
  pub state : a.state ≡ b.state
  pub table : take D a.table ≡ take D b.table
  pub history : take (max n a.state.operations) a.history ≡ take (max n a.state.operations) b.history
  pub work : a.answer.number ≢ 1 → a.answer.number ≢ 2 → take (4 * D) a.work ≡ take (4 * D) b.work

pub record AlikeCounts (D : ℕ) (a b : Counted) : Type 0 where
  pub answer : a.answer ≡ b.answer
  pub counts : a.counts ≡ b.counts
  pub work : a.answer.number ≢ 1 → a.answer.number ≢ 2 → take (4 * D) a.work ≡ take (4 * D) b.work

pub record AlikeWritten (D : ℕ) (a b : Written) : Type 0 where
  pub answer : a.answer ≡ b.answer
  pub output : a.output ≡ b.output
  pub work : a.answer.number ≢ 1 → a.answer.number ≢ 2 → take (4 * D) a.work ≡ take (4 * D) b.work

-- ---- the work area

module _ (D : ℕ) (w w' : List ℕ) where
  zeros_alike : take (4 * D) (cleared D w) ≡ take (4 * D) (cleared D w')
  zeros_alike = cleared_zero D w ∙ sym (cleared_zero D w')

  work_alike : (a : Answer) → a.number ≢ 1 → a.number ≢ 2 → take (4 * D) (work_after a D w) ≡ take (4 * D) (work_after a D w')
  unfolding work_after
  work_alike a one two = rw (eqb_other one, eqb_other two) zeros_alike

-- ---- start

module _ {D : ℕ} {t h w t' h' w' : List ℕ} (A : Agree D 0 t h w t' h' w') where
  unwritten_alike : (a : Answer) → (a.number ≢ 1 → a.number ≢ 2 → ⊥) → Alike D 0 (leaves a zeros t h w) (leaves a zeros t' h' w')
  unwritten_alike a short = record { answer = refl; state = refl; table = A.table; history = refl; work = λ one two. absurd (short one two) }

  abbrev level0 : ℕ → ℕ → ℕ → State
  level0 E v f = record { darts = E; operations = 0; levels = 0; ends = replicate 64 0; vertices = v; faces = f }

  cleared_alike : (a : Answer) (E v f : ℕ) → Alike D 0 (leaves a (level0 E v f) t h (cleared D w)) (leaves a (level0 E v f) t' h' (cleared D w'))
  cleared_alike a E v f = record { answer = refl; state = refl; table = A.table; history = refl; work = λ one two. zeros_alike D w w' }

  pub start_alike : Alike D 0 (start D t h w) (start D t' h' w')
  unfolding start begins fitting
  start_alike = go (T? (dart_count D)) (T? (room (length t) (length h) (length w) D))
    where
      said : (v : Verdict) → Alike D 0 (begins D t h w v) (begins D t' h' w' v)
      said permutes = rw A.table (cleared_alike done D (counts_of D (take D t') []).vertices (counts_of D (take D t') []).faces)
      said (culprits d c) = cleared_alike (no_permutation d c) 0 0 0

      go : Dec (T (dart_count D)) → Dec (T (room (length t) (length h) (length w) D)) → Alike D 0 (start D t h w) (start D t' h' w')
      go (no n) r = rw (not_T→false (dart_count D) n) (unwritten_alike _ (λ one two. one refl))
      go (yes c) (no n) =
          rw (T→true (dart_count D) c, ← (room_same A), not_T→false (room (length t) (length h) (length w) D) n) (unwritten_alike _ (λ one two. two refl))
      go (yes c) (yes r) =
          rw (T→true (dart_count D) c, ← (room_same A), T→true (room (length t) (length h) (length w) D) r, ← (test_same D t t' A.table))
          (said (permutation_test D t))

-- ---- the calls on a state

module _ (s : State) {t h w t' h' w' : List ℕ} (A : Agree s.darts s.operations t h w t' h' w') where
  pub counts_alike : AlikeCounts s.darts (counts s t h w) (counts s t' h' w')
  unfolding counts
  counts_alike =
      rw (← (judged_same s A), ← (table_same s A), ← (past_same s A))
      (record { answer = refl; counts = refl; work = work_alike s.darts w w' (judged s t h w) })

  pub write_alike : (o : List ℕ) → AlikeWritten s.darts (write s t h w o) (write s t' h' w' o)
  unfolding write
  write_alike o =
      rw (← (judged_same s A), ← (table_same s A), ← (past_same s A))
      (by_one_test (AlikeWritten s.darts) (not (eqb (judged s t h w).number 0))
      (record { answer = refl; output = refl; work = work_alike s.darts w w' (judged s t h w) })
      (by_one_test (AlikeWritten s.darts) (ltb (length o) (length (file_of s (table_of s t) (past_of s h))))
      (record { answer = refl; output = refl; work = λ one two. zeros_alike s.darts w w' })
      (record { answer = refl; output = refl; work = λ one two. zeros_alike s.darts w w' })))

  module _ (step : State → List ℕ → List ℕ → Result) where
    outcome_same : outcome step s t h w ≡ outcome step s t' h' w'
    outcome_same = rw (judged_same s A, table_same s A, past_same s A)

    abbrev Both : Result → Type 0
    Both r = Alike s.darts s.operations (hands_back s t h w r) (hands_back s t' h' w' r)

    refused_alike : (a : Answer) → Both (refuses a)
    unfolding hands_back
    refused_alike a =
        let same : max s.operations s.operations ≡ s.operations = omega arith in
        record { answer = refl; state = refl; table = A.table; history = rw same A.history; work = work_alike s.darts w w' a }

    given_alike : (z : State) (u new : List ℕ) → length new ≡ z.operations → Both (gives z u new)
    unfolding hands_back
    given_alike z u new count = record {
      answer = refl;
      state = refl;
      table = take_over u t t' s.darts A.table;
      history = go (dec_lt s.operations z.operations);
      work = λ one two. zeros_alike s.darts w w';
    }
      where
        go : Dec (s.operations < z.operations)
            → take (max s.operations z.operations) (over (reverse new) h) ≡ take (max s.operations z.operations) (over (reverse new) h')
        go (yes l) = take_new (reverse new) h h' (max s.operations z.operations) (simp length-reverse (omega arith))
        go (no n) =
            let before : max s.operations z.operations ≡ s.operations = omega arith in
            rw before (take_over (reverse new) h h' s.operations A.history)

    -- WHATEVER THE STEP OF A PYRAMID, IF IT KEEPS ITS NUMBERS
    on_state_alike : Keeps step → Alike s.darts s.operations (on_state step s t h w) (on_state step s t' h' w')
    unfolding on_state
    on_state_alike K =
        subst (λ r. Alike s.darts s.operations (hands_back s t h w (outcome step s t h w)) (hands_back s t' h' w' r)) outcome_same
        (outcome_by s t h w step Both (refused_alike _) (refused_alike _) (λ l. refused_alike)
        (λ L z u new e. given_alike z u new (K.fitted L.pyramid e).history))

  pub reduce_alike : (k : Kind) (es : List ℕ) → Alike s.darts s.operations (reduce_by k es s t h w) (reduce_by k es s t' h' w')
  unfolding reduce_by
  reduce_alike k es = on_state_alike (reduce k es) (reduce_keeps k es)

  pub sweep_alike : Alike s.darts s.operations (sweep_by s t h w) (sweep_by s t' h' w')
  unfolding sweep_by
  sweep_alike = on_state_alike sweep sweep_keeps

  pub undo_alike : Alike s.darts s.operations (undo_by s t h w) (undo_by s t' h' w')
  unfolding undo_by
  undo_alike = on_state_alike undo_level undo_keeps

  pub unfold_alike : (k : ℕ) → Alike s.darts s.operations (unfold_by k s t h w) (unfold_by k s t' h' w')
  unfolding unfold_by
  unfold_alike k = on_state_alike (unfold_to k) (unfold_keeps k)
