-- Every call leaves each lent slice as long as it was: the lent slices are the caller's, and a call only writes numbers over numbers.
--   AsLong t h w a  == what the call a leaves is as long as what it was lent
--   start_long, reduce_long, sweep_long, undo_long, unfold_long, counts_long == so it is with each call
use mathlib.Core.List.{List, reverse}
use mathlib.Core.Path.{◌≡◌, refl}
use Prim.Native.Nat.{ℕ}
use native.Mathlib.Omega.{arith}
use lib.ListN.{length, length-reverse}
use Rattle.darts.specs.Answers.{Answer}
use Rattle.darts.specs.Operation.{Kind}
use Rattle.darts.specs.State.{State, Result, gives, refuses, reduce}
use Rattle.darts.specs.Levels.{sweep, undo_level, unfold_to}
use Rattle.darts.specs.Calls.{After, table_of, past_of, work_after, hands_back, on_state, start, reduce_by, sweep_by, undo_by, unfold_by, counts}
use Rattle.darts.proofs.Fitting.{Lengths}
use Rattle.laws.proofs.calls.Judging.{Lent}
use Rattle.slices.proofs.Over.{over_length}
use Rattle.laws.proofs.calls.Cleared.{cleared_length}
use Rattle.laws.proofs.sentences.Steps.{Keeps, reduce_keeps, sweep_keeps, undo_keeps, unfold_keeps}
use Rattle.laws.proofs.sentences.Outcome.{work_by, start_by, judged_by, outcome_by}

pub record SameLengths (t h w t' h' w' : List ℕ) : Type 0 where
  pub table : length t' ≡ length t
  pub history : length h' ≡ length h
  pub work : length w' ≡ length w

abbrev pub AsLong : List ℕ → List ℕ → List ℕ → After → Type 0
AsLong t h w a = SameLengths t h w a.table a.history a.work

module _ (t h w : List ℕ) where
  work_as_long : {v : List ℕ} → length v ≡ length w → SameLengths t h w t h v
  work_as_long e = record { table = refl; history = refl; work = e }

  pub start_long : (D : ℕ) → AsLong t h w (start D t h w)
  start_long D = start_by (AsLong t h w) D t h w (λ a. work_as_long refl) (λ l a z. work_as_long (cleared_length D w l.work))

  module _ (s : State) where
    pub counts_long : SameLengths t h w (counts s t h w).table (counts s t h w).history (counts s t h w).work
    unfolding counts work_after
    counts_long =
        work_as_long (judged_by s t h w (λ a. length (work_after a s.darts w) ≡ length w) refl refl (λ l. cleared_length s.darts w l.work)
        (λ L. cleared_length s.darts w L.lengths.work))

    -- WHATEVER THE STEP OF A PYRAMID, IF IT KEEPS ITS NUMBERS
    on_state_long : (step : State → List ℕ → List ℕ → Result) → Keeps step → AsLong t h w (on_state step s t h w)
    unfolding on_state hands_back work_after
    on_state_long step K = outcome_by s t h w step (λ r. AsLong t h w (hands_back s t h w r)) (work_as_long refl) (work_as_long refl) refused given
      where
        refused : Lengths s.darts (length t) (length h) (length w) → (a : Answer) → AsLong t h w (hands_back s t h w (refuses a))
        refused l a = work_as_long (work_by (λ v. length v ≡ length w) a s.darts w refl (cleared_length s.darts w l.work))

        given : Lent s t h w → (z : State) (u new : List ℕ) → step s (table_of s t) (past_of s h) ≡ gives z u new
            → AsLong t h w (hands_back s t h w (gives z u new))
        given L z u new e =
            let F = K.fitted L.pyramid e in
            let l = L.lengths in
            record {
              table = over_length u t (omega arith);
              history = over_length (reverse new) h (simp length-reverse (omega arith));
              work = cleared_length s.darts w l.work;
            }

    pub reduce_long : (k : Kind) (es : List ℕ) → AsLong t h w (reduce_by k es s t h w)
    unfolding reduce_by
    reduce_long k es = on_state_long (reduce k es) (reduce_keeps k es)

    pub sweep_long : AsLong t h w (sweep_by s t h w)
    unfolding sweep_by
    sweep_long = on_state_long sweep sweep_keeps

    pub undo_long : AsLong t h w (undo_by s t h w)
    unfolding undo_by
    undo_long = on_state_long undo_level undo_keeps

    pub unfold_long : (k : ℕ) → AsLong t h w (unfold_by k s t h w)
    unfolding unfold_by
    unfold_long k = on_state_long (unfold_to k) (unfold_keeps k)
