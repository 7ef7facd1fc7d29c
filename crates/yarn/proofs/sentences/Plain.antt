-- A call with sheets and the plain call: they agree.
--   First       == the plain call is judged 1 or 2
--   first_same  == where the plain call is judged 1 or 2, so is the call with sheets
--   judged_same == with sheets that are long enough, and right where a pyramid is lent, they are judged the same
--   state_plain == then both leave the same answer, state, table, history and work area; instances for reduce, sweep, undo, unfold
--   state_first == 1 and 2 of the plain call leave the same whatever the sheets; instances
use mathlib.Core.List.{List}
use mathlib.Core.Logic.{◌≢◌}
use mathlib.Core.Path.{◌≡◌, sym, ◌∙◌}
use Prim.Native.Nat.{ℕ}
use lib.ListN.{length}
use Rattle.permutations.specs.Choice.{eqb_other}
use Rattle.darts.specs.Operation.{Kind}
use Rattle.darts.specs.State.{State, Result, reduce}
use Rattle.darts.specs.Levels.{sweep, undo_level, unfold_to}
use Rattle.darts.specs.Calls.{fitting as fittingPlain, judged as judgedPlain, on_state, reduce_by, sweep_by, undo_by, unfold_by}
use Rattle.laws.proofs.calls.Judging.{Lent, judged_unfit}
use Rattle.laws.proofs.calls.Judging as Plain
use Rattle.sheets.specs.Sheets.{Sheets}
use Rattle.yarn.specs.Calls.{judged, on_sheets, reduce_with, sweep_with, undo_with, unfold_with}
use Rattle.yarn.proofs.sentences.Lengths.{Room, fitting_plain}
use Rattle.yarn.proofs.sentences.Judging.{Right, judged_one, judged_two, judged_other, judged_costed}

module _ (s : State) (t h w : List ℕ) (S : Sheets) where
  -- the plain call is judged 1 or 2
  abbrev pub First : Type 0
  First = (fittingPlain s.darts (length t) (length h) (length w)).number ≢ 0

  pub first_same : First → judged s t h w S ≡ judgedPlain s t h w
  unfolding judged
  first_same n = rw (fitting_plain s.darts t h w S n, eqb_other n) (sym (judged_unfit s t h w n))

  module _ (room : Room s.darts S) (right : Lent s t h w → Right s t h S) where
    -- THEY ARE JUDGED THE SAME
    pub judged_same : judged s t h w S ≡ judgedPlain s t h w
    judged_same = go (Plain.judging s t h w)
      where
        go : Plain.Judging s t h w → judged s t h w S ≡ judgedPlain s t h w
        go (Plain.uncounted c e) = judged_one s t h w S c ∙ sym e
        go (Plain.cramped c l e) = judged_two s t h w S c l ∙ sym e
        go (Plain.other c l n e) = judged_other s t h w S (record { count = c; lengths = l; room = room }) n ∙ sym e
        go (Plain.lent L e) = judged_costed s t h w S (record { lent = L; room = room; right = right L }) ∙ sym e

-- ---- what they leave

module _ (s : State) (t h w : List ℕ) (S : Sheets) where
  same_plain : (step : State → List ℕ → List ℕ → Result) → judged s t h w S ≡ judgedPlain s t h w → (on_sheets step s t h w S).plain ≡ on_state step s t h w
  unfolding on_sheets on_state
  same_plain step e = rw e

  -- ONCE THE SHEETS ARE RIGHT, A CALL IS WHAT THE PLAIN CALL IS
  module _ (room : Room s.darts S) (right : Lent s t h w → Right s t h S) where
    pub state_plain : (step : State → List ℕ → List ℕ → Result) → (on_sheets step s t h w S).plain ≡ on_state step s t h w
    state_plain step = same_plain step (judged_same s t h w S room right)

    pub reduce_plain : (k : Kind) (es : List ℕ) → (reduce_with k es s t h w S).plain ≡ reduce_by k es s t h w
    unfolding reduce_with reduce_by
    reduce_plain k es = state_plain (reduce k es)

    pub sweep_plain : (sweep_with s t h w S).plain ≡ sweep_by s t h w
    unfolding sweep_with sweep_by
    sweep_plain = state_plain sweep

    pub undo_plain : (undo_with s t h w S).plain ≡ undo_by s t h w
    unfolding undo_with undo_by
    undo_plain = state_plain undo_level

    pub unfold_plain : (k : ℕ) → (unfold_with k s t h w S).plain ≡ unfold_by k s t h w
    unfolding unfold_with unfold_by
    unfold_plain k = state_plain (unfold_to k)

  -- "1 and 2 write nothing at all", and they come before all else
  pub state_first : First s t h w S → (step : State → List ℕ → List ℕ → Result) → (on_sheets step s t h w S).plain ≡ on_state step s t h w
  state_first n step = same_plain step (first_same s t h w S n)
