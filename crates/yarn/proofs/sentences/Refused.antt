-- What a call with sheets leaves, whatever it answers. "A refusal changes nothing but the work area.": neither sheet. And no start changes one.
--   state_refused == a refused call on a state leaves both sheets; instances for reduce, sweep, undo, unfold
--   start_sheets  == a start leaves them, accepted or refused
--   state_returns == a refused call hands back the state that it was given, and leaves table and history
--   cleared_area  == any answer but 1 and 2 leaves a cleared work area
--   state_area    == "After every call except those answered 1 or 2 the work area's first 4D numbers are zero; 1 and 2 write nothing at all"
--   state_second  == "every other answer has 0 there": no call on a state answers 3
use mathlib.Core.List.{List}
use mathlib.Core.Logic.{◌≢◌, ◌⊎◌, inl, inr}
use mathlib.Core.Path.{◌≡◌, refl}
use Prim.Native.Nat.{ℕ, ◌*◌, ◌≤◌}
use native.Mathlib.Omega.{arith}
use lib.ListN.{length}
use Rattle.darts.specs.Operation.{Kind}
use Rattle.darts.specs.State.{State, Result, gives, refuses, reduce}
use Rattle.darts.specs.Levels.{sweep, undo_level, unfold_to}
use Rattle.darts.specs.Calls.{table_of, past_of, cleared, work_after, hands_back}
use Rattle.laws.proofs.runs.Earnest.{Refusing}
use Rattle.laws.proofs.sentences.Refusals.{Returned}
use Rattle.laws.proofs.sentences.SecondPlace.{NoSecond}
use Rattle.laws.proofs.sentences.SecondPlace as Plain
use Rattle.laws.proofs.sentences.WorkArea.{Area, cleared_zeroed}
use Rattle.laws.proofs.sentences.WorkArea as Work
use Rattle.sheets.specs.Sheets.{Sheets}
use Rattle.yarn.specs.Calls.{sheets_after, on_sheets, start_with, reduce_with, sweep_with, undo_with, unfold_with}
use Rattle.yarn.proofs.sentences.Judging.{Judging, uncounted, cramped, narrow, other, strange, lent, judging, outcome}
use Rattle.yarn.proofs.sentences.Plain.{state_plain}

-- ---- the sheets

module _ (s : State) (t h w : List ℕ) (S : Sheets) where
  ends_left : (r : Result) → (hands_back s t h w r).answer.number ≢ 0 → sheets_after s (table_of s t) (past_of s h) S r ≡ S
  unfolding hands_back sheets_after
  ends_left (gives z u new) n = absurd (n refl)
  ends_left (refuses a) n = refl

  -- A REFUSAL CHANGES NEITHER SHEET
  pub state_refused : (step : State → List ℕ → List ℕ → Result) → (on_sheets step s t h w S).plain.answer.number ≢ 0 → (on_sheets step s t h w S).sheets ≡ S
  unfolding on_sheets
  state_refused step = ends_left (outcome s t h w S step)

  pub reduce_refused : (k : Kind) (es : List ℕ) → (reduce_with k es s t h w S).plain.answer.number ≢ 0 → (reduce_with k es s t h w S).sheets ≡ S
  unfolding reduce_with
  reduce_refused k es = state_refused (reduce k es)

  pub sweep_refused : (sweep_with s t h w S).plain.answer.number ≢ 0 → (sweep_with s t h w S).sheets ≡ S
  unfolding sweep_with
  sweep_refused = state_refused sweep

  pub undo_refused : (undo_with s t h w S).plain.answer.number ≢ 0 → (undo_with s t h w S).sheets ≡ S
  unfolding undo_with
  undo_refused = state_refused undo_level

  pub unfold_refused : (k : ℕ) → (unfold_with k s t h w S).plain.answer.number ≢ 0 → (unfold_with k s t h w S).sheets ≡ S
  unfolding unfold_with
  unfold_refused k = state_refused (unfold_to k)

pub start_sheets : (D : ℕ) (t h w : List ℕ) (S : Sheets) → (start_with D t h w S).sheets ≡ S
unfolding start_with
start_sheets D t h w S = refl

-- ---- the rest

-- any answer but 1 and 2 leaves a cleared work area
pub cleared_area : (D : ℕ) (w : List ℕ) (n : ℕ) → n ≢ 1 → n ≢ 2 → 4 * D ≤ length w → Area n D w (cleared D w)
cleared_area D w n one two room = record { kept = kept; zeroed = λ _ _. cleared_zeroed D w room }
  where
    kept : (n ≡ 1) ⊎ (n ≡ 2) → cleared D w ≡ w
    kept (inl e) = absurd (one e)
    kept (inr e) = absurd (two e)

module _ (s : State) (t h w : List ℕ) (S : Sheets) where
  ends_returned : (r : Result) → (hands_back s t h w r).answer.number ≢ 0 → Returned s t h (hands_back s t h w r)
  unfolding hands_back
  ends_returned (gives z u new) n = absurd (n refl)
  ends_returned (refuses a) n = record { state = refl; table = refl; history = refl }

  module _ (step : State → List ℕ → List ℕ → Result) where
    -- "A refused call hands back the state it was given."
    pub state_returns : (on_sheets step s t h w S).plain.answer.number ≢ 0 → Returned s t h (on_sheets step s t h w S).plain
    unfolding on_sheets
    state_returns = ends_returned (outcome s t h w S step)

    pub state_area : Area (on_sheets step s t h w S).plain.answer.number s.darts w (on_sheets step s t h w S).plain.work
    unfolding on_sheets hands_back work_after
    state_area = go (judging s t h w S)
      where
        go : Judging s t h w S → Area (on_sheets step s t h w S).plain.answer.number s.darts w (on_sheets step s t h w S).plain.work
        go (uncounted c e) = rw e (record { kept = λ _. refl; zeroed = λ one two. absurd (one refl) })
        go (cramped c l e) = rw e (record { kept = λ _. refl; zeroed = λ one two. absurd (two refl) })
        go (narrow c n e) = rw e (record { kept = λ _. refl; zeroed = λ one two. absurd (two refl) })
        go (other F n e) = rw e (cleared_area s.darts w 4 (λ z. omega arith) (λ z. omega arith) F.lengths.work)
        go (strange F n e) = rw e (cleared_area s.darts w 4 (λ z. omega arith) (λ z. omega arith) F.lengths.work)
        go (lent C e) = rw (state_plain s t h w S C.room (λ _. C.right) step) (Work.state_area s t h w step)

    pub state_second : ((s : State) (t past : List ℕ) → Refusing NoSecond (step s t past)) → (on_sheets step s t h w S).plain.answer.second ≡ 0
    unfolding on_sheets hands_back
    state_second k = go (judging s t h w S)
      where
        go : Judging s t h w S → (on_sheets step s t h w S).plain.answer.second ≡ 0
        go (uncounted c e) = rw e
        go (cramped c l e) = rw e
        go (narrow c n e) = rw e
        go (other F n e) = rw e
        go (strange F n e) = rw e
        go (lent C e) = rw (state_plain s t h w S C.room (λ _. C.right) step) (Plain.state_second s t h w step k)
