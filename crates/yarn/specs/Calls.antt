-- The calls that are lent both sheets (document 02, request Five): for each, one function from what it is given to what it leaves.
-- t, h, w and S are the lent table, history, work area and sheets, whole.
--   Costed                 == what a call leaves: what the plain call leaves, and the sheets
--   fitting D t h w s k    == answers 1 and 2 over slices and sheets of these lengths, or done
--   base_of s t past        == the base of a pyramid
--   judged s t h w S       == answers 1, 2 and 4 of a call on a state, or done
--   carried ms n m S       == the sheets where n operations were done, and then m are
--   start_with, reduce_with, sweep_with, undo_with, unfold_with == the calls
use Rattle.std.specs.Prelude.{not, ◌&&◌, List, reverse, ℕ, zero, suc, ◌-◌, ◌/◌, eqb, leb, length}
use Rattle.std.specs.Prelude.{if◌then◌else◌}
use Rattle.darts.specs.Answers.{Answer, done, too_short, no_pyramid, unfit_record}
use Rattle.darts.specs.Map.{Verdict, permutes, culprits, permutation_test}
use Rattle.darts.specs.Operation.{Kind, undone}
use Rattle.darts.specs.State.{State, zeros, Result, gives, refuses, reduce}
use Rattle.darts.specs.Levels.{sweep, undo_level, unfold_to}
use Rattle.darts.specs.Pyramid.{is_pyramid}
use Rattle.darts.specs.Calls.{After, leaves, fitting as fittingPlain, table_of, past_of, cleared, begins, hands_back}
use Rattle.sheets.specs.Records.{fit_of, at}
use Rattle.sheets.specs.Sheets.{Sheets, Merge, merged_by, returned_by}
use Rattle.yarn.specs.Places.{is_place, merges}
use Rattle.yarn.specs.Given.{given}

pub record Costed : Type 0 where
  pub plain : After
  pub sheets : Sheets

abbrev pub costed : After → Sheets → Costed
costed a S = record { plain = a; sheets = S }

-- "D places", "D/2 places": less is answer 2, after what the plain call judges
unfoldable pub fitting : ℕ → ℕ → ℕ → ℕ → ℕ → ℕ → Answer
fitting D t h w s k =
    let a : Answer = fittingPlain D t h w in
    if not (eqb a.number 0) then a
    else if not (leb D s && leb (D / 2) k) then too_short
    else done

unfoldable pub fitting_of : ℕ → List ℕ → List ℕ → List ℕ → Sheets → Answer
fitting_of D t h w S = fitting D (length t) (length h) (length w) (length S.sheet) (length S.kept)

-- only the base that undo gives can be a pyramid's
unfoldable pub base_of : State → List ℕ → List ℕ → List ℕ
base_of s t past = undone s.darts (length past) t past

-- "afterwards 4 also covers sheets that no accepted start and these operations give"
unfoldable pub judged : State → List ℕ → List ℕ → List ℕ → Sheets → Answer
judged s t h w S =
    let a : Answer = fitting_of s.darts t h w S in
    let u : List ℕ = table_of s t in
    let past : List ℕ = past_of s h in
    if not (eqb a.number 0) then a
    else if is_pyramid s u past && given s.darts (base_of s u past) (reverse past) S then done
    else no_pyramid

-- ---- the start

-- the lowest of the n places from x on whose record is not fit; where all are, the one after them
unfoldable pub unfit_from : ℕ → List ℕ → Sheets → ℕ → ℕ → ℕ
unfit_from D b S zero x = x
unfit_from D b S (suc n) x = if is_place D b x && not (fit_of (at S.sheet x)) then x else unfit_from D b S n (suc x)

-- "place the first such record"
unfoldable pub first_unfit : ℕ → List ℕ → Sheets → ℕ
first_unfit D b S = unfit_from D b S D 0

-- "16, by the start after 3"
unfoldable pub begins_with : ℕ → List ℕ → List ℕ → List ℕ → Sheets → Verdict → After
begins_with D t h w S permutes =
    let x : ℕ = first_unfit D t S in
    if eqb x D then begins D t h w permutes else leaves (unfit_record x) zeros t h (cleared D w)
begins_with D t h w S (culprits d c) = begins D t h w (culprits d c)

unfoldable pub start_with : ℕ → List ℕ → List ℕ → List ℕ → Sheets → Costed
start_with D t h w S =
    let a : Answer = fitting_of D t h w S in
    let begun : After = begins_with D t h w S (permutation_test D t) in
    costed (if not (eqb a.number 0) then leaves a zeros t h w else begun) S

-- ---- the calls on a state

-- new operations merge, undone ones return what they kept
unfoldable pub carried : (ℕ → Merge) → ℕ → ℕ → Sheets → Sheets
carried ms n m S = if leb n m then merged_by ms n (m - n) S else returned_by ms n (n - m) S

-- from one past to another of the same base b, one of which is the end of the other
unfoldable pub carried_to : ℕ → List ℕ → List ℕ → List ℕ → Sheets → Sheets
carried_to D b past new S =
    let longer : List ℕ = if leb (length past) (length new) then new else past in
    carried (merges D b (reverse longer)) (length past) (length new) S

-- "A refusal changes nothing but the work area.": neither sheet
unfoldable pub sheets_after : State → List ℕ → List ℕ → Sheets → Result → Sheets
sheets_after s t past S (gives z u new) = carried_to s.darts (base_of s t past) past new S
sheets_after s t past S (refuses a) = S

unfoldable pub on_sheets : (State → List ℕ → List ℕ → Result) → State → List ℕ → List ℕ → List ℕ → Sheets → Costed
on_sheets step s t h w S =
    let a : Answer = judged s t h w S in
    let given : Result = step s (table_of s t) (past_of s h) in
    let r : Result = if eqb a.number 0 then given else refuses a in
    costed (hands_back s t h w r) (sheets_after s (table_of s t) (past_of s h) S r)

-- "reduce by a kernel; sweep; undo one level; unfold to level k", each lent both sheets
unfoldable pub reduce_with : Kind → List ℕ → State → List ℕ → List ℕ → List ℕ → Sheets → Costed
reduce_with k es = on_sheets (reduce k es)

unfoldable pub sweep_with : State → List ℕ → List ℕ → List ℕ → Sheets → Costed
sweep_with = on_sheets sweep

unfoldable pub undo_with : State → List ℕ → List ℕ → List ℕ → Sheets → Costed
undo_with = on_sheets undo_level

unfoldable pub unfold_with : ℕ → State → List ℕ → List ℕ → List ℕ → Sheets → Costed
unfold_with k = on_sheets (unfold_to k)
