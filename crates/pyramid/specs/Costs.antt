-- What the steps of a call with sheets ask and leave, beside those of the plain call.
--   merges_for s t h i     == what operation i of the lent history merges
--   costs o t h w s k == what a call with sheets leaves: what it hands back, the lent slices and the lent sheets
--   unsettled_costs c      == what a call with sheets leaves, but for the numbers of vertices and faces
--   costs_left o t h w s k == the same of an outcome, the lent slices and the lent sheets
--   StoodWith s t h w     == the call was judged and done: w holds the map, its forest of vertices judges contractions, its roots are the records' places, and
--                            what each operation merges is noted
--   JudgedWith s t h w v S a == a judges the state s and what is lent, the sheets S too; v is the work area then
--   Righted s t h S       == the sheets are long enough, and given by an accepted start and these operations
--   contracts_with es s t h w S == what a kernel of contractions leaves once it is judged, but for the numbers
--   operations_at k s      == how many operations there are at level k of a state; as many as now where k is not below the top
use Rattle.std.specs.Prelude.{List, reverse, ◌≢◌, ◌≡◌, ℕ, ◌-◌, ◌/◌, ◌≤◌, ◌<◌, T, eqb, leb, get_or, length}
use Rattle.std.specs.Prelude.{if◌then◌else◌}
use Rattle.darts.specs.Answers.{Answer}
use Rattle.darts.specs.Operation.{contraction}
use Rattle.darts.specs.State.{State, reduce}
use Rattle.darts.specs.Calls.{table_of, past_of, work_after, reduce_by}
use Rattle.operations.specs.Trees.{rooted}
use Rattle.engine.specs.Held.{Beyond}
use Rattle.sheets.specs.declared.Zone.{Zone}
use Rattle.sheets.specs.Sheets.{Sheets, Merge}
use Rattle.sheets.specs.Notes.{notes_in}
use Rattle.yarn.specs.Places.{zone_of, merges}
use Rattle.yarn.specs.Given.{given}
use Rattle.yarn.specs.Calls.{Costed, costed, base_of, judged, sheets_after}
use Rattle.pyramid.specs.declared.Outcome.{Outcome}
use Rattle.pyramid.specs.Steps.{Stood}
use Rattle.pyramid.specs.Values.{left, unsettled}

abbrev pub merges_for : State → List ℕ → List ℕ → ℕ → Merge
merges_for s t h = merges s.darts (base_of s (table_of s t) (past_of s h)) (reverse (past_of s h))

abbrev pub costs : Outcome → List ℕ → List ℕ → List ℕ → List Zone → List Zone → Costed
costs o t h w s k = costed (left o t h w) (record { sheet = s; kept = k })

abbrev pub unsettled_costs : Costed → Costed
unsettled_costs c = costed (unsettled c.plain) c.sheets

abbrev pub costs_left : Outcome → List ℕ → List ℕ → List ℕ → List Zone → List Zone → Costed
costs_left o t h w s k = costed (unsettled (left o t h w)) (record { sheet = s; kept = k })

pub record StoodWith (s : State) (t h w : List ℕ) : Type 0 where
  pub stood : Stood s 1 t h w
  pub notes : (i : ℕ) → i < s.operations → notes_in s.darts w i ≡ merges_for s t h i
  pub zones : (x : ℕ) → x < s.darts → rooted s.darts w x ≡ zone_of s.darts (base_of s (table_of s t) (past_of s h)) (reverse (past_of s h)) x

pub record JudgedWith (s : State) (t h w v : List ℕ) (S : Sheets) (a : Answer) : Type 0 where
  pub answer : a ≡ judged s t h w S
  pub refused : a.number ≢ 0 → v ≡ work_after a s.darts w
  pub beyond : a.number ≡ 0 → Beyond s.darts w v
  pub stood : a.number ≡ 0 → StoodWith s t h v

pub record Righted (s : State) (t h : List ℕ) (S : Sheets) : Type 0 where
  pub given : T (given s.darts (base_of s (table_of s t) (past_of s h)) (reverse (past_of s h)) S)
  pub sheet : s.darts ≤ length S.sheet
  pub kept : s.darts / 2 ≤ length S.kept

abbrev pub contracts_with : List ℕ → State → List ℕ → List ℕ → List ℕ → Sheets → Costed
contracts_with es s t h w S =
    costed (unsettled (reduce_by contraction es s t h w))
    (sheets_after s (table_of s t) (past_of s h) S (reduce contraction es s (table_of s t) (past_of s h)))

unfoldable pub operations_at : ℕ → State → ℕ
operations_at k s =
    if leb s.levels k then s.operations
    else if eqb k 0 then 0
    else get_or s.ends (k - 1) 0
