-- What the calls with sheets judge beside the records, where slices and sheets are long enough.
--   CheckedWith s t h w v a == a judges the state s and what is lent, but for the sheets' records; v is the work area then, with notes and links
--                              where it is done
--   BeganWith D t w v r     == r judges a start on the table t, but for the records; v is the work area then, with the records' places where it is
--                              done
--   BeginsCycles D t r      == r has the numbers of vertices and faces of the base t, where it is done
use Rattle.std.specs.Prelude.{true, List, [], ◌≢◌, ◌≡◌, ℕ, Result, Ok, IfOk, IfErr, take}
use Rattle.darts.specs.Answers.{Answer}
use Rattle.darts.specs.Calls.{leaves, table_of, past_of}
use Rattle.darts.specs.Cases.{refusal_of}
use Rattle.darts.specs.Pyramid.{Pyramid}
use Rattle.darts.specs.State.{State, zeros}
use Rattle.darts.specs.declared.Refusal.{Refusal}
use Rattle.engine.specs.Counted.{CyclesAre}
use Rattle.engine.specs.declared.Cycles.{Cycles}
use Rattle.sheets.specs.Sheets.{Sheets}
use Rattle.yarn.specs.Calls.{fitting_of, costed, start_with}
use Rattle.noting.specs.Checks.{NoteChecked}
use Rattle.noting.specs.Running.{Placed}
use Rattle.pyramid.specs.Costs.{JudgedWith}

pub record CheckedWith (s : State) (t h w v : List ℕ) (a : Answer) : Type 0 where
  pub refused : a.number ≢ 0 → (S : Sheets) → (fitting_of s.darts t h w S).number ≡ 0 → JudgedWith s t h w v S a
  pub noted : a.number ≡ 0 → NoteChecked s t h w v true
  pub pyramid : a.number ≡ 0 → Pyramid s (table_of s t) (past_of s h)

abbrev pub BeginsCycles : ℕ → List ℕ → Result Cycles Refusal → Type 0
BeginsCycles D t r = IfOk r (λ c. CyclesAre D (take D t) [] c.vertices c.faces)

pub record BeganWith (D : ℕ) (t w v : List ℕ) (r : Result Cycles Refusal) : Type 0 where
  pub refused : IfErr r (λ a. (h : List ℕ) (S : Sheets) → (fitting_of D t h w S).number ≡ 0
      → costed (leaves (refusal_of a) zeros t h v) S ≡ start_with D t h w S)
  pub placed : IfOk r (λ c. Placed D t w v (Ok c))
