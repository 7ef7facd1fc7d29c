-- What the program makes of a drawing.
--   called b g plan t h w == the base of a plan, alone or with its first kernel, as b asks
--   drawn b d t h w       == that call on the plan of the drawing d
--   written a o           == what is left once the state that a call handed back is written to the output o; a refusal stays as it is
--   printed b d t h w o   == the answer to the drawing d, with its file in the output where that is 0
--   Holds a t h w o       == the table, the history, the work area and the output are what a leaves
use Rattle.std.specs.Prelude.{List, ℕ, ◌≡◌, eqb}
use Rattle.std.specs.Prelude.{if◌then◌else◌}
use Rattle.darts.specs.Calls.{After, Written, write}
use Rattle.grids.specs.Grid.{Grid, flat}
use Rattle.grids.specs.Plans.{plan_base, plan_areas}
use Rattle.plan.specs.declared.words.Wanted.{Wanted}
use Rattle.plan.specs.declared.words.Wanted.TheVariants.{Areas, Base}
use Rattle.plan.specs.Drawing.{wales_of, courses_of, plan_of}

unfoldable pub called : Wanted → Grid → List ℕ → List ℕ → List ℕ → List ℕ → After
called Base g plan t h w = plan_base g plan t h w
called Areas g plan t h w = plan_areas g plan t h w

unfoldable pub drawn : Wanted → List ℕ → List ℕ → List ℕ → List ℕ → After
drawn b d t h w = called b (flat (wales_of d) (courses_of d)) (plan_of d) t h w

unfoldable pub written : After → List ℕ → Written
written a o =
    let filed : Written = write a.state a.table a.history a.work o in
    let refused : Written = record { answer = a.answer; table = a.table; history = a.history; work = a.work; output = o } in
    if eqb a.answer.number 0 then filed else refused

unfoldable pub printed : Wanted → List ℕ → List ℕ → List ℕ → List ℕ → List ℕ → Written
printed b d t h w o = written (drawn b d t h w) o

pub record Holds (a : Written) (t h w o : List ℕ) : Type 0 where
  pub table : t ≡ a.table
  pub history : h ≡ a.history
  pub work : w ≡ a.work
  pub output : o ≡ a.output
