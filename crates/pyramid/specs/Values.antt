-- The values of the calls, as the definitions have them.
--   state_of s       == the record that a State is
--   figures_with s v f == the figures of s, with v vertices and f faces
--   figures_of s     == the figures of s, with no numbers
--   base_with D v f  == the state of a base of D darts, with v vertices and f faces
--   Hands o a s     == an outcome is this answer and this state
--   left o t h w    == what a call leaves: what it hands back, and the lent slices
--   unsettled a     == what a call leaves, but for the numbers of vertices and faces
--   tally_of n       == the four numbers that counts hand back
--   tally_in c       == those of a call: "Refused counts are four zeros."
--   counts_left c t h w == what counts leave
use Rattle.std.specs.Prelude.{List, ◌≡◌, ℕ, Result, Ok, Err, replicate}
use Rattle.darts.specs.Answers.{Answer as Answered}
use Rattle.darts.specs.Cases.{answer_of}
use Rattle.darts.specs.State.{State as Stated}
use Rattle.darts.specs.Calls.{After, Counted as CountsAfter, leaves}
use Rattle.darts.specs.Counts.{Counts as Tally, no_counts}
use Rattle.darts.specs.declared.Refusal.{Refusal}
use Rattle.pyramid.specs.declared.State.{State}
use Rattle.pyramid.specs.declared.Outcome.{Outcome}
use Rattle.pyramid.specs.declared.Counts.{Counts}

abbrev pub state_of : State → Stated
state_of s = record { darts = s.darts; operations = s.operations; levels = s.levels; ends = s.ends; vertices = s.vertices; faces = s.faces }

abbrev pub figures_with : Stated → ℕ → ℕ → Stated
figures_with s v f = record { darts = s.darts; operations = s.operations; levels = s.levels; ends = s.ends; vertices = v; faces = f }

abbrev pub figures_of : Stated → Stated
figures_of s = figures_with s 0 0

abbrev pub base_with : ℕ → ℕ → ℕ → Stated
base_with D v f = record { darts = D; operations = 0; levels = 0; ends = replicate 64 0; vertices = v; faces = f }

pub record Hands (o : Outcome) (a : Answered) (s : Stated) : Type 0 where
  pub answer : answer_of o.answer ≡ a
  pub state : state_of o.state ≡ s

abbrev pub left : Outcome → List ℕ → List ℕ → List ℕ → After
left o t h w = leaves (answer_of o.answer) (state_of o.state) t h w

-- what the inner steps of a call leave: the numbers are put right once its work is done
abbrev pub unsettled : After → After
unsettled a = leaves a.answer (figures_of a.state) a.table a.history a.work

abbrev pub tally_of : Counts → Tally
tally_of n = record { darts = n.darts; vertices = n.vertices; faces = n.faces; euler = n.euler }

abbrev pub tally_in : Result Counts Refusal → Tally
tally_in (Ok n) = tally_of n
tally_in (Err r) = no_counts

abbrev pub counts_left : Result Counts Refusal → List ℕ → List ℕ → List ℕ → CountsAfter
counts_left c t h w = record { answer = answer_of c; counts = tally_in c; table = t; history = h; work = w }
