-- What C holds, as the definitions have it.
--   state_in a               == the state of 69 numbers: darts, operations, levels, vertices, faces, then the 64 level ends
--   tally_in c e             == the counts of three numbers (surviving darts, vertices, faces) and the Euler number
--   answer_in n p s          == the answer of a number and two places
--   Handed o n p s a        == an outcome as the number that is returned, the places that are written and the state's numbers
--   left_in n p s a t h w    == what a call leaves: the number, the places, the state's numbers, and the lent slices
--   counted_in n p s y t h w == what counts leave
--   filed_in n p s t h w o   == what the writer leaves
--   looked_in n p s d c t h w == what a lookup leaves: the number, the places, the dart, the count, and the lent slices
use Rattle.std.specs.Prelude.{List, ◌≡◌, ℕ, ℤ, get_or, drop}
use Rattle.darts.specs.Answers.{Answer}
use Rattle.darts.specs.Calls.{After, Counted, Written, leaves}
use Rattle.darts.specs.Cases.{answer_of}
use Rattle.darts.specs.State.{State}
use Rattle.darts.specs.Counts.{Counts as Tally}
use Rattle.ends.specs.Lookup.{Looked}
use Rattle.pyramid.specs.Values.{state_of}
use Rattle.pyramid.specs.declared.Outcome.{Outcome}

abbrev pub state_in : List ℕ → State
state_in a = record { darts = get_or a 0 0; operations = get_or a 1 0; levels = get_or a 2 0; vertices = get_or a 3 0; faces = get_or a 4 0; ends = drop 5 a }

abbrev pub tally_in : List ℕ → ℤ → Tally
tally_in c e = record { darts = get_or c 0 0; vertices = get_or c 1 0; faces = get_or c 2 0; euler = e }

abbrev pub answer_in : ℕ → ℕ → ℕ → Answer
answer_in n p s = record { number = n; place = p; second = s }

pub record Handed (o : Outcome) (n p s : ℕ) (a : List ℕ) : Type 0 where
  pub answer : answer_in n p s ≡ answer_of o.answer
  pub state : state_in a ≡ state_of o.state

abbrev pub left_in : ℕ → ℕ → ℕ → List ℕ → List ℕ → List ℕ → List ℕ → After
left_in n p s a t h w = leaves (answer_in n p s) (state_in a) t h w

abbrev pub counted_in : ℕ → ℕ → ℕ → Tally → List ℕ → List ℕ → List ℕ → Counted
counted_in n p s y t h w = record { answer = answer_in n p s; counts = y; table = t; history = h; work = w }

abbrev pub filed_in : ℕ → ℕ → ℕ → List ℕ → List ℕ → List ℕ → List ℕ → Written
filed_in n p s t h w o = record { answer = answer_in n p s; table = t; history = h; work = w; output = o }

abbrev pub looked_in : ℕ → ℕ → ℕ → ℕ → ℕ → List ℕ → List ℕ → List ℕ → Looked
looked_in n p s d c t h w = record { answer = answer_in n p s; found = record { dart = d; passed = c }; table = t; ends = h; work = w }
