-- The state, and what a step from one state to the next gives (document 01, "Levels and calls").
--   State              == D, the number of operations, the number of levels, the 64 level ends, and the numbers of vertices and faces
--   storing D n l e t past == the state of these figures, which stores the numbers of its cycles
--   counted s t past   == the figures of s, with the numbers of the cycles of this table and past
--   zeros              == a state of zeros
--   base_state D t      == the state of the base t of D darts
--   Result             == a step gives a state, a table and a past, or it refuses with an answer
--   and_then r f        == the step f after r
--   levelled s past r  == one level more, by the run r of a kernel that began at this past
--   reduce s t past k es == one kernel
use Rattle.std.specs.Prelude.{List, [], ℕ, ◌+◌, eqb, leb, length, replicate, set}
use Rattle.std.specs.Prelude.{if◌then◌else◌}
use Rattle.darts.specs.Answers.{Answer, empty_kernel, too_many_levels}
use Rattle.darts.specs.Operation.{Kind}
use Rattle.darts.specs.Kernel.{Run, stands, stops, run}
use Rattle.darts.specs.Counts.{counts_of}

-- "The state carries D, the number of operations, the number of levels, and the 64 level ends as an array that travels by value (the operation
-- count after each kernel, zero when unused)." "Store both numbers in the state."
pub record State : Type 0 where
  pub darts : ℕ
  pub operations : ℕ
  pub levels : ℕ
  pub ends : List ℕ
  pub vertices : ℕ
  pub faces : ℕ

-- "Every operation and every undo keeps them right": each step gives its state by this one function
abbrev pub storing : ℕ → ℕ → ℕ → List ℕ → List ℕ → List ℕ → State
storing D n l e t past =
    record { darts = D; operations = n; levels = l; ends = e; vertices = (counts_of D t past).vertices; faces = (counts_of D t past).faces }

-- the figures of s, with the numbers of the cycles of this table and past
abbrev pub counted : State → List ℕ → List ℕ → State
counted s t past = storing s.darts s.operations s.levels s.ends t past

abbrev pub zeros : State
zeros = record { darts = 0; operations = 0; levels = 0; ends = replicate 64 0; vertices = 0; faces = 0 }

abbrev pub base_state : ℕ → List ℕ → State
base_state D t = storing D 0 0 (replicate 64 0) t []

pub data Result : Type 0 where
  gives : State → List ℕ → List ℕ → Result
  refuses : Answer → Result

abbrev pub and_then : Result → (State → List ℕ → List ℕ → Result) → Result
and_then (gives s t past) f = f s t past
and_then (refuses a) f = refuses a

-- "It adds one level."
unfoldable pub raised : State → List ℕ → List ℕ → State
raised s t new = storing s.darts (length new) (s.levels + 1) (set s.ends s.levels (length new)) t new

-- a run that took no edge is an empty kernel
unfoldable pub levelled : State → List ℕ → Run → Result
levelled s past (stands t new) =
    if eqb (length new) (length past) then refuses empty_kernel else gives (raised s t new) t new
levelled s past (stops a) = refuses a

-- "There are at most 64 kernels over the base.": 6, then 5, then the kernel's first failing edge
unfoldable pub reduce : Kind → List ℕ → State → List ℕ → List ℕ → Result
reduce k es s t past =
    if leb 64 s.levels then refuses too_many_levels else levelled s past (run k s.darts t past es)
