-- What program `levels` reports of a file (document 01, "The file").
--   unfolded, counted  == unfold and counts, on what the call before them left
--   level_at k b t h w  == what is left of what was lent, once the file b is read and unfolded to level k
--   counts_at k b t h w == what the counts of that level leave
--   Tables t h w       == the program's tables
--   meant b            == what the file b means to the program
--   answer_to r         == the reader's answer to what a file means
--   top_of r            == the top level of what a file means
--   counts_of_level k r  == the counts of its level k
--   Refused b a        == the file b is refused with the answer a
--   Accepted b n       == the file b is accepted, and its top level is n
--   LineOf k b c       == level k of the file b gets a line, with the counts c
--   AllLines n b       == n lines, from level 0 on, are a line for each level of the file b
use Rattle.std.specs.Prelude.{List, ◌≢◌, ◌≡◌, ℕ, ◌+◌, ◌≤◌, length}
use Rattle.darts.specs.Answers.{Answer, done}
use Rattle.darts.specs.State.{Result, gives, refuses}
use Rattle.darts.specs.Levels.{unfold_to}
use Rattle.darts.specs.Counts.{Counts, counts_of, no_counts}
use Rattle.darts.specs.Read.{Read, means, faulty, read_file}
use Rattle.darts.specs.Calls.{After, Counted, room, unfold_by, counts, read}

-- a call on what the one before it left
abbrev pub unfolded : ℕ → After → After
unfolded k a = unfold_by k a.state a.table a.history a.work

abbrev pub counted : After → Counted
counted a = counts a.state a.table a.history a.work

-- read, then unfold to level k, then counts
unfoldable pub level_at : ℕ → List ℕ → List ℕ → List ℕ → List ℕ → After
level_at k b t h w = unfolded k (read b t h w)

unfoldable pub counts_at : ℕ → List ℕ → List ℕ → List ℕ → List ℕ → Counted
counts_at k b t h w = counted (level_at k b t h w)

-- "with tables for 4,096 darts": "the table with at least D numbers, the history with D/2 and the work area with 4D"
pub record Tables (t h w : List ℕ) : Type 0 where
  pub table : length t ≡ 4096
  pub history : length h ≡ 2048
  pub work : length w ≡ 16384

-- "Program `levels` reads a file on standard input with tables for 4,096 darts."
unfoldable pub meant : List ℕ → Read
meant b = read_file (room 4096 2048 16384) b

unfoldable pub answer_to : Read → Answer
answer_to (means s t past) = done
answer_to (faulty D a) = a

unfoldable pub top_of : Read → ℕ
top_of (means s t past) = s.levels
top_of (faulty D a) = 0

-- the counts of what a step gives
unfoldable pub counts_given : Result → Counts
counts_given (gives s t past) = counts_of s.darts t past
counts_given (refuses a) = no_counts

unfoldable pub counts_of_level : ℕ → Read → Counts
counts_of_level k (means s t past) = counts_given (unfold_to k s t past)
counts_of_level k (faulty D a) = no_counts

-- "A refused file gets one line, `refusal=N place=P`, and no other."
pub record Refused (b : List ℕ) (a : Answer) : Type 0 where
  pub refused : a.number ≢ 0
  pub answer : a ≡ answer_to (meant b)

pub record Accepted (b : List ℕ) (n : ℕ) : Type 0 where
  pub accepted : (answer_to (meant b)).number ≡ 0
  pub top : n ≡ top_of (meant b)

-- "Each level, base first, gets a line: level number, surviving darts, vertices, faces, Euler number"
pub record LineOf (k : ℕ) (b : List ℕ) (c : Counts) : Type 0 where
  pub accepted : (answer_to (meant b)).number ≡ 0
  pub level : k ≤ top_of (meant b)
  pub counts : c ≡ counts_of_level k (meant b)

-- "then `end=ok`"
pub record AllLines (n : ℕ) (b : List ℕ) : Type 0 where
  pub accepted : (answer_to (meant b)).number ≡ 0
  pub lines : n ≡ top_of (meant b) + 1
