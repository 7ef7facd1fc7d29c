-- What writing a file leaves.
--   head_lines D L == the first three lines
--   file_in s w    == the file of the pyramid of the state s whose darts are numbered in the work area w
--   FileWritten s t past o o' r == r answers for the file of this pyramid, and o' is the output o with the file over it where that fits
use Rattle.std.specs.Prelude.{List, ◌++◌, ◌≡◌, ℕ, ltb, length, take, Result, Ok, Err}
use Rattle.std.specs.Prelude.{if◌then◌else◌}
use Rattle.darts.specs.State.{State}
use Rattle.darts.specs.Pyramid.{cut}
use Rattle.darts.specs.Text.{bytes}
use Rattle.darts.specs.File.{line_feed, kernel_lines, pair_lines, file_of}
use Rattle.slices.specs.Over.{over}
use Rattle.area.specs.Shape.{history_in}
use Rattle.darts.specs.declared.Refusal.{Refusal}
use Rattle.darts.specs.declared.Refusal.TheVariants.{TooShort}
use Rattle.writer.specs.Fields.{field_line}
use Rattle.writer.specs.Numbering.{entries_in}

unfoldable pub head_lines : ℕ → ℕ → List ℕ
head_lines D L = field_line (bytes "numbers=0\ndarts=") D line_feed ++ field_line (bytes "levels=") L line_feed

unfoldable pub file_in : State → List ℕ → List ℕ
file_in s w =
    head_lines s.darts s.levels
    ++ (kernel_lines (cut 0 (take s.levels s.ends) (history_in s.darts s.operations w)) ++ pair_lines (entries_in s.darts w))

pub record FileWritten (s : State) (t past o o' : List ℕ) (r : Result ℕ Refusal) : Type 0 where
  pub answer :
      r ≡ (if ltb (length o) (length (file_of s t past)) then Err (TooShort (length (file_of s t past))) else Ok (length (file_of s t past)))
  pub output : o' ≡ (if ltb (length o) (length (file_of s t past)) then o else over (file_of s t past) o)
