-- Fields of a file's lines, and fields laid into an output that may be too short.
--   Fitted w w' at r xs == r is the place after xs, and where that is within w, w' is w with xs laid at a place
--   field_line w x end   == the bytes w, a number, and the bytes end
--   count_line k n       == the line of a kernel of n operations of kind k
use Rattle.std.specs.Prelude.{◌≡◌, refl, List, ◌++◌, ℕ, ◌+◌, ◌≤◌, length}
use Rattle.darts.specs.Operation.{Kind}
use Rattle.darts.specs.Pyramid.{Kernel}
use Rattle.darts.specs.Text.{bytes, decimal}
use Rattle.darts.specs.File.{line_feed, kind_word, kernel_line}
use Rattle.slices.specs.Laid.{laid}

pub record Fitted (w w' : List ℕ) (at r : ℕ) (xs : List ℕ) : Type 0 where
  pub size : length w' ≡ length w
  pub next : r ≡ at + length xs
  pub slice : r ≤ length w → w' ≡ laid w at xs

unfoldable pub field_line : List ℕ → ℕ → List ℕ → List ℕ
field_line w x end = w ++ (decimal x ++ end)

-- "`kernel=contract N` or `kernel=remove N`, N its count of operations"
unfoldable pub count_line : Kind → ℕ → List ℕ
count_line k n = bytes "kernel=" ++ field_line (kind_word k) n line_feed

-- the line of a kernel says its kind and how many edges it has
pub kernel_count : (k : Kernel) → kernel_line k ≡ count_line k.kind (length k.edges)
unfolding kernel_line count_line field_line
kernel_count k = refl
