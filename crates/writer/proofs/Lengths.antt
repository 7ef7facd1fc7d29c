-- How long the lines of a file are.
--   field_length == a field: its words and its digits
--   field_short, head_short, pair_short, count_short == the most bytes of a field, of the first three lines, of a pair's and of a kernel's
use mathlib.Core.Path.{◌≡◌}
use mathlib.Core.List.{List, [], ◌∷◌}
use Prim.Native.Nat.{ℕ, ◌+◌, ◌≤◌}
use native.Mathlib.Omega.{arith}
use lib.ListN.{length, length-append}
use Rattle.darts.specs.Operation.{Kind, contraction, removal}
use Rattle.darts.specs.Text.{bytes, decimal}
use Rattle.darts.specs.File.{line_feed, kind_word, pair_lines}
use Rattle.writer.specs.Fields.{field_line, count_line}
use Rattle.writer.specs.Writing.{head_lines}
use Rattle.writer.proofs.Decimal.{decimal_short}

pub field_length : (w : List ℕ) (x : ℕ) (end : List ℕ) → length (field_line w x end) ≡ length w + length (decimal x) + length end
unfolding field_line
field_length w x end = simp length-append (omega arith)

pub field_short : (w : List ℕ) (x : ℕ) (end : List ℕ) → length (field_line w x end) ≤ length w + 5 + length end
field_short w x end = omega (arith, field_length w x end, decimal_short x)

pub head_short : (D L : ℕ) → length (head_lines D L) ≤ 35
unfolding head_lines
head_short D L =
    let l = field_short (bytes "numbers=0\ndarts=") D line_feed in
    let m = field_short (bytes "levels=") L line_feed in
    simp length-append (omega arith)

pub pair_short : (a b : ℕ) → length (pair_lines (a ∷ b ∷ [])) ≤ 17
unfolding pair_lines
pair_short a b = let l = decimal_short a in let m = decimal_short b in simp length-append (omega arith)

pub count_short : (k : Kind) (n : ℕ) → length (count_line k n) ≤ 22
unfolding count_line kind_word
count_short contraction n = let l = field_short (bytes "contract ") n line_feed in omega arith
count_short removal n = let l = field_short (bytes "remove ") n line_feed in omega arith
