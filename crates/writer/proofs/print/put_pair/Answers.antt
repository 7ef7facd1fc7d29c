-- `writer::print::put_pair` meets its contract: a line of a pair is two fields, the second with no word before it.
use mathlib.Core.Path.{◌≡◌}
use mathlib.Core.List.{List, [], ◌∷◌, ◌++◌, append_assoc}
use Prim.Native.Nat.{ℕ}
use native.Mathlib.Omega.{arith}
use Rattle.darts.specs.Text.{bytes}
use Rattle.darts.specs.File.{line_feed, pair_lines}
use Rattle.writer.specs.Fields.{field_line}
use Rattle.writer.proofs.Lengths.{field_short}
use Rattle.writer.proofs.Fitted.{fitted_on}
use Rattle.writer.proofs.print.put_pair.Goals as goal

-- the second number's field
abbrev second : ℕ → List ℕ
second b = field_line [] b line_feed

two_fields : (a b : ℕ) → pair_lines (a ∷ b ∷ []) ≡ field_line (bytes "pair=") a (bytes " ") ++ second b
unfolding pair_lines field_line
two_fields a b = simp append_assoc

pub fit_field-requires : goal.fit_field-requires
fit_field-requires c =
    (omega arith, omega (arith, c.fit_field-second.ensures.next, field_short (bytes "pair=") c.args.a (bytes " ")), omega arith, omega arith)

pub returns : goal.returns
returns c =
    rw (two_fields c.args.a c.args.b) (fitted_on c.fit_field-second.ensures c.fit_field.ensures)
