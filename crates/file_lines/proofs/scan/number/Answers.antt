-- `file_lines::scan::number` meets its contract: its tests of the first byte are those of the definition.
use mathlib.Core.Path.{◌≡◌, sym, ◌∙◌}
use native.Mathlib.Omega.{arith}
use Rattle.file_lines.proofs.Byte.{digit_inside}
use Rattle.file_lines.proofs.Number.{number_zero, number_wrong, number_digits}
use Rattle.file_lines.proofs.scan.number.Goals as goal

pub overflow_add-result : goal.overflow_add-result
overflow_add-result c = let inside = digit_inside c.in-Some-eq0.ensures in omega arith

pub returns-in-None : goal.returns-in-None
returns-in-None c = sym (number_wrong _ _ c.in-None.ensures)

pub returns-in-Some-eq0 : goal.returns-in-Some-eq0
returns-in-Some-eq0 c =
    let zero : c.in-Some-eq0.field-0 ≡ 0 = omega arith in
    sym (number_zero _ _ (rw zero at c.in-Some-eq0.ensures))

pub returns-in-Some : goal.returns-in-Some
returns-in-Some c = c.digits.ensures ∙ sym (number_digits _ _ (λ e. omega arith) c.in-Some.ensures)
