-- `writer::print::fit_field` meets its contract: the length of the field says whether it fits.
use native.Mathlib.Omega.{arith}
use Rattle.writer.specs.Fields.{field_line}
use Rattle.writer.proofs.Decimal.{decimal_short}
use Rattle.writer.proofs.Lengths.{field_length}
use Rattle.writer.proofs.Fitted.{fitted_not}
use Rattle.writer.proofs.print.fit_field.Goals as goal

pub overflow_add-next-2 : goal.overflow_add-next-2
overflow_add-next-2 c = omega (arith, decimal_short c.args.x)

pub overflow_add-next-3 : goal.overflow_add-next-3
overflow_add-next-3 c = omega (arith, decimal_short c.args.x)

pub put_field-requires : goal.put_field-requires
put_field-requires c =
    record { x_bound = omega arith; space = record { fits = omega (arith, field_length c.args.w.now c.args.x c.args.end.now) } }

pub returns : goal.returns
returns c =
    fitted_not c.args.output.now c.args.at (field_line c.args.w.now c.args.x c.args.end.now)
    (omega (arith, field_length c.args.w.now c.args.x c.args.end.now)) (omega arith)
