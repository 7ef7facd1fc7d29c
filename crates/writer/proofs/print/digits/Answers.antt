-- `writer::print::digits` meets its contract: 0 has one digit, any other number one more than the powers of ten that it reaches.
use native.Mathlib.Omega.{arith}
use Rattle.writer.proofs.Decimal.{one_length, power_length}
use Rattle.writer.proofs.print.digits.Goals as goal

pub returns-in-0 : goal.returns-in-0
returns-in-0 c = omega (arith, one_length c.args.x (omega arith))

pub returns-in_default : goal.returns-in_default
returns-in_default c = omega (arith, power_length _ c.args.x c.ilog10.ensures.power_le c.ilog10.ensures.next_power_gt c.requires)
