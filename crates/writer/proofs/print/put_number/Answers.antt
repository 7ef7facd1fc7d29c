-- `writer::print::put_number` meets its contract: each turn of the loop lays the last digit that is left.
use native.Mathlib.Omega.{arith}
use Rattle.writer.proofs.Backward.{backward_begin, backward_on}
use Rattle.writer.proofs.print.put_number.Goals as goal

pub loop-place-init : goal.loop-place-init
loop-place-init c = backward_begin _ _ _ c.requires.x_bound (omega (arith, c.digits.ensures))

pub loop-place-preserved : goal.loop-place-preserved
loop-place-preserved c = backward_on c.requires.space c.loop-place.invariant c.loop-place-test.true
