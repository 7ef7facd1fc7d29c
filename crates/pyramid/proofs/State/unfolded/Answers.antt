-- `pyramid::State::unfolded` meets its contract. The invariant: what is left to undo from here is what was to be undone from the start.
use native.Mathlib.Omega.{arith}
use Rattle.pyramid.proofs.Lowering.{falling_start, falling_more, falling_end}
use Rattle.pyramid.proofs.State.unfolded.Goals as goal

pub loop-s-init : goal.loop-s-init
loop-s-init c = falling_start c.args.level c.requires

pub lower-s-requires : goal.lower-s-requires
lower-s-requires c = record { stacked = c.loop-s.invariant.stacked; levels_nonzero = omega arith }

pub loop-s-smaller : goal.loop-s-smaller
loop-s-smaller c = omega (arith, c.lower-s.ensures.levels)

pub loop-s-preserved : goal.loop-s-preserved
loop-s-preserved c = falling_more c.loop-s.invariant c.loop-s-test.true c.lower-s.ensures

pub returns : goal.returns
returns c = falling_end c.loop-s.invariant c.loop-s-test.false
