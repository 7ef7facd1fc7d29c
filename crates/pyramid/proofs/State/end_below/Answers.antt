-- `pyramid::State::end_below` meets its contract: the test is the definition's.
use native.Mathlib.Omega.{arith}
use borrow.Author.Tests.{le-leb, lt-leb}
use Rattle.darts.specs.Levels.{end_below}
use Rattle.pyramid.proofs.State.end_below.Goals as goal

pub returns-then-l-le1 : goal.returns-then-l-le1
unfolding end_below
returns-then-l-le1 c = rw (le-leb c.args.self.levels 1 (omega arith))

pub returns : goal.returns
unfolding end_below
returns c = rw (lt-leb c.args.self.levels 1 (omega arith))
