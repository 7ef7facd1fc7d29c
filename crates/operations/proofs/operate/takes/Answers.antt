-- `operations::operate::takes` meets its contract: r = q or s = p, and not both, is an empty loop and no whole piece.
use Rattle.std.proofs.Common.{arith}
use Rattle.std.proofs.lemmas.Grind.{common_steps}
use Rattle.darts.specs.Levels.{empty_loop}
use Rattle.darts.specs.Map.{successor}
use Rattle.darts.specs.Operation.{whole_edge}
use Rattle.area.specs.Area.{prev, there}
use Rattle.operations.specs.Operate.{takes_in}
use Rattle.operations.proofs.operate.takes.Goals as goal

pub returns-then-d-at : goal.returns-then-d-at
unfolding takes_in there prev
returns-then-d-at c = grind (arith, common_steps)

pub returns : goal.returns
unfolding takes_in there prev empty_loop whole_edge successor
returns c = grind (arith, common_steps)
