-- `levels::level`: the next level's number fits, since no file has more than 64 levels; one line more is said.
use Rattle.std.proofs.Common.{arith}
use Rattle.levels.proofs.ReportLines.{line_most}
use Rattle.levels.proofs.level.Goals as goal

pub overflow_add-result : goal.overflow_add-result
overflow_add-result g c = omega (arith, line_most c.requires)

pub returns : goal.returns
returns g c = omega arith
