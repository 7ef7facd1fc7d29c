-- `levels::levels`: the levels below k have their line.
use Rattle.std.proofs.Common.{◌≡◌}
use Rattle.levels.proofs.levels.Given as goal

abbrev pub invariant-loop-k : goal.invariant-loop-k
invariant-loop-k g l = l.said ≡ l.k
