-- `script::joining::pair_contracted`: each dart leads on to one that is no higher.
use Rattle.forest.specs.Forest.{Falls}
use Rattle.script.proofs.joining.pair_contracted.Given as goal

abbrev pub invariant-loop-number : goal.invariant-loop-number
invariant-loop-number l = Falls l.zones
