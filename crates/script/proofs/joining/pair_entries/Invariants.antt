-- `script::joining::pair_entries`: each dart leads on to one that is no higher.
use Rattle.forest.specs.Forest.{Falls}
use Rattle.script.proofs.joining.pair_entries.Given as goal

abbrev pub invariant-loop-x : goal.invariant-loop-x
invariant-loop-x l = Falls l.zones
