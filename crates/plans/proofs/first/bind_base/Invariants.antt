-- `plans::first::bind_base` meets its contract: each turn notes one dart more.
use Rattle.plans.specs.Prepared.{Bound}
use Rattle.plans.proofs.first.bind_base.Given as goal

abbrev pub invariant-loop-x : goal.invariant-loop-x
invariant-loop-x l = Bound l.d l.x l.initial.work l.work
