-- `operations::cycles::label_cycle` meets its contract: the walk from i marks a dart at each step, and each step leaves one fewer back to i.
use Rattle.darts.specs.Kinds.{bit}
use Rattle.operations.specs.Cycles.{step_in}
use Rattle.operations.proofs.Steps.{left}
use Rattle.operations.proofs.Marking.{Marking}
use Rattle.operations.proofs.cycles.label_cycle.Given as goal

abbrev pub invariant-loop-x : goal.invariant-loop-x
invariant-loop-x l = Marking l.d (bit l.kind) l.i l.initial.work l.work l.x

abbrev pub decreases-loop-x : goal.decreases-loop-x
decreases-loop-x l = left (step_in l.d (bit l.kind) l.initial.work) l.d l.x l.i
