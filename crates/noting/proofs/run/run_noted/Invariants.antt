-- `noting::run::run_noted` meets its contract: the edges that are left run to where the whole kernel runs, and those that were done are noted.
use Rattle.noting.proofs.Running.{Noting}
use Rattle.noting.proofs.run.run_noted.Given as goal

abbrev pub invariant-loop-i : goal.invariant-loop-i
invariant-loop-i l = Noting l.d l.n l.kernel l.initial.work l.i l.work
