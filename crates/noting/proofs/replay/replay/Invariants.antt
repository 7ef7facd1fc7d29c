-- `noting::replay::replay` meets its contract: what is left at each turn answers, joins and merges the same as the whole.
use Rattle.noting.proofs.Replaying.{Replaying}
use Rattle.noting.proofs.replay.replay.Given as goal

abbrev pub invariant-loop-t : goal.invariant-loop-t
invariant-loop-t l = Replaying l.d l.n l.initial.work l.work l.t
