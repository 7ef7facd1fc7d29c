-- `lookup::levels::note` meets its contract: from the last edge on, what is noted is the first end of each level so far.
use Rattle.lookup.proofs.Shapes.{Noting}
use Rattle.lookup.proofs.levels.note.Given as goal

abbrev pub invariant-loop-end : goal.invariant-loop-end
invariant-loop-end l = Noting l.ends l.initial.first l.first l.end-iterator.iter.rest.now
