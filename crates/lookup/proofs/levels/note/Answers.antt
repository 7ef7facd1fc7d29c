-- `lookup::levels::note` meets its contract: from the last edge on, what is noted is the first end of each level so far.
use Rattle.lookup.proofs.Shapes.{noting_begins, noting_inside, noting_on}
use Rattle.lookup.proofs.levels.note.Goals as goal

pub loop-end-init : goal.loop-end-init
loop-end-init c = noting_begins (cc (c.iter.ensures.rest)) c.requires.unset

pub bounds-first-end : goal.bounds-first-end
bounds-first-end c = noting_inside c.loop-end.invariant c.requires.ends_in_bounds c.loop-end.auto.first _ _ c.in-Some.ensures.steps

pub loop-end-preserved : goal.loop-end-preserved
loop-end-preserved c = noting_on c.loop-end.invariant c.requires.ends_in_bounds c.loop-end.auto.first _ _ c.in-Some.ensures.steps
