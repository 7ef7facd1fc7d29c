-- `plan::drawing::turn`: what laying the courses from y on gives is what laying all of them gave.
use borrow.Author.Rules.{rules}
use Rattle.plan.proofs.Turned.{turn_begin, turn_on, turn_end}
use Rattle.plan.proofs.drawing.turn.Goals as goal

pub loop-y-init : goal.loop-y-init
loop-y-init c = turn_begin _ _ _ _

pub loop-y-preserved : goal.loop-y-preserved
loop-y-preserved c = turn_on c.requires c.loop-y.invariant c.loop-y-test.true c.copy_from_slice.ensures.after

pub returns : goal.returns
returns c = search (rules, turn_end)
