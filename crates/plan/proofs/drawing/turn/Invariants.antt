-- `plan::drawing::turn`: what laying the courses from y on gives is what laying all of them gave. The measure is what is left of the courses.
use Rattle.plan.proofs.Turned.{Turning}
use Rattle.plan.proofs.drawing.turn.Given as goal

abbrev pub invariant-loop-y : goal.invariant-loop-y
invariant-loop-y l = Turning l.wales l.courses l.drawing l.initial.plan l.plan l.y
