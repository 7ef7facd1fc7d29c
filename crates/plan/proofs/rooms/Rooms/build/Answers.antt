-- `plan::rooms::Rooms::build`: the first bytes of the plan's room are the codes of the drawing's plan, and the call is the one that is asked for.
use mathlib.Core.Path.{◌∙◌}
use Rattle.plan.specs.Files.{called}
use Rattle.plan.proofs.Files.{drawn_by}
use Rattle.plan.proofs.rooms.Rooms.build.Goals as goal

pub returns-in-Base-clause-built : goal.returns-in-Base-clause-built
unfolding called
returns-in-Base-clause-built c = rw c.in-Base.is (c.plan.ensures ∙ drawn_by _ _ _ _ _ _ c.wales-w.ensures.0 c.turn.ensures)

pub returns-in-Areas-clause-built : goal.returns-in-Areas-clause-built
unfolding called
returns-in-Areas-clause-built c = rw c.in-Areas.is (c.plan_areas.ensures ∙ drawn_by _ _ _ _ _ _ c.wales-w.ensures.0 c.turn.ensures)
