-- `pyramid::State::undo` meets its contract: it is unfold to the level below.
use mathlib.Core.Path.{◌∙◌}
use Rattle.pyramid.proofs.BackInside.{undo_by_unfold}
use Rattle.pyramid.proofs.State.undo.Goals as goal

pub returns : goal.returns
returns c =
    c.unfold.ensures ∙ undo_by_unfold _ _ _ _ c.level_below.ensures
