-- `pyramid::State::undo_with` meets its contract: undo is unfold to the level below.
use mathlib.Core.Path.{◌∙◌}
use Rattle.pyramid.proofs.UnfoldedWith.{undo_with_lem}
use Rattle.pyramid.proofs.State.undo_with.Goals as goal

pub returns : goal.returns
returns c = c.unfold_with.ensures ∙ undo_with_lem _ _ _ _ _ c.level_below.ensures
