-- `levels::Lent::unfolded`: unfold goes on from what read left.
use mathlib.Core.Path.{ap, ◌∙◌}
use Rattle.levels.specs.Report.{unfolded, level_at}
use Rattle.levels.proofs.Lent.unfolded.Goals as goal

pub returns : goal.returns
unfolding level_at
returns c =
    c.unfold.ensures ∙ ap (unfolded c.args.k)
    c.read.ensures
