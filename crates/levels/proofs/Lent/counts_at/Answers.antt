-- `levels::Lent::counts_at`: counts go on from what unfold left.
use mathlib.Core.Path.{ap, ◌∙◌}
use Rattle.levels.specs.Report.{counted, counts_at}
use Rattle.levels.proofs.Lent.counts_at.Goals as goal

pub returns : goal.returns
unfolding counts_at
returns c = c.counts.ensures ∙ ap counted c.unfolded.ensures
