-- `lookup::walking::gone_by` meets its contract: the level of the dart's end is 1 to k.
use Rattle.permutations.specs.Choice.{eqb_same}
use Rattle.lookup.proofs.Walks.{gone_not, gone_if}
use Rattle.lookup.proofs.walking.gone_by.Goals as goal

pub returns-then-level-ne0 : goal.returns-then-level-ne0
returns-then-level-ne0 c = gone_if _ _ c.at-level.ensures _ c.if-level-ne0.true

pub returns-else-level-ne0 : goal.returns-else-level-ne0
returns-else-level-ne0 c = rw (eqb_same c.if-level-ne0.false) (gone_not _ _ c.at-level.ensures _ c.if-level-ne0.false)
