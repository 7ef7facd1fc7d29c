-- `plans::sizes::darts_of` meets its contract: two darts an edge.
use mathlib.Core.Path.{refl}
use Rattle.grids.specs.Grid.{along, edges}
use Rattle.plans.proofs.sizes.darts_of.Goals as goal

pub returns : goal.returns
unfolding edges along
returns c = refl
