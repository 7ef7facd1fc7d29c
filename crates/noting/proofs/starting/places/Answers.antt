-- `noting::starting::places` meets its contract: the lowest dart of a vertex is the place of its record.
use Rattle.noting.proofs.Placed.{placed_counted}
use Rattle.noting.proofs.starting.places.Goals as goal

pub returns : goal.returns
returns c = record { placed = placed_counted _ _ c.count_base.ensures.base_counted; tests_cycles = c.count_base.ensures.tests_cycles }
