-- `plans::laying::left_of` meets its contract: the partner of an edge's even dart is its odd one.
use Rattle.plans.proofs.OddDart.{odd_dart_lem}
use Rattle.plans.proofs.laying.left_of.Goals as goal

pub returns : goal.returns
returns c = odd_dart_lem _ c.right_of.ensures c.partner.ensures
