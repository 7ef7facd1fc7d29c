-- `operations::trees::join` meets its contract: what is joined in the lent part.
use Rattle.operations.proofs.Lent.{joined}
use Rattle.operations.proofs.trees.join.Goals as goal

pub returns : goal.returns
returns c = joined c.requires.room c.join.ensures
