-- `operations::trees::find` meets its contract: what is found in the lent part.
use Rattle.operations.proofs.Lent.{found}
use Rattle.operations.proofs.trees.find.Goals as goal

pub returns : goal.returns
returns c = found c.requires.room c.find.ensures
