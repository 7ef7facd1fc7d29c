-- `operations::trees::link` meets its contract: what is joined in the lent part.
use Rattle.operations.proofs.Lent.{joined, lent_top}
use Rattle.operations.proofs.trees.link.Goals as goal

pub link-requires-clause-top : goal.link-requires-clause-top
link-requires-clause-top c =
    let inside = c.requires.u_lt_d in
    let own = c.requires.u_value in
    (lent_top c.requires.room c.requires.falls inside.0 own.0, lent_top c.requires.room c.requires.falls inside.1 own.1)

pub returns : goal.returns
returns c = joined c.requires.room c.link.ensures
