-- `lookup::passes::ends_by` meets its contract: the kind is the last bit of the end, and its level the others.
use mathlib.Core.Path.{◌∙◌}
use borrow.Author.Tests.{lt-leb}
use Rattle.lookup.proofs.Passing.{tells_not, tells_so}
use Rattle.lookup.proofs.passes.ends_by.Goals as goal

pub returns-then-end-ge2 : goal.returns-then-end-ge2
returns-then-end-ge2 c = c.eq.ensures ∙ tells_so c.from.result c.args.kind c.args.end c.if-end-ge2.true c.from.ensures

pub returns-else-end-ge2 : goal.returns-else-end-ge2
returns-else-end-ge2 c = rw (lt-leb 2 c.args.end c.if-end-ge2.false) (tells_not _ _ c.if-end-ge2.false)
