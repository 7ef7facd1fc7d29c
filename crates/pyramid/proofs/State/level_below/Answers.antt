-- `pyramid::State::level_below` meets its contract: the test is the law's own.
use borrow.Author.Tests.{eq-eqb, ne_eqb}
use Rattle.pyramid.proofs.State.level_below.Goals as goal

pub returns-then-self-eq0 : goal.returns-then-self-eq0
returns-then-self-eq0 c = rw (eq-eqb c.args.self.levels 0 c.if-self-eq0.true)

pub returns : goal.returns
returns c = rw (ne_eqb c.args.self.levels 0 c.if-self-eq0.false)
