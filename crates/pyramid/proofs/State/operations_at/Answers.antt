-- `pyramid::State::operations_at` meets its contract: the tests are the definition's.
use native.Mathlib.Omega.{arith}
use borrow.Author.Tests.{le-leb, lt-leb, eq-eqb, ne_eqb}
use Rattle.pyramid.specs.Costs.{operations_at}
use Rattle.pyramid.proofs.State.operations_at.Goals as goal

pub returns-then-self-level : goal.returns-then-self-level
unfolding operations_at
returns-then-self-level c =
    let a = c.args in
    rw (le-leb a.self.levels a.level (omega arith))

pub returns-then-level-eq0 : goal.returns-then-level-eq0
unfolding operations_at
returns-then-level-eq0 c =
    let a = c.args in
    rw (lt-leb a.self.levels a.level (omega arith), eq-eqb a.level 0 (omega arith))

pub returns : goal.returns
unfolding operations_at
returns c =
    let a = c.args in
    rw (lt-leb a.self.levels a.level (omega arith), ne_eqb a.level 0 (λ z. omega arith))
