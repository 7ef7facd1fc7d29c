-- `lookup::calls::judge` meets its contract: the level, then the dart, then whether it is gone.
use mathlib.Core.Path.{sym, ◌∙◌}
use Rattle.lookup.proofs.Looking.{inside_high, inside_none, inside_gone, inside_done}
use Rattle.lookup.proofs.calls.judge.Goals as goal

pub returns-then-high-k : goal.returns-then-high-k
returns-then-high-k c = inside_high _ _ _ _ c.top-high.ensures c.if-high-k.true

pub returns-then-d-x : goal.returns-then-d-x
returns-then-d-x c = inside_none _ _ _ _ c.top-high.ensures c.if-high-k.false c.if-d-x.true

pub returns-then-gone_by : goal.returns-then-gone_by
returns-then-gone_by c =
    inside_gone _ _ _ _ c.top-high.ensures c.if-high-k.false c.if-d-x.false (sym c.gone_by.ensures ∙ c.if-gone_by.true)

pub returns : goal.returns
returns c =
    inside_done _ _ _ _ c.top-high.ensures c.if-high-k.false c.if-d-x.false (sym c.gone_by.ensures ∙ c.if-gone_by.false)
