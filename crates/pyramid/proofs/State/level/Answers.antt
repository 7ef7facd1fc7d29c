-- `pyramid::State::level` meets its contract: the ways that a level more ends.
use Rattle.pyramid.proofs.Raising.{level_full, level_stops, level_empty, level_raised}
use Rattle.pyramid.proofs.Started.{bare}
use Rattle.pyramid.proofs.State.level.Goals as goal

pub returns-then-self-ge64 : goal.returns-then-self-ge64
returns-then-self-ge64 c = level_full _ _ _ _ c.if-self-ge64.true _ _ (bare c.refused.ensures)

pub returns-in-Err : goal.returns-in-Err
returns-in-Err c = level_stops _ _ _ _ c.if-self-ge64.false c.requires c.in-Err.is _ (bare c.refused-in-Err.ensures)

pub returns-then-m-n : goal.returns-then-m-n
returns-then-m-n c = level_empty _ _ _ _ c.if-self-ge64.false c.requires c.in-Ok.is _ c.if-m-n.true (bare c.refused-then-m-n.ensures)

pub returns-else-m-n : goal.returns-else-m-n
returns-else-m-n c =
    let d = c.store.ensures in
    rw (d.table_after, d.history_after)
    (level_raised _ _ _ _ c.if-self-ge64.false c.requires c.in-Ok.is _ c.if-m-n.false c.raised.ensures c.done.ensures)
