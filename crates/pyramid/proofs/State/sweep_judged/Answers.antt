-- `pyramid::State::sweep_judged` meets its contract: one level more, once the call is judged.
use mathlib.Core.Path.{refl}
use Rattle.darts.specs.Calls.{sweep_by}
use Rattle.engine.proofs.Ready.{beyond_refl}
use Rattle.pyramid.proofs.ByRun.{sweep_levels, level_full, level_halts, level_ends}
use Rattle.pyramid.proofs.Judges.{room_then}
use Rattle.pyramid.proofs.Started.{bare}
use Rattle.pyramid.proofs.State.sweep_judged.Goals as goal

pub full-requires : goal.full-requires
full-requires c = room_then c.requires refl (beyond_refl _ _)

pub returns-then-self-ge64 : goal.returns-then-self-ge64
unfolding sweep_by
returns-then-self-ge64 c =
    rw c.full.ensures.work_after (level_full sweep_levels c.if-self-ge64.true c.requires refl (bare c.full.ensures.hands))

pub sweep-m-requires : goal.sweep-m-requires
sweep-m-requires c = (c.requires.checked refl).area refl

pub level_cleared-requires : goal.level_cleared-requires
level_cleared-requires c = level_halts sweep_levels c.requires refl c.sweep-m.ensures

pub returns : goal.returns
unfolding sweep_by
returns c = level_ends sweep_levels c.requires refl c.sweep-m.ensures c.level_cleared.ensures
