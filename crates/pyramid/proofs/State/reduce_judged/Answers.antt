-- `pyramid::State::reduce_judged` meets its contract: one level more, once the call is judged.
use mathlib.Core.Path.{refl}
use Rattle.darts.specs.Calls.{reduce_by}
use Rattle.darts.proofs.Bits.{bit_small}
use Rattle.engine.proofs.Ready.{beyond_refl}
use Rattle.pyramid.proofs.ByRun.{reduce_levels, level_full, level_halts, level_ends}
use Rattle.pyramid.proofs.Judges.{room_then}
use Rattle.pyramid.proofs.Started.{bare}
use Rattle.pyramid.proofs.State.reduce_judged.Goals as goal

pub full-requires : goal.full-requires
full-requires c = room_then c.requires refl (beyond_refl _ _)

pub returns-then-self-ge64 : goal.returns-then-self-ge64
unfolding reduce_by
returns-then-self-ge64 c =
    rw c.full.ensures.work_after (level_full (reduce_levels refl _) c.if-self-ge64.true c.requires refl (bare c.full.ensures.hands))

pub run-ran-requires : goal.run-ran-requires
run-ran-requires c = (c.requires.checked refl).ready refl (bit_small _)

pub level_cleared-requires : goal.level_cleared-requires
level_cleared-requires c = level_halts (reduce_levels refl _) c.requires refl c.run-ran.ensures

pub returns : goal.returns
unfolding reduce_by
returns c = level_ends (reduce_levels refl _) c.requires refl c.run-ran.ensures c.level_cleared.ensures
