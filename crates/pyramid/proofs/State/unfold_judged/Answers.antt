-- `pyramid::State::unfold_judged` meets its contract: levels taken back in the work area, and then stored.
use mathlib.Core.Path.{refl}
use native.Mathlib.Omega.{arith}
use Rattle.darts.specs.Calls.{unfold_by}
use Rattle.engine.proofs.Ready.{beyond_refl}
use Rattle.pyramid.proofs.Judges.{stacked_of, room_then}
use Rattle.pyramid.proofs.OnState.{act_refused, act_given}
use Rattle.pyramid.proofs.BackInside.{no_level_above, unfold_stepped, store_fits}
use Rattle.pyramid.proofs.Started.{bare}
use Rattle.pyramid.proofs.State.unfold_judged.Goals as goal

pub clear-requires : goal.clear-requires
clear-requires c = room_then c.requires refl (beyond_refl _ _)

pub returns-then-top-level : goal.returns-then-top-level
unfolding unfold_by
returns-then-top-level c =
    rw c.clear.ensures
    (act_refused _ c.requires refl (beyond_refl _ _) (no_level_above _ _ _ _ c.if-top-level.true)
    (λ z. omega arith, λ z. omega arith) (bare c.refused.ensures))

pub unfolded-s-requires : goal.unfolded-s-requires
unfolded-s-requires c = stacked_of c.requires refl

pub store-requires : goal.store-requires
store-requires c =
    let r = store_fits c.requires refl c.unfolded-s.ensures in record { room = r.0; m_le_d = r.1 }

pub clear-requires-2 : goal.clear-requires-2
clear-requires-2 c =
    room_then c.requires refl c.unfolded-s.ensures.beyond

pub shape_of-work : goal.shape_of-work
shape_of-work c = omega (arith, c)

pub returns : goal.returns
unfolding unfold_by
returns c =
    let d = c.store.ensures in
    let j = c.requires in
    let U = c.unfolded-s.ensures in
    rw (d.table_after, d.history_after, c.clear-2.ensures)
    (act_given _ j refl U.beyond (unfold_stepped j refl c.if-top-level.false U) (bare c.done.ensures))
