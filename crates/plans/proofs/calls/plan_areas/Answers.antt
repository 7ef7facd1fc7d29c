-- `plans::calls::plan_areas` meets its contract: refused, or the first kernel run in the work area, and then no edge taken or one level more, with
-- the numbers of the base moved to it.
use Rattle.grids.specs.Plans.{plan_areas}
use Rattle.plans.proofs.Fits.{fitted, fitted_room}
use Rattle.plans.proofs.Limits.{sized_facts}
use Rattle.plans.proofs.Planned.{plan_refused}
use Rattle.plans.proofs.Areas.{areas_room, areas_halts, areas_none, areas_level, areas_settles, areas_settled}
use Rattle.plans.proofs.calls.plan_areas.Goals as goal

pub returns-in-Err : goal.returns-in-Err
unfolding plan_areas
returns-in-Err c =
    plan_refused _ _ _ _ _ _ c.unbased.result _ c.in-Err.ensures c.unbased.ensures

pub darts_of-d-requires : goal.darts_of-d-requires
darts_of-d-requires c = sized_facts _ _ (fitted _ _ _ _ _ c.in_default.ensures).sizes

pub first_kernel-m-requires : goal.first_kernel-m-requires
first_kernel-m-requires c =
    let f = fitted _ _ _ _ _ c.in_default.ensures in
    let d = c.darts_of-d.ensures in
    record { sized = sized_facts _ _ f.sizes; c_in_bounds = f.enough; d_value = d; room = rw d (fitted_room _ _ _ _ _ f) }

pub clear-requires : goal.clear-requires
clear-requires c = rw c.darts_of-d.ensures (areas_room _ _ _ _ _ c.in_default.ensures c.first_kernel-m.ensures)

pub returns-then-m-eq0 : goal.returns-then-m-eq0
returns-then-m-eq0 c =
    rw (c.clear.ensures, c.darts_of-d.ensures)
    (areas_none _ _ _ _ _
    c.in_default.ensures c.first_kernel-m.ensures
    c.unbased-then-m-eq0.result c.if-m-eq0.true c.unbased-then-m-eq0.ensures)

pub base_of-base-requires : goal.base_of-base-requires
base_of-base-requires c = (fitted _ _ _ _ _ c.in_default.ensures).sizes

pub level-o-requires : goal.level-o-requires
level-o-requires c =
    areas_halts _ _ _ _ _ c.in_default.ensures c.first_kernel-m.ensures _ c.base_of-base.ensures

pub clear-requires-2 : goal.clear-requires-2
clear-requires-2 c = rw c.darts_of-d.ensures (areas_room _ _ _ _ _ c.in_default.ensures c.first_kernel-m.ensures)

pub settle-requires : goal.settle-requires
settle-requires c =
    let fits = c.in_default.ensures in
    let W = c.first_kernel-m.ensures in
    let some = c.if-m-eq0.false in
    let base = c.base_of-base.ensures in
    let o = c.level-o.result in
    areas_settles _ _ _ _ _ fits W some o (areas_level _ _ _ _ _ fits W _ base o some c.level-o.ensures) base

pub returns : goal.returns
returns c =
    let fits = c.in_default.ensures in
    let W = c.first_kernel-m.ensures in
    let some = c.if-m-eq0.false in
    let base = c.base_of-base.ensures in
    let o = c.level-o.result in
    rw (c.clear-2.ensures, c.darts_of-d.ensures)
    (areas_settled _ _ _ _ _ fits W some o (areas_level _ _ _ _ _ fits W _ base o some c.level-o.ensures) base c.settle.ensures)
