-- `plans::calls::plan` meets its contract: refused, or the base laid and the work area cleared.
use mathlib.Core.Path.{◌∙◌}
use Rattle.grids.specs.Plans.{plan_base}
use Rattle.plans.proofs.Fits.{fitted, fitted_room}
use Rattle.plans.proofs.Limits.{sized_facts}
use Rattle.plans.proofs.Planned.{plan_refused, base_begun}
use Rattle.plans.proofs.calls.plan.Goals as goal

pub returns-in-Err : goal.returns-in-Err
unfolding plan_base
returns-in-Err c =
    plan_refused _ _ _ _ _ _ c.unbased.result _ c.in-Err.ensures c.unbased.ensures

pub lay_base-requires : goal.lay_base-requires
lay_base-requires c = let f = fitted _ _ _ _ _ c.in_default.ensures in record { sized = sized_facts _ _ f.sizes; c_in_bounds = f.lengths.table }

pub darts_of-requires : goal.darts_of-requires
darts_of-requires c = sized_facts _ _ (fitted _ _ _ _ _ c.in_default.ensures).sizes

pub clear-requires : goal.clear-requires
clear-requires c = rw c.darts_of.ensures (fitted_room _ _ _ _ _ (fitted _ _ _ _ _ c.in_default.ensures))

pub base_of-requires : goal.base_of-requires
base_of-requires c = (fitted _ _ _ _ _ c.in_default.ensures).sizes

pub returns : goal.returns
returns c =
    let H = c.done.ensures in
    rw (c.lay_base.ensures, c.clear.ensures, c.darts_of.ensures)
    (base_begun _ _ _ _ _ c.in_default.ensures c.done.result (record { answer = H.answer; state = H.state ∙ c.base_of.ensures }))
