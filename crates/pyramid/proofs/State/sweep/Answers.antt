-- `pyramid::State::sweep` meets its contract: what is judged first, or what comes once it is judged, its numbers put right.
use mathlib.Core.Path.{refl}
use Rattle.darts.proofs.Cases.{refused_number}
use Rattle.darts.specs.Calls.{sweep_by}
use Rattle.laws.proofs.chained.OnLent.{by_sweep}
use Rattle.pyramid.proofs.Judges.{stood_of}
use Rattle.pyramid.proofs.OnState.{call_refused}
use Rattle.pyramid.proofs.ByRun.{plain_sweep}
use Rattle.pyramid.proofs.Settles.{judged_settles, judged_settled}
use Rattle.pyramid.proofs.State.sweep.Goals as goal

pub returns-in-Err : goal.returns-in-Err
unfolding sweep_by
returns-in-Err c = call_refused _ c.in-Err.ensures (refused_number _) c.refused.ensures

pub sweep_judged-o-requires : goal.sweep_judged-o-requires
sweep_judged-o-requires c = stood_of c.in_default.ensures refl

pub settle-requires : goal.settle-requires
settle-requires c =
    judged_settles by_sweep c.in_default.ensures refl (plain_sweep _ _ _) c.sweep_judged-o.result c.sweep_judged-o.ensures

pub returns : goal.returns
returns c =
    judged_settled by_sweep c.in_default.ensures refl (plain_sweep _ _ _) c.sweep_judged-o.result c.sweep_judged-o.ensures c.settle.ensures
