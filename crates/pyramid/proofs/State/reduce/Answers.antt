-- `pyramid::State::reduce` meets its contract: what is judged first, or what comes once it is judged, its numbers put right.
use mathlib.Core.Path.{refl}
use Rattle.darts.proofs.Cases.{refused_number}
use Rattle.darts.specs.Calls.{reduce_by}
use Rattle.darts.specs.Kinds.{kind_is}
use Rattle.laws.proofs.chained.OnLent.{by_kernel}
use Rattle.pyramid.proofs.Judges.{stood_of}
use Rattle.pyramid.proofs.OnState.{call_refused}
use Rattle.pyramid.proofs.ByRun.{plain_reduce}
use Rattle.pyramid.proofs.Settles.{judged_settles, judged_settled}
use Rattle.pyramid.proofs.State.reduce.Goals as goal

pub returns-in-Err : goal.returns-in-Err
unfolding reduce_by
returns-in-Err c = call_refused _ c.in-Err.ensures (refused_number _) c.refused.ensures

pub reduce_judged-o-requires : goal.reduce_judged-o-requires
reduce_judged-o-requires c = stood_of c.in_default.ensures refl

pub settle-requires : goal.settle-requires
settle-requires c =
    let g = c.args in
    judged_settles (by_kernel (record { kind = kind_is g.kind; edges = g.kernel.now })) c.in_default.ensures refl (plain_reduce _ _ _ _ _)
    c.reduce_judged-o.result c.reduce_judged-o.ensures

pub returns : goal.returns
returns c =
    let g = c.args in
    judged_settled (by_kernel (record { kind = kind_is g.kind; edges = g.kernel.now })) c.in_default.ensures refl (plain_reduce _ _ _ _ _)
    c.reduce_judged-o.result c.reduce_judged-o.ensures c.settle.ensures
