-- `pyramid::State::sweep_with` meets its contract: what is judged first, or the sweep, which leaves both sheets, and then the numbers put right.
use mathlib.Core.Path.{refl}
use Rattle.darts.proofs.Cases.{refused_number}
use Rattle.laws.proofs.chained.OnLent.{by_sweep}
use Rattle.pyramid.proofs.Judges.{any_kind}
use Rattle.pyramid.proofs.OnSheets.{with_sweep, with_refused, with_settles, with_settled}
use Rattle.pyramid.proofs.State.sweep_with.Goals as goal

pub returns-in-Err : goal.returns-in-Err
returns-in-Err c = with_refused by_sweep c.in-Err.ensures (refused_number _) c.refused.ensures

pub sweep_judged-o-requires : goal.sweep_judged-o-requires
sweep_judged-o-requires c = any_kind (c.in_default.ensures.stood refl).stood

pub settle-requires : goal.settle-requires
settle-requires c =
    let j = c.in_default.ensures in
    let o = c.sweep_judged-o in
    with_settles by_sweep j refl o.result (with_sweep j refl o.ensures)

pub returns : goal.returns
returns c =
    let j = c.in_default.ensures in
    let o = c.sweep_judged-o in
    with_settled by_sweep j refl o.result (with_sweep j refl o.ensures) c.settle.ensures
