-- `pyramid::State::unfold_with` meets its contract: what is judged first, or what was kept put back, then the plain call, and the numbers put right.
use mathlib.Core.Path.{refl}
use native.Mathlib.Omega.{arith}
use Rattle.darts.proofs.Cases.{refused_number}
use Rattle.laws.proofs.runs.Pyramids.{pyramid_built}
use Rattle.laws.proofs.chained.OnLent.{to_level}
use Rattle.pyramid.proofs.Judges.{any_kind}
use Rattle.pyramid.proofs.JudgesWith.{costed_of}
use Rattle.pyramid.proofs.OnSheets.{with_refused, with_settles, with_settled}
use Rattle.pyramid.proofs.UnfoldedWith.{unfold_noted, with_unfold}
use Rattle.pyramid.proofs.State.unfold_with.Goals as goal

pub returns-in-Err : goal.returns-in-Err
returns-in-Err c = with_refused (to_level c.args.level) c.in-Err.ensures (refused_number _) c.refused.ensures

pub operations_at-m-requires : goal.operations_at-m-requires
operations_at-m-requires c = (pyramid_built (costed_of c.in_default.ensures refl).lent.pyramid).layered.most

pub put_all_back-requires : goal.put_all_back-requires
put_all_back-requires c =
    let j = c.in_default.ensures in
    let room = (costed_of j refl).room in
    let area = ((j.stood refl).stood.checked refl).area refl in
    (rw c.operations_at-m.ensures (unfold_noted (j.stood refl) _), room.sheet, omega (arith, room.kept, area.few))

pub unfold_judged-o-requires : goal.unfold_judged-o-requires
unfold_judged-o-requires c = any_kind (c.in_default.ensures.stood refl).stood

pub settle-requires : goal.settle-requires
settle-requires c =
    let k = c.args.level in
    let j = c.in_default.ensures in
    let o = c.unfold_judged-o in
    with_settles (to_level k) j refl o.result (with_unfold k j refl c.operations_at-m.ensures o.ensures c.put_all_back.ensures)

pub returns : goal.returns
returns c =
    let k = c.args.level in
    let j = c.in_default.ensures in
    let o = c.unfold_judged-o in
    with_settled (to_level k) j refl o.result (with_unfold k j refl c.operations_at-m.ensures o.ensures c.put_all_back.ensures) c.settle.ensures
