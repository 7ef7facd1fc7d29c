-- `pyramid::State::unfold` meets its contract: what is judged first, or what comes once it is judged, its numbers put right.
use mathlib.Core.Path.{refl}
use Rattle.darts.proofs.Cases.{refused_number}
use Rattle.darts.specs.Calls.{unfold_by}
use Rattle.laws.proofs.chained.OnLent.{to_level}
use Rattle.pyramid.proofs.Judges.{stood_of}
use Rattle.pyramid.proofs.OnState.{call_refused}
use Rattle.pyramid.proofs.BackInside.{plain_unfold}
use Rattle.pyramid.proofs.Settles.{judged_settles, judged_settled}
use Rattle.pyramid.proofs.State.unfold.Goals as goal

pub returns-in-Err : goal.returns-in-Err
unfolding unfold_by
returns-in-Err c = call_refused _ c.in-Err.ensures (refused_number _) c.refused.ensures

pub unfold_judged-o-requires : goal.unfold_judged-o-requires
unfold_judged-o-requires c = stood_of c.in_default.ensures refl

pub settle-requires : goal.settle-requires
settle-requires c =
    judged_settles (to_level c.args.level) c.in_default.ensures refl (plain_unfold _ _ _ _) c.unfold_judged-o.result c.unfold_judged-o.ensures

pub returns : goal.returns
returns c =
    judged_settled (to_level c.args.level) c.in_default.ensures refl (plain_unfold _ _ _ _) c.unfold_judged-o.result c.unfold_judged-o.ensures c.settle.ensures
