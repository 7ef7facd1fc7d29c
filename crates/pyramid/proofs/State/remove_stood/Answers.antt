-- `pyramid::State::remove_stood` meets its contract: the faces are labelled on the map as it stands, and then the call goes on as the plain one.
use mathlib.Core.Path.{refl}
use native.Mathlib.Omega.{arith}
use Rattle.darts.specs.Calls.{reduce_by}
use Rattle.engine.proofs.Around.{step_perm}
use Rattle.pyramid.proofs.Judges.{relabelled, stood_of}
use Rattle.pyramid.proofs.OnState.{stood_ends}
use Rattle.pyramid.proofs.ByRun.{plain_reduce}
use Rattle.pyramid.proofs.State.remove_stood.Goals as goal

pub label-requires : goal.label-requires
label-requires c =
    let area = (c.requires.checked refl).area refl in
    record { room = area.room; perm = step_perm area _ (omega arith) }

pub reduce_judged-requires : goal.reduce_judged-requires
reduce_judged-requires c = stood_of (relabelled c.requires (omega arith) c.label.ensures.labelled) refl

pub returns : goal.returns
unfolding reduce_by
returns c = stood_ends _ (relabelled c.requires (omega arith) c.label.ensures.labelled) refl (plain_reduce _ _ _ _ _) c.reduce_judged.ensures
