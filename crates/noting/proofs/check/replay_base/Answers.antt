-- `noting::check::replay_base` meets its contract: marking writes over the map, which the replay does not read.
use mathlib.Core.Path.{refl}
use native.Mathlib.Omega.{arith}
use Rattle.engine.proofs.Around.{step_perm}
use Rattle.engine.proofs.Beside.{beside_area}
use Rattle.engine.proofs.Counts.{kind_counted, both_counted}
use Rattle.engine.proofs.Handed.{some_then, if_then}
use Rattle.engine.proofs.Tries.{kind_grown}
use Rattle.noting.proofs.OnBase.{marked_room, marked_falls, marked_numbered, marked_starts, base_no, base_yes}
use Rattle.noting.proofs.check.replay_base.Goals as goal

pub returns-in_default : goal.returns-in_default
returns-in_default c =
    record {
      base_replayed = base_no c.requires.area (kind_grown 1 c.in_default.ensures.kind_tried) refl;
      finds_cycles = tt;
    }

pub label-vertices-requires : goal.label-vertices-requires
label-vertices-requires c =
    let A = beside_area c.in-Ok.ensures.kind_tried.outside c.requires.area in
    record { room = A.room; perm = step_perm A 1 (omega arith) }

pub replay-requires : goal.replay-requires
replay-requires c =
    let s = c.requires in
    let K = kind_grown 1 c.in-Ok.ensures.kind_tried in
    let L = c.label-vertices.ensures.labelled in
    let M = c.mark.ensures in
    record {
      room = marked_room s.area s.numbered s.n_bound K L M;
      falls = marked_falls s.area s.numbered s.n_bound K L M;
      numbered = marked_numbered s.area s.numbered s.n_bound K L M;
      n_bound = s.n_bound;
      starts = marked_starts s.area s.numbered s.n_bound K L M;
    }

pub returns : goal.returns
returns c =
    let s = c.requires in
    let K = c.in-Ok.ensures in
    let L = c.label-vertices.ensures in
    record {
      base_replayed = rw (c.then_some.ensures, some_then c.replay.result _)
          (base_yes s.area s.numbered s.n_bound (kind_grown 1 K.kind_tried) L.labelled c.mark.ensures c.replay.ensures refl);
      finds_cycles = rw c.then_some.ensures
          (if_then c.replay.result _ _ (both_counted K.kind_tried.outside K.cycles_value
          (kind_counted (beside_area K.kind_tried.outside s.area) (omega arith) L.labelled L.value)));
    }
