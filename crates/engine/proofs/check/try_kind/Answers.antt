-- `engine::check::try_kind` meets its contract: the trees are labels of the base, and the replay joins them.
use Rattle.darts.proofs.Bits.{bit_small}
use Rattle.operations.proofs.Labels.{labelled_falls}
use Rattle.operations.proofs.Outside.{outside_room}
use Rattle.engine.proofs.Around.{step_perm}
use Rattle.engine.proofs.Counts.{kind_counted}
use Rattle.engine.proofs.Tries.{outside_numbered, kind_replayed}
use Rattle.engine.proofs.check.try_kind.Goals as goal

pub label-cycles-requires : goal.label-cycles-requires
label-cycles-requires c = record { room = c.requires.area.room; perm = step_perm c.requires.area _ (bit_small c.args.kind) }

pub replay-requires : goal.replay-requires
replay-requires c =
    let L = c.label-cycles.ensures.labelled in
    record {
      room = outside_room L.outside c.requires.area.room;
      falls = labelled_falls (step_perm c.requires.area _ (bit_small c.args.kind)) L;
      numbered = outside_numbered L.outside c.requires.numbered;
    }

pub returns-then-replay : goal.returns-then-replay
returns-then-replay c =
    let L = c.label-cycles.ensures in
    let small = bit_small c.args.kind in record {
      kind_tried = rw c.if-replay.true at (kind_replayed c.requires.area small L.labelled c.replay.ensures);
      cycles_value = kind_counted c.requires.area small L.labelled L.value;
    }

pub returns : goal.returns
returns c =
    let L = c.label-cycles.ensures in
    let small = bit_small c.args.kind in record {
      kind_tried = rw c.if-replay.false at (kind_replayed c.requires.area small L.labelled c.replay.ensures);
      cycles_value = kind_counted c.requires.area small L.labelled L.value;
    }
