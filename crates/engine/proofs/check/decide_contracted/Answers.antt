-- `engine::check::decide_contracted` meets its contract: the faces are counted on the present map, and the contractions replayed on the base decide.
use mathlib.Core.Path.{refl}
use native.Mathlib.Omega.{arith}
use Rattle.area.specs.Shape.{state_with}
use Rattle.engine.proofs.Area.{area_sound}
use Rattle.engine.proofs.Around.{step_perm}
use Rattle.engine.proofs.Contracted.{contracted_no, contracted, contracted_few, contracted_are}
use Rattle.engine.proofs.Counts.{labelled_area}
use Rattle.engine.proofs.Decides.{all_taken}
use Rattle.engine.proofs.check.decide_contracted.Goals as goal

pub label-faces-requires : goal.label-faces-requires
label-faces-requires c = record { room = c.requires.area.room; perm = step_perm c.requires.area 0 (omega arith) }

pub take_back_last-requires : goal.take_back_last-requires
take_back_last-requires c =
    record { sound = area_sound (labelled_area c.requires.area (omega arith) c.label-faces.ensures.labelled); c_le_n = omega arith }

pub returns-then-not-take_back_last : goal.returns-then-not-take_back_last
returns-then-not-take_back_last c =
    record {
      decided = contracted_no (state_with c.args.state) c.requires.area c.label-faces.ensures.labelled c.take_back_last.ensures c.if-not-take_back_last.true;
      finds_cycles = tt;
    }

pub try_kind-requires : goal.try_kind-requires
try_kind-requires c =
    let A = labelled_area c.requires.area (omega arith) c.label-faces.ensures.labelled in
    let base = all_taken (state_with c.args.state) A c.take_back_last.ensures c.if-not-take_back_last.false in
    record { area = base.0; numbered = base.1 }

pub returns-in_default : goal.returns-in_default
returns-in_default c =
    record {
      decided = contracted (state_with c.args.state) c.requires.area c.label-faces.ensures.labelled c.take_back_last.ensures c.if-not-take_back_last.false
          c.requires.work_value c.requires.work_value_2 c.in_default.ensures.kind_tried;
      finds_cycles = tt;
    }

pub overflow_sub-vertices : goal.overflow_sub-vertices
overflow_sub-vertices c =
    let K = c.in-Ok.ensures in
    contracted_few (state_with c.args.state) c.requires.area c.label-faces.ensures.labelled c.take_back_last.ensures c.if-not-take_back_last.false
    c.requires.work_value c.requires.work_value_2 K.kind_tried refl K.cycles_value

pub returns : goal.returns
returns c =
    let K = c.in-Ok.ensures in record {
      decided = contracted (state_with c.args.state) c.requires.area c.label-faces.ensures.labelled c.take_back_last.ensures c.if-not-take_back_last.false
          c.requires.work_value c.requires.work_value_2 K.kind_tried;
      finds_cycles = contracted_are (state_with c.args.state) c.requires.area c.label-faces.ensures.labelled c.take_back_last.ensures
          c.if-not-take_back_last.false c.requires.work_value c.requires.work_value_2 K.kind_tried refl K.cycles_value c.label-faces.ensures.value;
    }
