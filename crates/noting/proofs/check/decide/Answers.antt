-- `noting::check::decide` meets its contract: each no refutes one test, and the yes is that of the last.
use native.Mathlib.Omega.{arith}
use Rattle.area.specs.Shape.{state_with}
use Rattle.engine.proofs.Area.{area_sound}
use Rattle.engine.proofs.Decides.{shape_no, back_no, all_taken}
use Rattle.noting.proofs.Deciding.{decide_no, decide_yes, decide_finds}
use Rattle.noting.proofs.check.decide.Goals as goal
use Rattle.noting.proofs.check.decide.Goals.{then-not-shape-via-then-not-shape, then-not-shape-via-else-not-shape+then-not-take_back_last}

pub take_back_last-requires : goal.take_back_last-requires
take_back_last-requires c = record { sound = area_sound c.requires; c_le_n = omega arith }

pub returns-then-not-shape-clause-note_decided : goal.returns-then-not-shape-clause-note_decided
returns-then-not-shape-clause-note_decided c = elim c.then-not-shape.branch [
  | then-not-shape-via-then-not-shape w ↦ rw w.work-is (decide_no (shape_no (state_with c.args.state) c.requires c.shape.ensures w.if-not-shape.true))
  | then-not-shape-via-else-not-shape+then-not-take_back_last w ↦ rw w.work-is
      (decide_no (back_no (state_with c.args.state) c.requires w.take_back_last.ensures w.if-not-take_back_last.true))
]

pub replay_base-requires : goal.replay_base-requires
replay_base-requires c =
    let base = all_taken (state_with c.args.state) c.requires c.take_back_last.ensures c.if-not-take_back_last.false in
    record { area = base.0; numbered = base.1; n_bound = c.requires.few }

pub returns : goal.returns
returns c =
    record {
      note_decided = decide_yes (state_with c.args.state) c.requires c.take_back_last.ensures c.if-not-take_back_last.false c.shape.ensures
          c.if-not-shape.false c.replay_base.ensures.base_replayed;
      finds_cycles = decide_finds (state_with c.args.state) c.requires c.take_back_last.ensures c.if-not-take_back_last.false c.shape.ensures
          c.if-not-shape.false c.replay_base.result c.replay_base.ensures.finds_cycles;
    }
