-- `noting::check::note_check` meets its contract: what is loaded is decided.
use native.Mathlib.Omega.{arith}
use Rattle.area.specs.Shape.{state_with}
use Rattle.engine.proofs.Checking.{too_many_lem, load_no, loaded_area}
use Rattle.noting.proofs.Deciding.{check_no, check_yes, check_takes, check_are}
use Rattle.noting.proofs.check.note_check.Goals as goal
use Rattle.noting.proofs.check.note_check.Goals.{then-d-n-via-then-d-n, then-d-n-via-else-d-n+then-not-load}

pub returns-then-d-n-clause-note_checked : goal.returns-then-d-n-clause-note_checked
returns-then-d-n-clause-note_checked c =
    let room = c.requires.room in let long = c.requires.darts_in_bounds.0 in elim c.then-d-n.branch [
      | then-d-n-via-then-d-n w ↦ rw w.work-is (check_no (too_many_lem (state_with c.args.state) 1 _ _ _ w.if-d-n.true))
      | then-d-n-via-else-d-n+then-not-load w ↦ rw w.work-is
          (check_no (load_no (state_with c.args.state) 1 _ _ room long (omega arith) (omega arith) w.load.ensures w.if-not-load.true))
    ]

pub decide-requires : goal.decide-requires
decide-requires c =
    let room = c.requires.room in let long = c.requires.darts_in_bounds.0 in
    loaded_area (state_with c.args.state) 1 _ _ room long (omega arith) (omega arith) c.load.ensures c.if-not-load.false

pub returns-in_err-base-clause-note_checked : goal.returns-in_err-base-clause-note_checked
returns-in_err-base-clause-note_checked c =
    let room = c.requires.room in let long = c.requires.darts_in_bounds.0 in rw c.from_residual.ensures
    (check_yes (state_with c.args.state) _ _ room long (omega arith) (omega arith) c.load.ensures c.in_err-base.ensures.note_decided)

pub present-requires : goal.present-requires
present-requires c =
    let room = c.requires.room in let long = c.requires.darts_in_bounds.0 in let δ = c.in_ok-base.ensures in
    check_takes (state_with c.args.state) _ _ room long (omega arith) (omega arith) c.load.ensures δ.note_decided δ.finds_cycles

pub returns : goal.returns
returns c =
    let room = c.requires.room in let long = c.requires.darts_in_bounds.0 in let δ = c.in_ok-base.ensures in record {
      note_checked = check_yes (state_with c.args.state) _ _ room long (omega arith) (omega arith) c.load.ensures δ.note_decided;
      finds_cycles = check_are (state_with c.args.state) _ _ room long (omega arith) (omega arith) c.load.ensures δ.note_decided δ.finds_cycles
          c.present.ensures;
    }
