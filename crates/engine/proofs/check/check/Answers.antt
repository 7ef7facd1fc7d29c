-- `engine::check::check` meets its contract: what is loaded is decided, and loaded again it stands beside the forest.
use mathlib.Core.Path.{refl}
use native.Mathlib.Omega.{arith}
use Rattle.area.specs.Shape.{state_with}
use Rattle.engine.specs.Checks.{coming_of}
use Rattle.engine.proofs.Checking.{too_many_lem, load_no, loaded_area, decide_no, decide_base, decide_yes, check_finds}
use Rattle.engine.proofs.check.check.Goals as goal
use Rattle.engine.proofs.check.check.Goals.{then-d-n-via-then-d-n, then-d-n-via-else-d-n+then-not-load}

pub returns-then-d-n-clause-checked : goal.returns-then-d-n-clause-checked
returns-then-d-n-clause-checked c =
    let room = c.requires.room in let long = c.requires.darts_in_bounds.0 in elim c.then-d-n.branch [
      | then-d-n-via-then-d-n w ↦ rw w.work-is (too_many_lem (state_with c.args.state) (coming_of c.args.coming) _ _ _ w.if-d-n.true)
      | then-d-n-via-else-d-n+then-not-load w ↦ rw w.work-is
          (load_no (state_with c.args.state) (coming_of c.args.coming) _ _ room long (omega arith) (omega arith) w.load.ensures w.if-not-load.true)
    ]

pub decide-requires : goal.decide-requires
decide-requires c =
    let room = c.requires.room in let long = c.requires.darts_in_bounds.0 in
    loaded_area (state_with c.args.state) (coming_of c.args.coming) _ _ room long (omega arith) (omega arith) c.load.ensures c.if-not-load.false

pub returns-in_err-found-clause-checked : goal.returns-in_err-found-clause-checked
returns-in_err-found-clause-checked c =
    let room = c.requires.room in let long = c.requires.darts_in_bounds.0 in rw c.from_residual.ensures
    (decide_no (state_with c.args.state) (coming_of c.args.coming) _ _ room long (omega arith) (omega arith) c.load.ensures c.if-not-load.false
    c.in_err-found.ensures.decided refl)

pub returns-then-n-ne0 : goal.returns-then-n-ne0
returns-then-n-ne0 c =
    let room = c.requires.room in let long = c.requires.darts_in_bounds.0 in record {
      checked = decide_yes (state_with c.args.state) (coming_of c.args.coming) _ _ room long (omega arith) (omega arith) c.load.ensures c.if-not-load.false
          c.in_ok-found.ensures.decided refl c.load-then-n-ne0.ensures;
      finds_cycles = check_finds (state_with c.args.state) (coming_of c.args.coming) _ _ room long (omega arith) (omega arith) c.load.ensures
          c.in_ok-found.ensures.finds_cycles;
    }

pub returns-else-n-ne0 : goal.returns-else-n-ne0
returns-else-n-ne0 c =
    let room = c.requires.room in let long = c.requires.darts_in_bounds.0 in record {
      checked = decide_base (state_with c.args.state) (coming_of c.args.coming) _ _ room long (omega arith) (omega arith) c.load.ensures c.if-not-load.false
          c.in_ok-found.ensures.decided refl c.if-n-ne0.false;
      finds_cycles = check_finds (state_with c.args.state) (coming_of c.args.coming) _ _ room long (omega arith) (omega arith) c.load.ensures
          c.in_ok-found.ensures.finds_cycles;
    }
