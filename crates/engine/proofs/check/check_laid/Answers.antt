-- `engine::check::check_laid` meets its contract: what stands in the work area is linked and decided there.
use native.Mathlib.Omega.{arith}
use Rattle.area.specs.Shape.{state_with}
use Rattle.engine.proofs.CheckingLaid.{laid_too_many, relink_no, relinked_area, laid_decided, laid_finds}
use Rattle.engine.proofs.check.check_laid.Goals as goal
use Rattle.engine.proofs.check.check_laid.Goals.{then-state-via-then-state, then-state-via-else-state+then-not-relink}

pub returns-then-state-clause-checked_laid : goal.returns-then-state-clause-checked_laid
returns-then-state-clause-checked_laid c = elim c.then-state.branch [
  | then-state-via-then-state w ↦ rw w.work-is (laid_too_many (state_with c.args.state) _ w.if-state.true)
  | then-state-via-else-state+then-not-relink w ↦ rw w.work-is
      (relink_no (state_with c.args.state) c.requires (omega arith) w.relink.ensures w.if-not-relink.true)
]

pub decide-requires : goal.decide-requires
decide-requires c = relinked_area (state_with c.args.state) c.requires (omega arith) c.relink.ensures c.if-not-relink.false

pub returns : goal.returns
returns c =
    let δ = c.decide.ensures in
    record {
      checked_laid = laid_decided (state_with c.args.state) c.requires (omega arith) c.relink.ensures δ.decided;
      finds_cycles = laid_finds (state_with c.args.state) c.requires (omega arith) c.relink.ensures c.decide.result δ.finds_cycles;
    }
