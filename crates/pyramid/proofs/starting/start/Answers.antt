-- `pyramid::starting::start` meets its contract: the three ways that a start ends.
use mathlib.Core.Path.{refl}
use Rattle.darts.proofs.Cases.{refused_number}
use Rattle.pyramid.proofs.Judges.{check_fits}
use Rattle.pyramid.proofs.Started.{start_refused, start_bad, start_done}
use Rattle.pyramid.proofs.starting.start.Goals as goal

pub returns-in-Err : goal.returns-in-Err
returns-in-Err c = start_refused _ _ _ _ _ c.in-Err.ensures (refused_number _) c.unbased.ensures

pub test_base-requires : goal.test_base-requires
test_base-requires c = let r = check_fits c.in_default.ensures refl in record { room = r.0; d_in_bounds = r.1.0 }

pub returns-in-Ok : goal.returns-in-Ok
returns-in-Ok c =
    let b = c.in-Ok.ensures in
    rw b.work_after (start_done _ _ _ _ c.in_default.ensures _ b.verdict_value b.tests_cycles c.based.ensures)

pub returns-in-Err-test_base : goal.returns-in-Err-test_base
returns-in-Err-test_base c =
    let b = c.in-Err-test_base.ensures in
    rw b.work_after (start_bad _ _ _ _ c.in_default.ensures _ b.verdict_value c.unbased-in-Err-test_base.ensures)
