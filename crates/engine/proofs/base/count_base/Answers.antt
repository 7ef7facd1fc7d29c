-- `engine::base::count_base` meets its contract: what is loaded is tested, and counted where it permutes the darts.
use native.Mathlib.Omega.{arith}
use Rattle.std.proofs.lemmas.Result.{err_from_is_err_and}
use Rattle.engine.proofs.Around.{step_perm}
use Rattle.engine.proofs.Based.{counted_no, held, counted_yes, counted_cycles}
use Rattle.engine.proofs.Counts.{labelled_area}
use Rattle.engine.proofs.base.count_base.Goals as goal

pub returns-in_err-load_base : goal.returns-in_err-load_base
returns-in_err-load_base c =
    let (r, is, same) = err_from_is_err_and c.from_residual.result c.from_residual.ensures.1 in
    record {
      base_counted = rw (is, same) (counted_no _ _ _ c.requires.room c.requires.d_in_bounds c.in_err-load_base.ensures);
      tests_cycles = rw is tt;
    }

pub label-faces-requires : goal.label-faces-requires
label-faces-requires c =
    let A = held _ _ _ c.requires.room c.requires.d_in_bounds c.in_ok-load_base.ensures in
    record { room = A.room; perm = step_perm A 0 (omega arith) }

pub label-vertices-requires : goal.label-vertices-requires
label-vertices-requires c =
    let A = labelled_area (held _ _ _ c.requires.room c.requires.d_in_bounds c.in_ok-load_base.ensures) (omega arith) c.label-faces.ensures.labelled in
    record { room = A.room; perm = step_perm A 1 (omega arith) }

pub returns : goal.returns
returns c =
    let said = c.in_ok-load_base.ensures in
    let X = c.label-faces.ensures in
    let Y = c.label-vertices.ensures in record {
      base_counted = counted_yes _ _ _ c.requires.room c.requires.d_in_bounds said X.labelled Y.labelled;
      tests_cycles = counted_cycles _ _ _ c.requires.room c.requires.d_in_bounds said X.labelled Y.labelled Y.value X.value;
    }
