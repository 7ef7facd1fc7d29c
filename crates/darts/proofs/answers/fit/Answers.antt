-- Each comparison is one part of the two tests.
use Rattle.std.proofs.Common.{arith}
use Rattle.darts.proofs.Fitting.{Count, Lengths, no_count_lem, short, fine}
use Rattle.darts.proofs.answers.fit.Goals as goal
use Rattle.darts.proofs.answers.fit.Goals.{then-darts-eq0-via-then-darts-eq0 as is_zero, then-darts-eq0-via-else-darts-eq0+then-darts-ne0 as is_odd}
use Rattle.darts.proofs.answers.fit.Goals.{then-darts-eq0-via-else-darts-eq0+else-darts-ne0+then-darts-gt65536 as is_large}
use Rattle.darts.proofs.answers.fit.Goals.{then-table-d-via-then-table-d as by_table, then-table-d-via-else-table-d+then-history-d as by_history}
use Rattle.darts.proofs.answers.fit.Goals.{then-table-d-via-else-table-d+else-history-d+then-work-d as by_work}

pub returns-then-darts-eq0 : goal.returns-then-darts-eq0
returns-then-darts-eq0 c =
    let not_so : Count c.args.darts → ⊥ =
    λ k. elim c.then-darts-eq0.branch [ is_zero w ↦ omega arith | is_odd w ↦ omega arith | is_large w ↦ omega arith ]
    in no_count_lem _ _ _ _ not_so

pub returns-then-table-d : goal.returns-then-table-d
returns-then-table-d c =
    let not_so : Lengths c.args.darts c.args.table c.args.history c.args.work → ⊥ =
    λ k. elim c.then-table-d.branch [ by_table w ↦ omega arith | by_history w ↦ omega arith | by_work w ↦ omega arith ]
    in short _ _ _ _ (omega arith) not_so

pub returns : goal.returns
returns c = fine _ _ _ _ (omega arith) (omega arith)
