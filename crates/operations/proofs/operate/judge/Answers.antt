-- `operations::operate::judge` meets its contract: both finds keep the roots.
use native.Mathlib.Omega.{arith}
use Rattle.operations.proofs.Judging.{no_edge, judged_here, judged_kept}
use Rattle.operations.proofs.Lent.{found_kept}
use Rattle.operations.proofs.operate.judge.Goals as goal

pub returns-then-d-e : goal.returns-then-d-e
returns-then-d-e c = judged_here c.requires.falls (no_edge _ _ _ _ _ _ c.if-d-e.true) (λ z. omega arith)

pub returns : goal.returns
returns c =
    judged_kept c.if-d-e.false (found_kept c.find-a.ensures c.find-b.ensures) c.judge_found.ensures
