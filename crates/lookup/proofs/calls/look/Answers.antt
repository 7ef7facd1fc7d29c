-- `lookup::calls::look` meets its contract: an answer without a walk, or the walk, which arrives.
use mathlib.Core.Path.{sym, ap}
use Rattle.darts.specs.Answers.{Answer}
use Rattle.darts.proofs.Fitting.{count_facts}
use Rattle.lookup.proofs.Looking.{inside_there, arrives}
use Rattle.lookup.proofs.calls.look.Goals as goal

pub judge-requires : goal.judge-requires
judge-requires c = (c.requires.2, (count_facts _ c.requires.0).even)

pub walk-requires : goal.walk-requires
walk-requires c =
    let p = c.requires in
    let D = count_facts _ p.0 in
    let a = inside_there _ _ _ _ (sym (ap (λ (a : Answer). a.number) c.in_ok-judge.ensures)) in
    record { table_len = (p.1, p.2, D.even, D.small, a.0); walks = arrives _ _ _ _ _ p.0 p.1 p.2 p.3 a }
