-- `lookup::passes::pass` meets its contract: from each edge on the operations go to where they go from the first.
use Rattle.std.proofs.lemmas.Result.{err_from_is_err_and}
use Rattle.lookup.proofs.Passing.{passing_begins, passed_over, passed_on, passing_stops, passing_ends}
use Rattle.lookup.proofs.passes.pass.Goals as goal
use Rattle.lookup.proofs.passes.pass.Goals.{then-ends_by+in_ok-turn, else-ends_by}

pub loop-e-init : goal.loop-e-init
loop-e-init c = passing_begins _ c.requires

pub returns-in_err-turn : goal.returns-in_err-turn
returns-in_err-turn c =
    let (r, is, same) = err_from_is_err_and c.from_residual.result c.from_residual.ensures.1 in
    rw (is, same) (passing_stops c.loop-e.invariant c.loop-e-test.true c.ends_by.ensures c.if-ends_by.true c.in_err-turn.ensures)

pub loop-e-preserved : goal.loop-e-preserved
loop-e-preserved c =
    elim c.if-ends_by.branch [
      | then-ends_by+in_ok-turn w ↦
          rw (w.work-is, w.m-is)
          (passed_on c.loop-e.invariant c.loop-e-test.true c.ends_by.ensures w.if-ends_by.true w.in_ok-turn.ensures)
      | else-ends_by w ↦ rw (w.work-is, w.m-is) (passed_over c.loop-e.invariant c.loop-e-test.true c.ends_by.ensures w.if-ends_by.false)
    ]

pub returns : goal.returns
returns c = passing_ends c.loop-e.invariant c.loop-e-test.false
