-- `noting::run::run_noted` meets its contract: the edges that are left run to where the whole kernel runs, and those that were done are noted.
use native.Mathlib.Omega.{arith}
use Rattle.std.proofs.lemmas.Result.{err_from_is_err_and}
use Rattle.noting.proofs.Running.{noting_begin, noting_on, noting_stops, noting_ends}
use Rattle.noting.proofs.run.run_noted.Goals as goal

pub loop-i-init : goal.loop-i-init
loop-i-init c = noting_begin _ c.requires

pub returns-in_err-turn : goal.returns-in_err-turn
returns-in_err-turn c =
    let (r, is, same) = err_from_is_err_and c.from_residual.result c.from_residual.ensures.1 in
    rw (is, same) (noting_stops c.args.kernel.now c.loop-i.invariant (omega arith) c.in_err-turn.ensures)

pub loop-i-preserved : goal.loop-i-preserved
loop-i-preserved c = noting_on c.args.kernel.now c.loop-i.invariant (omega arith) c.in_ok-turn.ensures

pub returns : goal.returns
returns c = noting_ends c.args.kernel.now c.loop-i.invariant (omega arith)
