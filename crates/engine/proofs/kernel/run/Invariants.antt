-- `engine::kernel::run` meets its contract: the edges that are left run to where the whole kernel runs.
--   at_turn  == after i edges of the kernel es, e is the next
--   turn_on  == it was done
--   run_ends == no edge is left
use Prim.Native.Nat.{◌+◌}
use lib.ListN.{drop}
use Rattle.darts.specs.Kernel.{always, run}
use Rattle.darts.specs.Kinds.{kind_is, bit}
use Rattle.area.specs.Area.{table_in, past_in}
use Rattle.engine.proofs.Underway.{Underway}
use Rattle.engine.proofs.kernel.run.Given as goal

abbrev pub invariant-loop-i : goal.invariant-loop-i
invariant-loop-i l =
    let whole = run (kind_is l.kind) l.d (table_in l.d l.initial.work) (past_in l.d l.n l.initial.work) l.kernel in
    Underway l.d (bit l.kind) always whole l.initial.work l.i (drop l.i l.kernel) l.work (l.n + l.i)
