-- The loop of `sheets::loops::put_all_back`: each turn puts back the last record of those that are left.
use Rattle.sheets.proofs.Passes.{Returning}
use Rattle.sheets.proofs.loops.put_all_back.Given as goal

abbrev pub invariant-loop-t : goal.invariant-loop-t
invariant-loop-t l = Returning l.work l.d l.m l.n l.initial.sheet l.kept l.sheet l.t
