-- The loop of `sheets::loops::merge_all`: each turn makes one merge of those that are left.
use Rattle.sheets.proofs.Passes.{Merging}
use Rattle.sheets.proofs.loops.merge_all.Given as goal

abbrev pub invariant-loop-t : goal.invariant-loop-t
invariant-loop-t l = Merging l.work l.d l.n l.m l.initial.sheet l.initial.kept l.sheet l.kept l.t
