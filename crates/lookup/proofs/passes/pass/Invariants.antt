-- `lookup::passes::pass` meets its contract: from each edge on the operations go to where they go from the first.
use Rattle.lookup.proofs.Passing.{Passing}
use Rattle.lookup.proofs.passes.pass.Given as goal

abbrev pub invariant-loop-e : goal.invariant-loop-e
invariant-loop-e l = Passing l.d l.n l.kind l.ends l.initial.work l.work l.e l.m
