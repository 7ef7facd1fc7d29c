-- `plans::first::take_edges` meets its contract: from each edge on the pass goes to where it goes from the first.
use Rattle.grids.specs.Grid.{flat}
use Rattle.plans.proofs.Taken.{Taking}
use Rattle.plans.proofs.first.take_edges.Given as goal

abbrev pub invariant-loop-e : goal.invariant-loop-e
invariant-loop-e l = Taking (flat l.w l.c) l.d l.plan l.initial.work l.work l.e l.m
