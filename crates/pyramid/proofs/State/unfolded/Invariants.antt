-- `pyramid::State::unfolded` meets its contract. The invariant: what is left to undo from here is what was to be undone from the start.
use Rattle.pyramid.specs.Values.{state_of}
use Rattle.pyramid.proofs.Lowering.{Falling}
use Rattle.pyramid.proofs.State.unfolded.Given as goal

abbrev pub invariant-loop-s : goal.invariant-loop-s
invariant-loop-s l = Falling l.level (state_of l.initial.s) (state_of l.s) l.initial.work l.work

abbrev pub decreases-loop-s : goal.decreases-loop-s
decreases-loop-s l = l.s.levels
