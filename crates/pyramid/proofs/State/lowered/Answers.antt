-- `pyramid::State::lowered` meets its contract: one place of the ends becomes zero.
use Rattle.darts.specs.Levels.{lowered}
use Rattle.pyramid.proofs.State.lowered.Goals as goal

pub returns : goal.returns
unfolding lowered
returns c = λ t past. rw c.end_below-below.ensures
