-- `pyramid::State::raised` meets its contract: one place of the ends is changed.
use Rattle.darts.specs.State.{raised}
use Rattle.pyramid.proofs.State.raised.Goals as goal

pub returns : goal.returns
unfolding raised
returns c = λ t new e. rw e
