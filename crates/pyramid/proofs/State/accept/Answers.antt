-- `pyramid::State::accept` meets its contract: table and history are loaded again.
use Rattle.pyramid.proofs.ChecksWith.{reloads_of, reloaded_of}
use Rattle.pyramid.proofs.State.accept.Goals as goal

pub reload-requires : goal.reload-requires
reload-requires c = reloads_of c.from.ensures c.requires

pub returns : goal.returns
returns c = reloaded_of c.from.ensures c.reload.ensures
