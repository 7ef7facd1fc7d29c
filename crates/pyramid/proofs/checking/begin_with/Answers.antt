-- `pyramid::checking::begin_with` meets its contract: what the permutation test says.
use Rattle.engine.proofs.Area.{room_kept}
use Rattle.pyramid.proofs.StartsWith.{begin_bad, begin_fine}
use Rattle.pyramid.proofs.checking.begin_with.Goals as goal

pub places-requires : goal.places-requires
places-requires c = record { room = c.requires.0; d_in_bounds = c.requires.1 }

pub returns-in-Ok : goal.returns-in-Ok
returns-in-Ok c = let p = c.in-Ok.ensures in record { began_with = begin_fine _ p.placed; begins_cycles = p.tests_cycles }

pub clear-requires : goal.clear-requires
clear-requires c = room_kept c.args.work.now _ c.in-Err.ensures.placed.beyond.size c.requires.0

pub returns-in-Err : goal.returns-in-Err
returns-in-Err c = record { began_with = rw c.clear.ensures (begin_bad _ c.in-Err.ensures.placed); begins_cycles = tt }
