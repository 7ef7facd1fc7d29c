-- `plan::rooms::Rooms::print`: the file of an accepted plan lies within the output.
use Rattle.std.proofs.Common.{arith}
use Rattle.plan.specs.Files.{printed}
use Rattle.plan.proofs.Files.{length_within}
use Rattle.plan.proofs.rooms.Rooms.print.Goals as goal

pub shared_ref_as_front-write_all : goal.shared_ref_as_front-write_all
unfolding printed
shared_ref_as_front-write_all g c = omega (arith, length_within _ _ _ c.in-Ok.ensures)
