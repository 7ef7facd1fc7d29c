-- `noting::note::merge` meets its contract: the note, and two stores.
use mathlib.Core.Path.{refl}
use Rattle.noting.specs.Links.{recorded}
use Rattle.noting.proofs.note.merge.Goals as goal

pub returns : goal.returns
unfolding recorded
returns c = rw c.note.ensures refl
