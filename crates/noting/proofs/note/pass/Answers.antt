-- `noting::note::pass` meets its contract: its two stores.
use mathlib.Core.Path.{refl}
use Rattle.sheets.specs.Notes.{note_of}
use Rattle.noting.specs.Links.{recorded}
use Rattle.noting.proofs.note.pass.Goals as goal

pub returns : goal.returns
unfolding recorded note_of
returns c = refl
