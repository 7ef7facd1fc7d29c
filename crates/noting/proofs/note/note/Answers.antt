-- `noting::note::note` meets its contract: its one store.
use mathlib.Core.Path.{refl}
use Rattle.sheets.specs.Notes.{note_of}
use Rattle.noting.proofs.note.note.Goals as goal

pub returns : goal.returns
unfolding note_of
returns c = refl
