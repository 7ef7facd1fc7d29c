-- `engine::undo::take_back` meets its contract: the tests say that every operation fits, so the answer is yes, and the last ones are undone.
use borrow.Author.Rules.{rules}
use Rattle.engine.proofs.Area.{area_sound}
use Rattle.engine.proofs.LastBack.{took_back}
use Rattle.engine.proofs.undo.take_back.Goals as goal

pub take_back_last-requires : goal.take_back_last-requires
take_back_last-requires c = record { sound = area_sound c.requires.area; c_le_n = search rules }

pub returns : goal.returns
returns c =
    took_back c.requires.area c.requires.c_le_n c.requires.t c.take_back_last.ensures
