-- `noting::run::contract` meets its contract: the operation, and then the note.
use Rattle.operations.proofs.Operation.{operated_same, same_room}
use Rattle.noting.proofs.run.contract.Goals as goal

pub note-requires : goal.note-requires
note-requires c =
    let o = operated_same c.requires.room _ 1 _ c.requires.bounds in
    record { room = rw c.operate.ensures (same_room o c.requires.room); t_bound = c.requires.m_bound }
