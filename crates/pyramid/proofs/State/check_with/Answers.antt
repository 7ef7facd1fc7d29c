-- `pyramid::State::check_with` meets its contract: what the check says, and whether the numbers that it found are the stored ones.
use Rattle.engine.proofs.Area.{room_kept}
use Rattle.pyramid.proofs.ChecksWith.{check_no, check_yes, noted_of}
use Rattle.pyramid.proofs.Judges.{fits_with, cycles_with}
use Rattle.pyramid.proofs.State.check_with.Goals as goal

pub note_check-found-requires : goal.note_check-found-requires
note_check-found-requires c =
    let r = fits_with c.from.ensures (c.requires.room, c.requires.darts_in_bounds) in record { room = r.0; darts_in_bounds = r.1 }

pub returns-then-stores : goal.returns-then-stores
returns-then-stores c =
    let same = c.from.ensures in
    let found = c.note_check-found.ensures in
    check_yes _ _ (noted_of same found.note_checked) (cycles_with _ same _ _ _ found.finds_cycles) c.stores.ensures c.if-stores.true

pub strange-requires : goal.strange-requires
strange-requires c = room_kept c.args.work.now _ c.note_check-found.ensures.note_checked.beyond.size c.requires.room

pub returns : goal.returns
returns c =
    let same = c.from.ensures in
    let found = c.note_check-found.ensures in
    let (four, clears) = c.strange.ensures in
    rw (four, clears)
    (check_no _ _ (noted_of same found.note_checked) (cycles_with _ same _ _ _ found.finds_cycles) c.stores.ensures c.if-stores.false)
