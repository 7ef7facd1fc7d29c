-- `writer::print::put_field` meets its contract: a word, a number and a word are laid one after the other.
use Rattle.writer.specs.Fields.{field_line}
use Rattle.slices.proofs.Put.{put_on, room_first, room_then}
use Rattle.writer.proofs.print.put_field.Goals as goal

pub put_bytes-number-requires : goal.put_bytes-number-requires
unfolding field_line
put_bytes-number-requires c = room_first _ c.requires.space

pub put_number-rest-requires : goal.put_number-rest-requires
unfolding field_line
put_number-rest-requires c =
    record { x_bound = c.requires.x_bound; space = room_first c.args.end.now (room_then _ c.requires.space c.put_bytes-number.ensures) }

pub put_bytes-requires : goal.put_bytes-requires
unfolding field_line
put_bytes-requires c =
    room_then c.args.end.now (room_then _ c.requires.space c.put_bytes-number.ensures)
    c.put_number-rest.ensures

pub returns : goal.returns
unfolding field_line
returns c =
    let first = c.put_bytes-number.ensures in
    let number = c.put_number-rest.ensures in
    put_on (room_first _ c.requires.space) first
    (put_on (room_first c.args.end.now (room_then _ c.requires.space first)) number
    c.put_bytes.ensures)
