-- `writer::numbering::number_darts` meets its contract: the operations' darts and the survivors are the whole list, and the places in it the numbers.
use Rattle.writer.proofs.Listed.{listed_taken, listed_order, listed_below, listed_numbers}
use Rattle.writer.proofs.numbering.number_darts.Goals as goal

pub list_survivors-requires : goal.list_survivors-requires
list_survivors-requires c = listed_taken c.requires c.list_taken.ensures

pub number_listed-requires : goal.number_listed-requires
number_listed-requires c =
    let A = c.requires in
    let r = listed_below A (listed_order A c.list_taken.ensures c.list_survivors.ensures) in record { room = r.0; by_index = r.1 }

pub returns : goal.returns
returns c =
    let A = c.requires in
    listed_numbers A (listed_order A c.list_taken.ensures c.list_survivors.ensures) c.number_listed.ensures
