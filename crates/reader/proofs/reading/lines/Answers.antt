-- `reader::reading::lines` meets its contract: two parts of the work area are lent one after the other.
use Rattle.std.proofs.lemmas.Result.{err_from_is_err_and}
use Rattle.reader.proofs.BodyLines.{kernels_wrong, pairs_wrong, lines_right}
use Rattle.reader.proofs.reading.lines.Goals as goal

pub returns-in_err-said : goal.returns-in_err-said
returns-in_err-said c =
    let p = err_from_is_err_and c.from_residual.result c.from_residual.ensures.1 in
    rw (p.1, p.2) (kernels_wrong c.requires.room _ c.kernels.auto.history c.in_err-said.ensures)

pub returns-in_err-last_pairs : goal.returns-in_err-last_pairs
returns-in_err-last_pairs c =
    let r = c.from_residual-in_err-last_pairs in
    let p = err_from_is_err_and r.result r.ensures.1 in
    rw (p.1, p.2) (pairs_wrong c.requires.room _ c.kernels.auto.history _ c.last_pairs.auto.table c.in_ok-said.ensures c.in_err-last_pairs.ensures)

pub returns : goal.returns
returns c =
    lines_right c.requires.room _ c.kernels.auto.history _ c.last_pairs.auto.table c.in_ok-said.ensures c.in_ok-last_pairs.ensures
    c.requires.levels_bound
