-- `reader::reading::read_inside` meets its contract: a fault in the body, or what the work area holds is judged.
use Rattle.std.proofs.lemmas.Result.{err_from_is_err_and}
use Rattle.file_lines.specs.Lines.{opening_of}
use Rattle.reader.proofs.ReadEnds.{closed_fault}
use Rattle.reader.proofs.reading.read_inside.Goals as goal

pub returns-in_err-file : goal.returns-in_err-file
returns-in_err-file c =
    let p = err_from_is_err_and c.from_residual.result c.from_residual.ensures.1 in
    let k = c.in_err-file.ensures in
    rw (p.1, p.2)
    (record { work_after = closed_fault _ _ _ (opening_of c.args.first) k.wrong; beyond = k.beyond })
