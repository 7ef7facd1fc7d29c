-- `writer::writing::write` meets its contract: what is judged first, or the file, or what it needs.
use mathlib.Core.Path.{refl}
use Rattle.std.proofs.lemmas.Result.{err_from_is_err_and}
use Rattle.darts.proofs.Cases.{refused_number}
use Rattle.pyramid.proofs.Judges.{stacked_of}
use Rattle.writer.proofs.WriteEnds.{write_refused_lem, write_done}
use Rattle.writer.proofs.writing.write.Goals as goal

pub returns-in_err-judged : goal.returns-in_err-judged
returns-in_err-judged c =
    let p = err_from_is_err_and c.from_residual.result c.from_residual.ensures.1 in
    rw (p.1, p.2) (write_refused_lem c.in_err-judged.ensures c.args.output.now (refused_number c.in_err-judged.field-0.0))

pub write_inside-written-requires : goal.write_inside-written-requires
write_inside-written-requires c = stacked_of c.in_ok-judged.ensures refl

pub returns : goal.returns
returns c =
    let W = c.write_inside-written.ensures in
    rw c.clear.ensures (write_done c.in_ok-judged.ensures c.args.output.now refl W.beyond W.file_written)
