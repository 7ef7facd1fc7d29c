-- `writer::file::write_inside` meets its contract: the first walk tells the length, and the second lays what then has room.
use native.Mathlib.Omega.{arith}
use Rattle.pyramid.specs.Values.{state_of}
use Rattle.writer.proofs.FileBytes.{ready_lines, too_short_lem, all_fits}
use Rattle.writer.proofs.file.write_inside.Goals as goal

pub put_file-needed-requires : goal.put_file-needed-requires
put_file-needed-requires c =
    let r = ready_lines (state_of c.args.state) c.number_darts.ensures c.requires in record { dense = r.0; operations_le_darts = r.1.0; t = r.1.1 }

pub returns-then-output-needed : goal.returns-then-output-needed
returns-then-output-needed c =
    let N = c.number_darts.ensures in
    record { file_written = too_short_lem (state_of c.args.state) N c.put_file-needed.ensures c.if-output-needed.true; beyond = N.beyond }

pub put_file-requires : goal.put_file-requires
put_file-requires c =
    let r = ready_lines (state_of c.args.state) c.number_darts.ensures c.requires in record { dense = r.0; operations_le_darts = r.1.0; t = r.1.1 }

pub returns : goal.returns
returns c =
    let N = c.number_darts.ensures in
    record { file_written = all_fits (state_of c.args.state) N c.put_file.ensures (omega (arith, c.put_file-needed.ensures.next)); beyond = N.beyond }
