-- `reader::reading::parse` meets its contract: the line of the levels, and then the lines after it.
use mathlib.Core.Path.{sym}
use Rattle.std.proofs.lemmas.Result.{err_from_is_err_and}
use Rattle.file_lines.specs.Lines.{levels_few}
use Rattle.reader.proofs.BodyLines.{level_wrong, level_right}
use Rattle.reader.proofs.reading.parse.Goals as goal

pub returns-in_err-levels : goal.returns-in_err-levels
returns-in_err-levels c =
    let p = err_from_is_err_and c.from_residual.result c.from_residual.ensures.1 in
    rw (p.1, p.2) (level_wrong c.args.first.darts c.args.bytes.now c.args.at (sym c.in_err-levels.ensures))

pub lines-requires : goal.lines-requires
lines-requires c = record { room = c.requires; levels_bound = levels_few _ _ (sym c.in_ok-levels.ensures) }

pub returns : goal.returns
returns c = rw (level_right c.args.first.darts c.args.bytes.now c.args.at (sym c.in_ok-levels.ensures)) c.lines.ensures
