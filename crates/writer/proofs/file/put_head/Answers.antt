-- `writer::file::put_head` meets its contract: the first two lines are one field, the third another.
use native.Mathlib.Omega.{arith}
use Rattle.darts.specs.Text.{bytes}
use Rattle.darts.specs.File.{line_feed}
use Rattle.writer.specs.Writing.{head_lines}
use Rattle.writer.proofs.Lengths.{field_short}
use Rattle.writer.proofs.Fitted.{fitted_on}
use Rattle.writer.proofs.file.put_head.Goals as goal

pub fit_field-requires : goal.fit_field-requires
fit_field-requires c =
    let l = field_short (bytes "numbers=0\ndarts=") c.args.d line_feed in
    (omega arith, omega (arith, c.fit_field-third.ensures.next), omega arith, omega arith)

pub returns : goal.returns
unfolding head_lines
returns c = fitted_on c.fit_field-third.ensures c.fit_field.ensures
