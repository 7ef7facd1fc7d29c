-- `file_lines::pairs::last_pairs` meets its contract: the lines of the pairs, and then the end of the file.
use native.Mathlib.Omega.{arith}
use Rattle.std.proofs.lemmas.Result.{err_from_is_err_and}
use Rattle.file_lines.proofs.LastPairs.{last_wrong, last_more, last_right}
use Rattle.file_lines.proofs.pairs.last_pairs.Goals as goal

pub returns-in_err-next : goal.returns-in_err-next
returns-in_err-next c =
    let p = err_from_is_err_and c.from_residual.result c.from_residual.ensures.1 in
    rw (p.1, p.2) (last_wrong c.in_err-next.ensures)

pub returns-then-next-bytes : goal.returns-then-next-bytes
returns-then-next-bytes c = last_more c.in_ok-next.ensures (λ e. omega arith)

pub returns : goal.returns
returns c = last_right c.in_ok-next.ensures (omega arith)
