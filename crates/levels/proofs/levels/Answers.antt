-- `levels::levels`: the counts that `counts_at` leaves are those of the line.
use Rattle.std.proofs.Common.{arith}
use Rattle.levels.proofs.ReportLines.{line_done, line_of}
use Rattle.levels.proofs.levels.Goals as goal

pub unwrap-counts-requires : goal.unwrap-counts-requires
unwrap-counts-requires g c = line_done _ c.loop-k.lent.long _ _ c.requires (omega arith) _ c.counts_at.ensures

pub level-requires : goal.level-requires
level-requires g c =
    rw c.loop-k.invariant (line_of _ c.loop-k.lent.long _ _ c.requires (omega arith) _ (rw c.unwrap-counts.ensures at c.counts_at.ensures))
