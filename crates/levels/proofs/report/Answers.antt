-- `levels::report`: the answer says whether the file is refused, and the state that was read which level is the top.
use Rattle.levels.proofs.ReportLines.{refused_read, accepted_read}
use Rattle.levels.proofs.report.Goals as goal

pub refused-requires : goal.refused-requires
refused-requires g c =
    let r = c.read-read in
    refused_read _ c.args.lent.now.long r.result r.ensures _ c.in-Err.is

pub levels-requires : goal.levels-requires
levels-requires g c =
    let r = c.read-read in
    accepted_read _ c.args.lent.now.long r.result r.ensures c.in-Ok.is
