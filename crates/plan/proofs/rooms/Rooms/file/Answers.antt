-- `plan::rooms::Rooms::file`: a refused plan is left as it is, an accepted one's state is written.
use mathlib.Core.Path.{◌∙◌}
use Rattle.std.proofs.lemmas.Result.{err_from_is_err_and}
use Rattle.plan.specs.Files.{printed}
use Rattle.plan.proofs.Files.{refused_stays, accepted_files}
use Rattle.plan.proofs.rooms.Rooms.file.Goals as goal

pub returns-in_err-outcome : goal.returns-in_err-outcome
unfolding printed
returns-in_err-outcome c =
    let built = c.build-outcome.ensures in
    let p = err_from_is_err_and c.from_residual.result c.from_residual.ensures.1 in
    rw (p.1, p.2, built.output) (refused_stays c.build-outcome.result built.built _ _ c.in_err-outcome.was)

pub returns : goal.returns
unfolding printed
returns c =
    let built = c.build-outcome.ensures in
    c.write.ensures ∙ rw built.output (accepted_files c.build-outcome.result built.built _ c.in_ok-outcome.was)
