-- `pyramid::State::judged` meets its contract: 1 and 2, or what the check says, and whether the numbers that it found are the stored ones.
use mathlib.Core.Path.{refl}
use Rattle.std.proofs.lemmas.Result.{err_from_is_err_and}
use Rattle.darts.proofs.Cases.{refused_number}
use Rattle.engine.proofs.Area.{room_kept}
use Rattle.pyramid.proofs.Judges.{check_fits, fits_with, checked_with, cycles_with, judged_first, judged_no, judged_yes}
use Rattle.pyramid.proofs.State.judged.Goals as goal

pub returns-in_err-fit : goal.returns-in_err-fit
returns-in_err-fit c =
    let p = err_from_is_err_and c.from_residual.result c.from_residual.ensures.1 in
    rw (p.1, p.2) (judged_first c.in_err-fit.ensures (refused_number _))

pub check-found-requires : goal.check-found-requires
check-found-requires c =
    let r = fits_with c.from.ensures (check_fits c.in_ok-fit.ensures refl) in record { room = r.0; darts_in_bounds = r.1 }

pub returns-then-stores : goal.returns-then-stores
returns-then-stores c =
    let same = c.from.ensures in
    let found = c.check-found.ensures in
    judged_yes c.in_ok-fit.ensures refl _ (checked_with same found.checked) (cycles_with _ same _ _ _ found.finds_cycles) c.stores.ensures c.if-stores.true

pub clear-requires : goal.clear-requires
clear-requires c = room_kept c.args.work.now _ c.check-found.ensures.checked.beyond.size (check_fits c.in_ok-fit.ensures refl).0

pub returns : goal.returns
returns c =
    let same = c.from.ensures in
    let found = c.check-found.ensures in
    rw c.clear.ensures
    (judged_no c.in_ok-fit.ensures refl _ (checked_with same found.checked) (cycles_with _ same _ _ _ found.finds_cycles) c.stores.ensures c.if-stores.false)
