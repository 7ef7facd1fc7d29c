-- `pyramid::State::judged_base` meets its contract: what the plain call judges, and then the records.
use mathlib.Core.Path.{refl}
use Rattle.std.proofs.lemmas.Result.{err_from_is_err_and}
use Rattle.darts.proofs.Cases.{refused_number}
use Rattle.pyramid.proofs.AtBase.{base_refused, unfit_asks, refuse_asks, base_right, base_wrong}
use Rattle.pyramid.proofs.State.judged_base.Goals as goal

pub returns-in_err-judged : goal.returns-in_err-judged
returns-in_err-judged c =
    let (r, is, same) = err_from_is_err_and c.from_residual.result c.from_residual.ensures.1 in
    rw (is, same) (base_refused c.in_err-judged.ensures (refused_number _) _ c.requires.fits)

pub first_unfit-requires : goal.first_unfit-requires
first_unfit-requires c = unfit_asks c.in_ok-judged.ensures refl c.requires.base _ c.requires.fits

pub returns-in-None : goal.returns-in-None
returns-in-None c = base_right c.in_ok-judged.ensures refl c.requires.base _ c.requires.fits c.in-None.ensures

pub strange-requires : goal.strange-requires
strange-requires c = refuse_asks c.in_ok-judged.ensures refl c.requires.base _ c.requires.fits

pub returns-in-Some : goal.returns-in-Some
returns-in-Some c = base_wrong c.in_ok-judged.ensures refl c.requires.base _ c.requires.fits c.in-Some.ensures c.strange.ensures
