-- `pyramid::State::judged_with` meets its contract: 1 and 2; then a base has its own way; else the check beside the records, and then the records.
use Rattle.std.proofs.lemmas.Result.{err_from_is_err_and}
use Rattle.darts.proofs.Cases.{refused_number}
use Rattle.pyramid.proofs.ChecksWith.{right_asks, accept_asks, refuse_asks, accepted, wronged}
use Rattle.pyramid.proofs.JudgesWith.{with_first}
use Rattle.pyramid.proofs.Sized.{fit_of, fit_fine, fine_asks}
use Rattle.pyramid.proofs.State.judged_with.Goals as goal

pub returns-in_err-fit_with : goal.returns-in_err-fit_with
returns-in_err-fit_with c =
    let (r, is, same) = err_from_is_err_and c.from_residual.result c.from_residual.ensures.1 in
    rw (is, same) (with_first _ _ _ _ _ (fit_of _ _ _ _ _ c.in_err-fit_with.ensures c.records.ensures c.records-2.ensures) (refused_number _))

pub judged_base-requires : goal.judged_base-requires
judged_base-requires c =
    record { base = c.if-self-eq0.true; fits = fit_fine _ _ _ _ _ c.in_ok-fit_with.ensures c.records.ensures c.records-2.ensures }

pub returns-then-self-eq0 : goal.returns-then-self-eq0
returns-then-self-eq0 c = c.judged_base.ensures

pub check_with-requires : goal.check_with-requires
check_with-requires c =
    let r = fine_asks _ _ _ _ _ (fit_fine _ _ _ _ _ c.in_ok-fit_with.ensures c.records.ensures c.records-2.ensures) in
    record { room = r.0; darts_in_bounds = r.1 }

pub returns-in_err-check_with : goal.returns-in_err-check_with
returns-in_err-check_with c =
    let (r, is, same) = err_from_is_err_and c.from_residual-in_err-check_with.result c.from_residual-in_err-check_with.ensures.1 in
    rw (is, same)
    (c.in_err-check_with.ensures.refused (refused_number _) _ (fit_fine _ _ _ _ _ c.in_ok-fit_with.ensures c.records.ensures c.records-2.ensures))

pub all_right-requires : goal.all_right-requires
all_right-requires c = right_asks c.in_ok-check_with.ensures _ (fit_fine _ _ _ _ _ c.in_ok-fit_with.ensures c.records.ensures c.records-2.ensures)

pub accept-requires : goal.accept-requires
accept-requires c = accept_asks c.in_ok-check_with.ensures _ (fit_fine _ _ _ _ _ c.in_ok-fit_with.ensures c.records.ensures c.records-2.ensures)

pub returns-then-all_right : goal.returns-then-all_right
returns-then-all_right c =
    accepted c.in_ok-check_with.ensures _ (fit_fine _ _ _ _ _ c.in_ok-fit_with.ensures c.records.ensures c.records-2.ensures)
    c.all_right.ensures c.if-all_right.true c.accept.ensures

pub strange-requires : goal.strange-requires
strange-requires c = refuse_asks c.in_ok-check_with.ensures _ (fit_fine _ _ _ _ _ c.in_ok-fit_with.ensures c.records.ensures c.records-2.ensures)

pub returns : goal.returns
returns c =
    wronged c.in_ok-check_with.ensures _ (fit_fine _ _ _ _ _ c.in_ok-fit_with.ensures c.records.ensures c.records-2.ensures)
    c.all_right.ensures c.if-all_right.false c.strange.ensures
