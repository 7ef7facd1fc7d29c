-- `pyramid::starting_with::start_with` meets its contract: 1 and 2, the check beside the records, and then the records.
use Rattle.darts.proofs.Cases.{refused_number}
use Rattle.pyramid.proofs.Sized.{fit_of, fit_fine, fine_asks}
use Rattle.pyramid.proofs.StartsWith.{start_first, start_second, unfit_asks, finish_asks, start_unfit, start_fit}
use Rattle.pyramid.proofs.starting_with.start_with.Goals as goal

pub returns-in-Err : goal.returns-in-Err
returns-in-Err c = start_first _ _ _ _ _ (fit_of _ _ _ _ _ c.in-Err.ensures c.records.ensures c.records-2.ensures) (refused_number _) c.unbased.ensures

pub begin_with-requires : goal.begin_with-requires
begin_with-requires c = let r = fine_asks _ _ _ _ _ (fit_fine _ _ _ _ _ c.in_default.ensures c.records.ensures c.records-2.ensures) in (r.0, r.1.0)

pub first_unfit-unfit-requires : goal.first_unfit-unfit-requires
first_unfit-unfit-requires c = unfit_asks _ _ (fit_fine _ _ _ _ _ c.in_default.ensures c.records.ensures c.records-2.ensures) _ c.in-Ok.ensures.began_with

pub clear-requires : goal.clear-requires
clear-requires c = finish_asks _ _ (fit_fine _ _ _ _ _ c.in_default.ensures c.records.ensures c.records-2.ensures) _ c.in-Ok.ensures.began_with

pub returns-in-Some : goal.returns-in-Some
returns-in-Some c =
    start_unfit _ _ (fit_fine _ _ _ _ _ c.in_default.ensures c.records.ensures c.records-2.ensures) _ c.in-Ok.ensures.began_with
    c.in-Some.ensures c.unbased-in-Some.ensures c.clear.ensures

pub returns-in-None : goal.returns-in-None
returns-in-None c =
    start_fit _ _ (fit_fine _ _ _ _ _ c.in_default.ensures c.records.ensures c.records-2.ensures) _ c.in-Ok.ensures.began_with
    c.in-Ok.ensures.begins_cycles c.in-None.ensures c.based.ensures c.clear.ensures

pub returns-in-Err-begin_with : goal.returns-in-Err-begin_with
returns-in-Err-begin_with c =
    start_second _ _ (fit_fine _ _ _ _ _ c.in_default.ensures c.records.ensures c.records-2.ensures) _ c.in-Err-begin_with.ensures.began_with
    c.unbased-in-Err-begin_with.ensures
