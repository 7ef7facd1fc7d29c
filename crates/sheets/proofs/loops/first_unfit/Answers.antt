-- `sheets::loops::first_unfit` meets its contract: what `find` answers is the first place of the definition.
use Rattle.std.proofs.Common.{[], ◌≡◌, true, false, rules}
use Rattle.std.proofs.lemmas.Iterator.{first_from_Range}
use borrow.Author.Tests.{tests}
use Rattle.sheets.proofs.Turns.{both, unfit_at, unfit_found}
use Rattle.sheets.proofs.loops.first_unfit.Goals as goal

pub returns : goal.returns
returns c =
    let D = c.args.d in
    let w = c.args.work.now in
    let S = both c.args.sheet.now [] in
    unfit_found D w S c.find.result
    (first_from_Range _ _ _ _ (λ x. unfit_at D w S x ≡ true) (λ x. unfit_at D w S x ≡ false)
    c.find.ensures.ran (λ x q k. search (rules, tests)) (λ x q k. search (rules, tests)))
