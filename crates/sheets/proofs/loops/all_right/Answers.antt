-- `sheets::loops::all_right` meets its contract: what `all` answers is said of each place in turn.
use Rattle.std.proofs.Common.{◌+◌, ◌∙◌, refl, rules, arith}
use Rattle.std.proofs.lemmas.Iterator.{YieldsList-from_range}
use Rattle.std.proofs.lemmas.Iterator.Search.{all_from_yields_List}
use borrow.Author.Tests.{tests}
use Rattle.sheets.proofs.Turns.{both, right_at, right_listed}
use Rattle.sheets.proofs.loops.all_right.Goals as goal

pub returns : goal.returns
returns c =
    let D = c.args.d in
    let w = c.args.work.now in
    let S = both c.args.sheet.now c.args.kept.now in
    all_from_yields_List (right_at D w S) _ _ _ c.all.ensures.ran
    (YieldsList-from_range 0 (D + c.args.n) (D + c.args.n) refl (omega arith))
    (λ x b q k. search (rules, tests))
    ∙ right_listed D w S (D + c.args.n) 0
