-- `plan::drawing::wales`: the place of the first line feed.
use Rattle.std.proofs.Common.{◌≡◌, ◌≢◌, ◌∙◌, sym, rules}
use Rattle.std.proofs.lemmas.Iterator.{YieldsList-from_slice, IsFirst-from_position, index_from_first}
use borrow.Author.Tests.{tests}
use Rattle.plan.specs.Drawing.{wales_of}
use Rattle.plan.proofs.Lines.{wales_none, wales_feed, wales_other}
use Rattle.plan.proofs.drawing.wales.Goals as goal

pub returns : goal.returns
returns c =
    let d = c.args.drawing.now in
    let first = IsFirst-from_position _ _ _ (λ b. b ≡ 10) (λ b. b ≢ 10) c.position.ensures.ran (YieldsList-from_slice d (cc))
    (λ x q k. search (rules, tests)) (λ x q k. search (rules, tests)) in
    let e = index_from_first wales_of (λ b. b ≡ 10) (λ b. b ≢ 10) wales_none wales_feed wales_other d _ first in
    (c.unwrap_or.ensures ∙ sym e, search rules)
