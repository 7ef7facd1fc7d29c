-- `lookup::walking::onward` meets its contract: the kind is the last bit of the dart's end.
use borrow.Author.Rules.{rules}
use Rattle.permutations.proofs.PartnerLemmas.{partner_below}
use Rattle.lookup.proofs.Walks.{after_removal, after_contraction}
use Rattle.lookup.proofs.walking.onward.Goals as goal

pub returns-in-Remove : goal.returns-in-Remove
returns-in-Remove c = after_removal _ _ c.at.ensures _ c.in-Remove.ensures c.at-in-Remove.ensures

pub at-requires-in-Contract : goal.at-requires-in-Contract
at-requires-in-Contract c =
    let below = partner_below _ _ c.requires.0 c.requires.2 in
    search rules

pub returns-in-Contract : goal.returns-in-Contract
returns-in-Contract c = after_contraction _ _ c.at.ensures _ c.in-Contract.ensures c.partner-other.ensures c.at-in-Contract.ensures
