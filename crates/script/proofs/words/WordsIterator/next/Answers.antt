-- `script::words::Words::next`: the word ends before the first space, or with the text.
use Rattle.std.proofs.Common.{rules, arith, ◌≡◌, ◌≤◌, ℕ, List, ◌==◌, Bool, drop, length, ap}
use Rattle.std.proofs.lemmas.Iterator.{YieldsList-from_slice}
use Rattle.std.proofs.lemmas.Iterator.Search.{position_from_yields_List}
use borrow.Author.Tests.{tests}
use Rattle.std.proofs.lemmas.Grind.{common_steps}
use Rattle.std.proofs.lemmas.List.Sums.{prefix_len-le-length}
use Rattle.std.specs.List.{position, position_or_len}
use Rattle.std.specs.Option.{unwrap_or}
use Rattle.std.specs.Prelude.{not}
use Rattle.script.proofs.words.WordsIterator.next.Goals as goal

end_is : (p : ℕ → Bool) (xs : List ℕ) → unwrap_or (position p xs) (length xs) ≡ position_or_len p xs
end_is p xs =
    let most : position_or_len p xs ≤ length xs = prefix_len-le-length (λ x. not (p x)) xs in
    grind (arith, common_steps, most)

pub returns-clause-steps : goal.returns-clause-steps
returns-clause-steps c =
    let found : c.position.result ≡ position (λ b. b == 32) c.in_ok-text.text.now =
    position_from_yields_List (λ b. b == 32) _ _ _ c.position.ensures.ran (YieldsList-from_slice c.in_ok-text.text.now (cc)) (λ x b q k. search (rules, tests)) in
    let end : c.unwrap_or-end.result ≡ position_or_len (λ b. b == 32) c.in_ok-text.text.now = rw (c.unwrap_or-end.ensures, found) (end_is (λ b. b == 32) c.in_ok-text.text.now) in
    let all : drop 1 c.args.self.now.text.now ≡ c.in_ok-text.text.now = ap (drop 1) c.in_ok-text.ensures.cases.0 in
    rw all (rw end at c.split_at.ensures.front, c.split_at.ensures.by_index.0)
