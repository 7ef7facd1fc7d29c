-- `script::words::decimal` meets its contract: each turn of the loop adds a digit.
use Rattle.std.proofs.Common.{◌≡◌, ◌<◌, ap, ◌∙◌, arith, get_or, subst}
use Rattle.std.specs.Char.{digit_value}
use Rattle.std.specs.Str.Parse.{AllDigits, digits_value}
use Rattle.std.proofs.lemmas.List.{take_all}
use Rattle.std.proofs.lemmas.Bool.Decides.{nat_tests}
use Rattle.std.proofs.lemmas.Int.Digits.{digits_more, digits_value_more}
use Rattle.script.proofs.words.decimal.Goals as goal

pub loop-b-preserved : goal.loop-b-preserved
loop-b-preserved c =
    let here = c.loop-b-test.true in
    let digit : digit_value (get_or c.args.word.now c.loop-b.b-index 0) ≡ c.from.result = grind (arith, nat_tests) in
    let below : digit_value (get_or c.args.word.now c.loop-b.b-index 0) < 10 = grind (arith, nat_tests) in
    record {
      digits = digits_more 10 c.args.word.now _ here c.loop-b.invariant.digits below;
      value = omega (arith, digits_value_more 10 c.args.word.now _ here, c.in_ok-value.ensures.1, c.in_ok-checked_mul.ensures.1, c.loop-b.invariant.value);
      bound = omega (arith, c.in_ok-value.ensures.0, c.in_ok-value.ensures.1);
    }

pub returns-else-is_empty : goal.returns-else-is_empty
returns-else-is_empty c =
    let all = take_all c.loop-b.b-index c.args.word.now c.loop-b-test.false in
    ((grind (arith, nat_tests), subst (AllDigits 10) all c.loop-b.invariant.digits), c.loop-b.invariant.value ∙ ap (digits_value 10) all, c.loop-b.invariant.bound)
