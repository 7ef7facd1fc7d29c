-- `script::words::decimal`: the value is that of the digits so far, of at most 64 bits.
use Rattle.std.proofs.Common.{◌≡◌, ◌<◌, ◌^◌, take}
use Rattle.std.specs.Str.Parse.{AllDigits, digits_value}
use Rattle.script.proofs.words.decimal.Given as goal

abbrev pub invariant-loop-b : goal.invariant-loop-b
invariant-loop-b l = record {
  digits : AllDigits 10 (take l.b-index l.word);
  value : l.value ≡ digits_value 10 (take l.b-index l.word);
  bound : l.value < 2 ^ 64;
}
