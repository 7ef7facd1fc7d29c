-- The byte at a place of a file, 256 where the file has ended.
--   byte_inside == a place at which a byte below 256 stands is inside the file
--   byte_same   == the byte that was found is the one that is looked for
--   byte_other  == or it is another one, or none
--   digit_stands, digit_inside == a digit is a digit, inside the file
use mathlib.Core.Logic.{by_cases, ◌≢◌}
use mathlib.Core.Bool.{true, false}
use mathlib.Core.List.{List}
use mathlib.Core.Path.{◌≡◌, sym, ◌∙◌}
use Prim.Native.Nat.{ℕ, ◌+◌, ◌≤◌, ◌<◌}
use native.Mathlib.Decide.{dec_lt}
use native.Mathlib.Omega.{arith}
use lib.Dec.{eqb}
use lib.ListN.{length, get_or-eq_default}
use borrow.Author.Tests.{eqb-true, eqb-false, le-leb}
use Rattle.std.specs.Option.{option_eq}
use Rattle.std.specs.Prelude.{Option, None, Some}
use Rattle.darts.specs.Scan.{byte_at, is_digit}
use Rattle.file_lines.specs.Found.{byte_of, Digit}

module _ (b : List ℕ) (at : ℕ) where
  byte_past : length b ≤ at → byte_at b at ≡ 256
  unfolding byte_at
  byte_past h = get_or-eq_default b 256 h

  pub byte_inside : byte_at b at < 256 → at < length b
  byte_inside h = by_cases (dec_lt at (length b)) (λ i. i) (λ n. omega (arith, byte_past (omega arith)))

pub byte_same : {k c : ℕ} (r : Option ℕ) → byte_of r ≡ k → option_eq eqb r (Some c) ≡ true → k ≡ c
byte_same None e f = cc
byte_same {k} {c} (Some x) e f = sym e ∙ eqb-true x c f

pub byte_other : {k c : ℕ} (r : Option ℕ) → c < 256 → byte_of r ≡ k → option_eq eqb r (Some c) ≡ false → k ≢ c
byte_other None h e f = λ s. omega arith
byte_other {k} {c} (Some x) h e f = λ s. eqb-false x c f (e ∙ s)

module _ {b : List ℕ} {at x : ℕ} (d : Digit b at x) where
  pub digit_stands : is_digit (byte_at b at) ≡ true
  unfolding is_digit
  digit_stands = let s = d.small in rw d.byte (rw (le-leb 48 (48 + x) (omega arith), le-leb (48 + x) 57 (omega arith)))

  pub digit_inside : at < length b
  digit_inside = byte_inside b at (let s = d.small in let e = d.byte in omega arith)
