-- The decimal digits of a number.
--   decimal_one             == a number below ten is one digit
--   decimal_more            == any other is its tenth, and then the last digit
--   one_length, more_length == how many digits these are
--   power_length            == and how many a number has between two powers of ten
--   decimal_short           == at most five
use mathlib.Core.Path.{◌≡◌, refl, sym, ap, ◌∙◌}
use mathlib.Core.Bool.{Bool, true, false}
use mathlib.Core.List.{List, [], ◌∷◌, ◌++◌}
use Prim.Native.Nat.{ℕ, zero, suc, ◌+◌, ◌*◌, ◌/◌, ◌%◌, ◌^◌, ◌≤◌, ◌<◌}
use native.Mathlib.Nat.{pow-succ', pow-le-pow_right}
use native.Mathlib.Omega.{arith}
use lib.Dec.{ltb}
use lib.ListN.{length, length-append}
use borrow.Author.Tests.{lt-ltb, le-ltb}
use Rattle.std.proofs.Common.{if◌then◌else◌}
use Rattle.darts.specs.Text.{digits, decimal}
use Rattle.laws.proofs.file.Digits.{digits_before}

-- one digit more than enough changes nothing
digits_enough : (n x : ℕ) (b : List ℕ) → x < 10 ^ suc n → digits (suc (suc n)) x b ≡ digits (suc n) x b
unfolding digits
digits_enough zero x b h = rw (lt-ltb x 10 h)
digits_enough (suc n) x b h =
    let power : 10 ^ suc (suc n) ≡ 10 * 10 ^ suc n = pow-succ' 10 (suc n) in
    go (ltb x 10) (digits_enough n (x / 10) ((48 + x % 10) ∷ b) (omega arith))
  where
    go : (t : Bool) → digits (suc (suc n)) (x / 10) ((48 + x % 10) ∷ b) ≡ digits (suc n) (x / 10) ((48 + x % 10) ∷ b)
        → (if t then (48 + x) ∷ b else digits (suc (suc n)) (x / 10) ((48 + x % 10) ∷ b))
        ≡ (if t then (48 + x) ∷ b else digits (suc n) (x / 10) ((48 + x % 10) ∷ b))
    go true e = refl
    go false e = e

pub decimal_one : (x : ℕ) → x < 10 → decimal x ≡ (48 + x) ∷ []
unfolding decimal digits
decimal_one x h = rw (lt-ltb x 10 h)

-- the last digit of a number that has more than one
digits_last : (n x : ℕ) (b : List ℕ) → 10 ≤ x → digits (suc n) x b ≡ digits n (x / 10) ((48 + x % 10) ∷ b)
unfolding digits
digits_last n x b h = rw (le-ltb x 10 h)

pub decimal_more : (x : ℕ) → 10 ≤ x → x ≤ 99999 → decimal x ≡ decimal (x / 10) ++ ((48 + x % 10) ∷ [])
unfolding decimal
decimal_more x low high =
    let last : List ℕ = (48 + x % 10) ∷ [] in
    digits_last 4 x [] low
    ∙ digits_before 4 (x / 10) last
    ∙ sym (ap (λ (l : List ℕ). l ++ last) (digits_enough 3 (x / 10) [] (omega arith)))

pub one_length : (x : ℕ) → x < 10 → length (decimal x) ≡ 1
one_length x h = ap length (decimal_one x h)

pub more_length : (x : ℕ) → 10 ≤ x → x ≤ 99999 → length (decimal x) ≡ length (decimal (x / 10)) + 1
more_length x low high = ap length (decimal_more x low high) ∙ length-append (decimal (x / 10)) ((48 + x % 10) ∷ [])

pub power_length : (k x : ℕ) → 10 ^ k ≤ x → x < 10 * 10 ^ k → x ≤ 99999 → length (decimal x) ≡ k + 1
power_length zero x low high small = one_length x (omega arith)
power_length (suc k) x low high small =
    let power : 10 ^ suc k ≡ 10 * 10 ^ k = pow-succ' 10 k in
    let some : 1 ≤ 10 ^ k = pow-le-pow_right {n = 10} (omega arith) {i = 0} (omega arith) in
    more_length x (omega arith) small ∙ ap (λ (n : ℕ). n + 1) (power_length k (x / 10) (omega arith) (omega arith) (omega arith)) ∙ omega arith

digits_short : (n x : ℕ) (b : List ℕ) → length (digits n x b) ≤ n + length b
unfolding digits
digits_short zero x b = omega arith
digits_short (suc n) x b = go (ltb x 10) (digits_short n (x / 10) ((48 + x % 10) ∷ b))
  where
    go : (t : Bool) → length (digits n (x / 10) ((48 + x % 10) ∷ b)) ≤ n + suc (length b)
        → length (if t then (48 + x) ∷ b else digits n (x / 10) ((48 + x % 10) ∷ b)) ≤ suc n + length b
    go true l = omega arith
    go false l = omega arith

pub decimal_short : (x : ℕ) → length (decimal x) ≤ 5
unfolding decimal
decimal_short x = digits_short 5 x []
