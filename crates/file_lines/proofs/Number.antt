-- A number at a place of a file.
--   digit_range  == a digit is a byte from 48 to 57
--   Small n x    == n digits more after x make no number over 99,999
--   small_on     == one digit taken
--   small_now    == x itself is at most 99,999
--   digits_stop  == another byte ends the number
--   digits_on    == a digit leads on to the next
--   digits_end   == with no digit left the number ends
--   number_zero, number_wrong, number_digits == what the first byte decides
--   number_small == a number that is found is at most 99,999
use mathlib.Core.Path.{◌≡◌, refl}
use mathlib.Core.Logic.{◌≢◌}
use mathlib.Core.Bool.{Bool, true, false, and-eq-true_iff}
use mathlib.Core.List.{List}
use Prim.Native.Nat.{ℕ, zero, suc, ◌+◌, ◌-◌, ◌*◌, ◌^◌, ◌≤◌, ◌<◌}
use native.Mathlib.Nat.{pow-succ', mul-le-mul_right, mul_assoc, le-mul_of_pos_right, pow-le-pow_right}
use native.Mathlib.Numerals.{add-one}
use native.Mathlib.Omega.{arith}
use lib.Dec.{leb, eqb}
use borrow.Author.Tests.{leb-true, ne_eqb}
use Rattle.std.proofs.Common.{if◌then◌else◌}
use Rattle.darts.specs.Answers.{no_file}
use Rattle.darts.specs.Scan.{byte_at, found, fault, is_digit, number_on, number_at}
use Rattle.file_lines.specs.Found.{Digit}
use Rattle.file_lines.proofs.Byte.{digit_stands}

pub digit_range : (c : ℕ) → is_digit c ≡ true → (48 ≤ c) × (c ≤ 57)
unfolding is_digit
digit_range c e =
    let both = (and-eq-true_iff (leb 48 c) (leb c 57)).0 e in
    (leb-true 48 c both.0, leb-true c 57 both.1)

pub record Small (n x : ℕ) : Type 0 where
  pub within : (x + 1) * 10 ^ n ≤ 100000

pub small_on : (n x d : ℕ) → 0 < n → Small n x → d ≤ 9 → Small (n - 1) (10 * x + d)
small_on zero x d h r small = absurd (omega arith)
small_on (suc n) x d h r small =
    let back : suc n - 1 ≡ n = omega arith in
    let more : (10 * x + d + 1) * 10 ^ n ≤ (x + 1) * 10 * 10 ^ n = mul-le-mul_right (10 ^ n) (omega arith) in
    let same : (x + 1) * 10 * 10 ^ n ≡ (x + 1) * 10 ^ suc n = rw pow-succ' (mul_assoc (x + 1) 10 (10 ^ n)) in
    rw back (record { within = omega (arith, r.within) })

pub small_now : (n x : ℕ) → Small n x → x ≤ 99999
small_now n x r =
    let one : 10 ^ 0 ≤ 10 ^ n = pow-le-pow_right (omega arith) {i = 0} (omega arith) in
    let more : x + 1 ≤ (x + 1) * 10 ^ n = le-mul_of_pos_right (x + 1) (omega arith) in
    omega (arith, r.within)

module _ (b : List ℕ) (at x : ℕ) where
  pub digits_stop : (n : ℕ) → is_digit (byte_at b at) ≡ false → number_on n b at x ≡ found x at
  unfolding number_on
  digits_stop zero e = refl
  digits_stop (suc n) e = rw e

  pub digits_on : (n : ℕ) → 0 < n → {d : ℕ} → Digit b at d → number_on n b at x ≡ number_on (n - 1) b (at + 1) (10 * x + d)
  unfolding number_on
  digits_on zero h e = absurd (omega arith)
  digits_on (suc n) h {d} e =
      let back : suc n - 1 ≡ n = omega arith in
      let value : 48 + d - 48 ≡ d = omega arith in
      rw (digit_stands e) (rw (back, add-one at, e.byte, value))

pub digits_end : (b : List ℕ) (at x n : ℕ) → n ≤ 0 → number_on n b at x ≡ found x at
unfolding number_on
digits_end b at x zero h = refl
digits_end b at x (suc n) h = absurd (omega arith)

-- n digits more after a number that leaves room for them make a small one
digits_small : (n : ℕ) (b : List ℕ) (at x : ℕ) → Small n x → (y next : ℕ) → number_on n b at x ≡ found y next → y ≤ 99999
unfolding number_on
digits_small zero b at x r y next e = let same : x ≡ y = cc in omega (arith, small_now zero x r)
digits_small (suc n) b at x r y next e = go (is_digit (byte_at b at)) refl e (digits_small n b (suc at) (10 * x + (byte_at b at - 48)))
  where
    go : (t : Bool) → is_digit (byte_at b at) ≡ t → (if t then number_on n b (suc at) (10 * x + (byte_at b at - 48)) else found x at) ≡ found y next
        → (Small n (10 * x + (byte_at b at - 48)) → (y next : ℕ) → number_on n b (suc at) (10 * x + (byte_at b at - 48)) ≡ found y next → y ≤ 99999)
        → y ≤ 99999
    go true d e small =
        let back : suc n - 1 ≡ n = omega arith in
        small (rw back at (small_on (suc n) x (byte_at b at - 48) (omega arith) r (omega (arith, digit_range (byte_at b at) d)))) y next e
    go false d e small = let same : x ≡ y = cc in omega (arith, small_now (suc n) x r)

module _ (b : List ℕ) (at : ℕ) where
  pub number_zero : Digit b at 0 → number_at b at ≡ found 0 (at + 1)
  unfolding number_at
  number_zero d = rw (d.byte, add-one at)

  pub number_wrong : is_digit (byte_at b at) ≡ false → number_at b at ≡ fault (no_file at)
  unfolding number_at is_digit
  number_wrong d =
      let other : byte_at b at ≢ 48 = λ e. let never : true ≡ false = rw e at d in cc in
      rw (ne_eqb (byte_at b at) 48 other, d)

  pub number_digits : {x : ℕ} → x ≢ 0 → Digit b at x → number_at b at ≡ number_on 5 b at 0
  unfolding number_at
  number_digits n d = rw (digit_stands d, ne_eqb (byte_at b at) 48 (λ e. n (omega (arith, d.byte))))

pub number_small : (b : List ℕ) (at : ℕ) {x next : ℕ} → number_at b at ≡ found x next → x ≤ 99999
unfolding number_at
number_small b at {x} {next} e = go (eqb (byte_at b at) 48) (is_digit (byte_at b at)) e
  where
    go : (z d : Bool) → (if z then found 0 (suc at) else if d then number_on 5 b at 0 else fault (no_file at)) ≡ found x next → x ≤ 99999
    go true d e = let same : 0 ≡ x = cc in omega arith
    go false true e = digits_small 5 b at 0 (record { within = omega arith }) x next e
    go false false e = let never : ◌≡◌ {A = ℕ} 0 1 = cc in omega arith
