-- Numbers and fields in a file's bytes.
--   Figures w b at y end n == at most n digits stand from `at` to `end`, and those of y are w and then these
--   Number b at x end      == the digits of x, at most 99,999, stand from `at` to `end`
--   Field w e b at x end   == the word w, such a number and the word e stand from `at` to `end`
use mathlib.Core.Bool.{true, false, ◌&&◌}
use mathlib.Core.List.{List, [], ◌∷◌, ◌++◌, append_assoc, append-nil}
use mathlib.Core.Logic.{◌≢◌}
use mathlib.Core.Path.{◌≡◌, refl, sym, ap, ap₂, ◌∙◌, subst}
use Prim.Native.Nat.{ℕ, zero, suc, ◌+◌, ◌-◌, ◌*◌, ◌<◌, ◌≤◌}
use native.Mathlib.Decide.{ℕ_discrete}
use native.Mathlib.Omega.{arith}
use lib.Dec.{T, leb, leb→le, le→leb}
use lib.ListN.{length, length-append}
use Rattle.permutations.specs.Choice.{T?, T→true, not_T→false, eqb_same, eqb_other, and_left, and_right, and_intro}
use Rattle.darts.specs.Text.{decimal}
use Rattle.darts.specs.Scan.{found, byte_at, word, is_digit, number_on, number_at, field}
use Rattle.laws.proofs.file.Digits.{Decimal, one, more, decimal_few, decimal_right, decimal_only, decimal_bound, decimal_first, First}
use Rattle.laws.proofs.file.Words.{Between, between_byte, between_cons, between_none, between_join, between_split, byte_inside, after_found, same_found, fault≢found, all_bytes, word_found, found_word}

-- ---- one digit

digit_test : (c : ℕ) → c < 10 → is_digit (48 + c) ≡ true
unfolding is_digit
digit_test c h =
    T→true (leb 48 (48 + c) && leb (48 + c) 57)
    (and_intro (leb 48 (48 + c)) (leb (48 + c) 57) (le→leb 48 (48 + c) (omega arith)) (le→leb (48 + c) 57 (omega arith)))

pub digit_low : (c : ℕ) → T (is_digit c) → 48 ≤ c
unfolding is_digit
digit_low c t = leb→le 48 c (and_left (leb 48 c) (leb c 57) t)

pub digit_high : (c : ℕ) → T (is_digit c) → c ≤ 57
unfolding is_digit
digit_high c t = leb→le c 57 (and_right (leb 48 c) (leb c 57) t)

-- ---- one step of a number

number_step : (b : List ℕ) (n at x c : ℕ) → byte_at b at ≡ 48 + c → c < 10 → number_on (suc n) b at x ≡ number_on n b (suc at) (10 * x + c)
unfolding number_on
number_step b n at x c e h =
    let less : 48 + c - 48 ≡ c = omega arith in
    rw (e, digit_test c h, less)

number_stop : (b : List ℕ) (n at x : ℕ) → is_digit (byte_at b at) ≡ false → number_on n b at x ≡ found x at
unfolding number_on
number_stop b zero at x h = refl
number_stop b (suc n) at x h = rw h

-- the digits of x are passed, and x has been read
number_passed : {b : List ℕ} {x : ℕ} {w : List ℕ} → Decimal x w → {at end : ℕ} → Between b at w end → (n m : ℕ) → m ≡ length w + n
    → number_on m b at 0 ≡ number_on n b end x
number_passed {b} {x} (one h) {at} {end} B n m k =
    let last : end ≡ suc at = omega (arith, B.place) in
    let count : m ≡ suc n = omega arith in
    let value : 10 * 0 + x ≡ x = omega arith in
    rw (count, number_step b n at 0 x (between_byte B) h, value, last)
number_passed {b} (more {x} {c} {y} {w} s d h e) {at} {end} B n m k =
    let S = between_split w B in
    let last : end ≡ suc S.mid = omega (arith, S.second.place) in
    let count : m ≡ length w + suc n = let a = length-append w ((48 + c) ∷ []) in omega arith in
    number_passed d S.first (suc n) m count ∙ number_step b n S.mid x c (between_byte S.second) h ∙ ap₂ (number_on n b) (sym last) (sym e)

-- ---- a number is found where it stands before another byte than a digit

module _ {b : List ℕ} {x at end : ℕ} (h : x ≤ 99999) (B : Between b at (decimal x) end) (ended : is_digit (byte_at b end) ≡ false) where
  all_read : number_on 5 b at 0 ≡ found x end
  all_read =
      let d = decimal_right x h in
      let few = decimal_few x in
      number_passed d B (5 - length (decimal x)) 5 (omega arith) ∙ number_stop b (5 - length (decimal x)) end x ended

  pub number_found : number_at b at ≡ found x end
  unfolding number_at
  number_found = go (decimal_first (decimal_right x h))
    where
      go : First x (decimal x) → number_at b at ≡ found x end
      go f = start (ℕ_discrete f.digit 0)
        where
          B' : Between b at ((48 + f.digit) ∷ f.others) end
          B' = subst (λ w. Between b at w end) f.all B

          byte : byte_at b at ≡ 48 + f.digit
          byte = between_byte B'

          start : Dec (f.digit ≡ 0) → number_at b at ≡ found x end
          start (yes z) =
              let zeros = f.zero_only z in
              let first : byte_at b at ≡ 48 = omega (arith, byte) in
              let last : end ≡ suc at = (let l : length f.others ≡ 0 = ap length zeros.1 in omega (arith, B'.place)) in
              rw (eqb_same first, zeros.0, last)
          start (no n) =
              let other : byte_at b at ≢ 48 = omega (arith, byte) in
              rw (eqb_other other, byte, digit_test f.digit f.small) all_read

-- ---- what is found stands there

record Figures (w b : List ℕ) (at y end n : ℕ) : Type 0 where
  later : List ℕ
  digits : Decimal y (w ++ later)
  there : Between b at later end
  few : length later ≤ n

figures_none : {x : ℕ} {w b : List ℕ} {at y end : ℕ} (n : ℕ) → Decimal x w → at ≤ length b → found x at ≡ found y end → Figures w b at y end n
figures_none {x} {w} {b} {at} n d h e =
    same_found (λ y end. Figures w b at y end n) e
    (record { later = []; digits = subst (Decimal x) (sym (append-nil w)) d; there = between_none h; few = omega arith })

figures_more : {w b : List ℕ} {at y end n : ℕ} (c : ℕ) → byte_at b at ≡ 48 + c → Figures (w ++ ((48 + c) ∷ [])) b (suc at) y end n
    → Figures w b at y end (suc n)
figures_more {w} {b} {at} {y} {end} {n} c e F = record {
  later = (48 + c) ∷ F.later;
  digits = subst (Decimal y) (append_assoc w ((48 + c) ∷ []) F.later) F.digits;
  there = between_cons e F.there;
  few = omega (arith, F.few);
}

figures_on : (n : ℕ) {x : ℕ} {w b : List ℕ} {at y end : ℕ} → Decimal x w → 0 < x → at ≤ length b → number_on n b at x ≡ found y end
    → Figures w b at y end n
unfolding number_on
figures_on zero d s h e = figures_none zero d h e
figures_on (suc n) {x} {w} {b} {at} {y} {end} d s h e = go (T? (is_digit (byte_at b at)))
    (λ c small d' k. figures_on n (more {x = x} {c = c} s d small refl) (omega arith) d' k)
  where
    go : Dec (T (is_digit (byte_at b at)))
        → ((c : ℕ) → c < 10 → suc at ≤ length b → number_on n b (suc at) (10 * x + c) ≡ found y end → Figures (w ++ ((48 + c) ∷ [])) b (suc at) y end n)
        → Figures w b at y end (suc n)
    go (yes t) rest =
        let low = digit_low (byte_at b at) t in
        let high = digit_high (byte_at b at) t in
        let c : ℕ = byte_at b at - 48 in
        let byte : byte_at b at ≡ 48 + c = omega arith in
        figures_more c byte (rest c (omega arith) (byte_inside b at (omega arith)) (rw (T→true (is_digit (byte_at b at)) t) at e))
    go (no f) rest = figures_none (suc n) d h (rw (not_T→false (is_digit (byte_at b at)) f) at e)

pub record Number (b : List ℕ) (at x end : ℕ) : Type 0 where
  pub there : Between b at (decimal x) end
  pub bound : x ≤ 99999

number_there : {b : List ℕ} {at x end : ℕ} {w : List ℕ} → Decimal x w → length w ≤ 5 → Between b at w end → Number b at x end
number_there d few B = record { there = rw (decimal_only d few) B; bound = decimal_bound d few }

first_there : {b : List ℕ} {at x end : ℕ} (c : ℕ) → byte_at b at ≡ 48 + c → Figures ((48 + c) ∷ []) b (suc at) x end 4 → Number b at x end
first_there c byte F = number_there F.digits (omega (arith, F.few)) (between_cons byte F.there)

pub found_number : {b : List ℕ} {at x end : ℕ} → at ≤ length b → number_at b at ≡ found x end → Number b at x end
unfolding number_at
found_number {b} {at} {x} {end} h e = go (ℕ_discrete (byte_at b at) 48) (T? (is_digit (byte_at b at)))
  where
    go : Dec (byte_at b at ≡ 48) → Dec (T (is_digit (byte_at b at))) → Number b at x end
    go (yes z) t =
        let scan : found 0 (suc at) ≡ found x end = rw (eqb_same z) at e in
        let inside : suc at ≤ length b = byte_inside b at (omega arith) in
        same_found (Number b at) scan (number_there (one {x = 0} (omega arith)) (omega arith) (between_cons z (between_none inside)))
    go (no n) (yes t) =
        let low = digit_low (byte_at b at) t in
        let high = digit_high (byte_at b at) t in
        let c : ℕ = byte_at b at - 48 in
        let byte : byte_at b at ≡ 48 + c = omega arith in
        let inside : suc at ≤ length b = byte_inside b at (omega arith) in
        let scan : number_on 5 b at 0 ≡ found x end = rw (eqb_other n, T→true (is_digit (byte_at b at)) t) at e in
        let value : 10 * 0 + c ≡ c = omega arith in
        let scan' : number_on 4 b (suc at) c ≡ found x end = rw (number_step b 4 at 0 c byte (omega arith), value) at scan in
        first_there c byte (figures_on 4 (one {x = c} (omega arith)) (omega arith) inside scan')
    go (no n) (no f) = absurd (fault≢found (rw (eqb_other n, not_T→false (is_digit (byte_at b at)) f) at e))

-- ---- a field: a word, a number and a word

pub record Field (w e b : List ℕ) (at x end : ℕ) : Type 0 where
  pub there : Between b at (w ++ (decimal x ++ e)) end
  pub bound : x ≤ 99999

-- c, the first byte after the number, is no digit
pub field_found : {b : List ℕ} (w : List ℕ) (c : ℕ) (e : List ℕ) {at x end : ℕ} → is_digit c ≡ false → Field w (c ∷ e) b at x end
    → field w (c ∷ e) b at ≡ found x end
unfolding field
field_found w c e {x = x} n F =
    let S = between_split w F.there in
    let Z = between_split (decimal x) S.second in
    let ended = ap is_digit (between_byte Z.second) ∙ n in
    rw (word_found w S.first, number_found F.bound Z.first ended, word_found (c ∷ e) Z.second)

pub found_field : {b : List ℕ} (w e : List ℕ) {at x end : ℕ} → T (all_bytes w) → T (all_bytes e) → at ≤ length b → field w e b at ≡ found x end
    → Field w e b at x end
unfolding field
found_field {b} w e {at} a k h found_All =
    after_found (word w b at) _ found_All (λ _ mid first rest.
    let W = found_word w a h first in
    after_found (number_at b mid) _ rest (λ x next second rest.
    let N = found_number W.inside second in
    after_found (word e b next) _ rest (λ _ last third rest.
    let E = found_word e k N.there.inside third in
    same_found (Field w e b at) rest (record { there = between_join W (between_join N.there E); bound = N.bound }))))
