-- The decimal digits of a number.
--   Decimal x w == the bytes w are the digits of x, with no leading zero but for 0 itself
--   Fits n x    == n digits are enough for x
--   First x w   == the digits w of x begin with a digit, which is 0 only where x is
--   digits_before == digits are put before what stands there
use mathlib.Core.List.{List, [], ◌∷◌, ◌++◌, append_assoc}
use mathlib.Core.Path.{◌≡◌, refl, sym, ap, ◌∙◌}
use Prim.Native.Nat.{ℕ, zero, suc, ◌+◌, ◌*◌, ◌/◌, ◌%◌, ◌<◌, ◌≤◌}
use native.Mathlib.Decide.{dec_lt}
use native.Mathlib.Omega.{arith}
use lib.Dec.{ltb, ltb→lt, lt→ltb}
use lib.ListN.{length, length-append}
use Rattle.permutations.specs.Choice.{T→true, not_T→false}
use Rattle.darts.specs.Text.{digits, decimal}

pub data Decimal : ℕ → List ℕ → Type 0 where
  one : {x : ℕ} → x < 10 → Decimal x ((48 + x) ∷ [])
  more : {x c y : ℕ} {w : List ℕ} → 0 < x → Decimal x w → c < 10 → y ≡ 10 * x + c → Decimal y (w ++ ((48 + c) ∷ []))

abbrev Fits : ℕ → ℕ → Type 0
Fits zero x = ⊥
Fits (suc n) x = ¬ (x < 10) → Fits n (x / 10)

-- ---- the digits, one by one

digits_last : (n x : ℕ) (l : List ℕ) → x < 10 → digits (suc n) x l ≡ (48 + x) ∷ l
unfolding digits
digits_last n x l h = rw (T→true (ltb x 10) (lt→ltb x 10 h))

digits_more : (n x : ℕ) (l : List ℕ) → ¬ (x < 10) → digits (suc n) x l ≡ digits n (x / 10) ((48 + x % 10) ∷ l)
unfolding digits
digits_more n x l h = rw (not_T→false (ltb x 10) (λ t. h (ltb→lt x 10 t)))

pub digits_before : (n x : ℕ) (l : List ℕ) → digits n x l ≡ digits n x [] ++ l
unfolding digits
digits_before zero x l = refl
digits_before (suc n) x l = go (dec_lt x 10) (digits_before n (x / 10))
  where
    c : ℕ
    c = 48 + x % 10

    go : Dec (x < 10) → ((l : List ℕ) → digits n (x / 10) l ≡ digits n (x / 10) [] ++ l) → digits (suc n) x l ≡ digits (suc n) x [] ++ l
    go (yes h) rest = rw (digits_last n x l h, digits_last n x [] h)
    go (no h) rest = rw (digits_more n x l h, digits_more n x [] h, rest (c ∷ l), rest (c ∷ [])) (sym (append_assoc (digits n (x / 10) []) (c ∷ []) l))

-- ---- what is printed are the digits, and the digits are what is printed

digits_decimal : (n x : ℕ) → Fits n x → Decimal x (digits n x [])
digits_decimal zero x f = absurd f
digits_decimal (suc n) x f = go (dec_lt x 10) (λ h. digits_decimal n (x / 10) (f h))
  where
    go : Dec (x < 10) → (¬ (x < 10) → Decimal (x / 10) (digits n (x / 10) [])) → Decimal x (digits (suc n) x [])
    go (yes h) rest = rw (digits_last n x [] h) (one h)
    go (no h) rest = rw (digits_more n x [] h, digits_before n (x / 10) ((48 + x % 10) ∷ []))
        (more {x = x / 10} {c = x % 10} {y = x} (omega arith) (rest h) (omega arith) (omega arith))

decimal_digits : {x : ℕ} {w : List ℕ} → Decimal x w → (n : ℕ) → length w ≤ n → digits n x [] ≡ w
decimal_digits (one h) zero l = absurd (omega arith)
decimal_digits {x} (one h) (suc n) l = digits_last n x [] h
decimal_digits (more {c = c} {w = w} s d h e) zero l = absurd (omega (arith, length-append w ((48 + c) ∷ [])))
decimal_digits (more {x} {c} {y} {w} s d h e) (suc n) l =
    let ten : ¬ (y < 10) = omega arith in
    let front : y / 10 ≡ x = omega arith in
    let last : y % 10 ≡ c = omega arith in
    let short : length w ≤ n = let k = length-append w ((48 + c) ∷ []) in omega arith in
    digits_more n y [] ten ∙ rw (front, last, digits_before n x ((48 + c) ∷ []), decimal_digits d n short)

decimal_fits : {x : ℕ} {w : List ℕ} → Decimal x w → (n : ℕ) → length w ≤ n → Fits n x
decimal_fits (one h) zero l = absurd (omega arith)
decimal_fits (one h) (suc n) l = λ k. absurd (k h)
decimal_fits (more {c = c} {w = w} s d h e) zero l = absurd (omega (arith, length-append w ((48 + c) ∷ [])))
decimal_fits (more {x} {c} {y} {w} s d h e) (suc n) l = λ k.
    let front : y / 10 ≡ x = omega arith in
    rw front (decimal_fits d n (let k = length-append w ((48 + c) ∷ []) in omega arith))

digits_few : (n x : ℕ) (l : List ℕ) → length (digits n x l) ≤ n + length l
unfolding digits
digits_few zero x l = omega arith
digits_few (suc n) x l = go (dec_lt x 10) (digits_few n (x / 10) ((48 + x % 10) ∷ l))
  where
    go : Dec (x < 10) → length (digits n (x / 10) ((48 + x % 10) ∷ l)) ≤ n + suc (length l) → length (digits (suc n) x l) ≤ suc n + length l
    go (yes h) rest = rw (digits_last n x l h) (omega arith)
    go (no h) rest = rw (digits_more n x l h) (omega arith)

-- no more digits than are enough
digits_enough : (n m x : ℕ) (l : List ℕ) → Fits n x → length (digits m x l) ≤ n + length l
unfolding digits
digits_enough zero m x l f = absurd f
digits_enough (suc n) zero x l f = omega arith
digits_enough (suc n) (suc m) x l f = go (dec_lt x 10) (λ h. digits_enough n m (x / 10) ((48 + x % 10) ∷ l) (f h))
  where
    go : Dec (x < 10) → (¬ (x < 10) → length (digits m (x / 10) ((48 + x % 10) ∷ l)) ≤ n + suc (length l)) → length (digits (suc m) x l) ≤ suc n + length l
    go (yes h) rest = rw (digits_last m x l h) (omega arith)
    go (no h) rest = rw (digits_more m x l h) (omega (arith, rest h))

-- ---- "one to five digits"

module _ (x : ℕ) where
  pub decimal_few : length (decimal x) ≤ 5
  unfolding decimal
  decimal_few = digits_few 5 x []

  pub decimal_two : x ≤ 99 → length (decimal x) ≤ 2
  unfolding decimal
  decimal_two h = digits_enough 2 5 x [] (λ a b. omega arith)

  pub decimal_four : x ≤ 9999 → length (decimal x) ≤ 4
  unfolding decimal
  decimal_four h = digits_enough 4 5 x [] (λ a b c d. omega arith)

  pub decimal_right : x ≤ 99999 → Decimal x (decimal x)
  unfolding decimal
  decimal_right h = digits_decimal 5 x (λ a b c d e. omega arith)

module _ {x : ℕ} {w : List ℕ} (d : Decimal x w) (few : length w ≤ 5) where
  pub decimal_only : decimal x ≡ w
  unfolding decimal
  decimal_only = decimal_digits d 5 few

  pub decimal_bound : x ≤ 99999
  decimal_bound = go (dec_lt 99999 x)
    where
      go : Dec (99999 < x) → x ≤ 99999
      go (yes h) = absurd (decimal_fits d 5 few (omega arith) (omega arith) (omega arith) (omega arith) (omega arith))
      go (no h) = omega arith

-- ---- the first digit

pub record First (x : ℕ) (w : List ℕ) : Type 0 where
  pub digit : ℕ
  pub others : List ℕ
  pub all : w ≡ (48 + digit) ∷ others
  pub small : digit < 10
  pub zero_only : digit ≡ 0 → (x ≡ 0) × (others ≡ [])

pub decimal_first : {x : ℕ} {w : List ℕ} → Decimal x w → First x w
decimal_first {x} (one h) = record { digit = x; others = []; all = refl; small = h; zero_only = λ e. (e, refl) }
decimal_first (more {x} {c} {y} {w} s d h e) =
    let f = decimal_first d in
    record {
      digit = f.digit;
      others = f.others ++ ((48 + c) ∷ []);
      all = ap (λ l. l ++ ((48 + c) ∷ [])) f.all;
      small = f.small;
      zero_only = λ z. let k = (f.zero_only z).0 in absurd (omega arith);
    }
