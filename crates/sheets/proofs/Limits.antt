-- "metres not from 0 to 100,000 (a NaN is not) or stitches too many" (document 02, request Five): the limits of a base's records, over the exact
-- values of floats. A float is no number, or plus or minus m * 2 ^ e, and 2 ^ e is the fraction up e / down e.
--   signed s n       == n, with the sign s
--   FromTo top x     == x is a number from 0 to top
--   YarnFrom top y   == metres from 0 to top, or not measured
--   metres_limits    == metres are fit exactly where they are from 0 to 100,000
--   fit_limits       == a record is fit exactly where it has up to 65,535 stitches, and metres from 0 to 100,000 or none
use mathlib.Core.Bool.{Bool, true, false, ◌||◌, ◌&&◌}
use mathlib.Core.Logic.Iff
use mathlib.Core.Logic.{◌↔◌, inl, inr, ⊎_elim}
use mathlib.Core.Path.{◌≡◌, refl, sym, ap}
use Prim.Native.Nat.{ℕ, zero, suc, ◌+◌, ◌*◌, ◌≤◌}
use native.Mathlib.Decide.{ℕ_discrete}
use native.Mathlib.Nat.{mul-one, zero-mul, zero-add}
use native.Mathlib.Omega.{arith}
use lib.Dec.{T, eqb, eqb→eq, ltb, leb, leb→le, le→leb, ltb→lt, lt→ltb}
use lib.IntN.{ℤ, pos, neg_ℤ, pos-ne-negsuc}
use lib.Ieee as Ieee
use lib.Ieee.{Float, nan, inf, fin, binary64, up, down, below, level}
use Rattle.permutations.specs.Choice.{eqb_same, and_iff, and_intro, and_left, and_right, or_cases, or_intro}
use Rattle.std.specs.Prelude.{Option, Some, None}
use Rattle.sheets.specs.declared.Zone.{Zone}
use Rattle.sheets.specs.Records.{metres_fit, yarn_fits, fit_of}

abbrev pub signed : Bool → ℕ → ℤ
signed false n = pos n
signed true n = neg_ℤ (pos n)

pub record FromTo (top : ℕ) (x : Float) : Type 0 where
  pub sign : Bool
  pub digits : ℕ
  pub exponent : ℤ
  -- no NaN, and no infinity
  pub number : x ≡ fin sign digits exponent
  -- it is parts / down exponent, which is not below 0, nor above top; minus zero is zero
  pub parts : ℕ
  pub from : signed sign (digits * up exponent) ≡ pos parts
  pub to : parts ≤ top * down exponent

abbrev pub YarnFrom : ℕ → Option Float → Type 0
YarnFrom top (Some m) = FromTo top m
YarnFrom top None = Unit {0}

-- ---- the limits as code has them, by their 64 bits

pub zero_literal : Ieee.of_bits binary64 0 ≡ fin false 0 (pos 0)
unfolding Ieee.of_bits
zero_literal = refl

pub top_literal : Ieee.of_bits binary64 4681608360884174848 ≡ fin false 3125 (pos 5)
unfolding Ieee.of_bits
top_literal = refl

-- ---- the comparisons of plus or minus a with 0 and with t

not_below : (a : ℕ) → T (ltb 0 a || (eqb 0 a && true))
not_below a = go (ℕ_discrete 0 a)
  where
    go : Dec (0 ≡ a) → T (ltb 0 a || (eqb 0 a && true))
    go (yes e) = or_intro (ltb 0 a) (eqb 0 a && true) (inr (rw (eqb_same e) tt))
    go (no n) = or_intro (ltb 0 a) (eqb 0 a && true) (inl (lt→ltb 0 a (omega arith)))

not_above : (a t : ℕ) → T (ltb a t || (eqb a t && true)) ↔ (a ≤ t)
not_above a t = (
  λ h. ⊎_elim (λ l. let k = ltb→lt a t l in omega arith) (λ e. let k = eqb→eq a t (and_left (eqb a t) true e) in omega arith)
      (or_cases (ltb a t) (eqb a t && true) h),
  λ l. go l (ℕ_discrete a t),
)
  where
    go : a ≤ t → Dec (a ≡ t) → T (ltb a t || (eqb a t && true))
    go l (yes e) = or_intro (ltb a t) (eqb a t && true) (inr (rw (eqb_same e) tt))
    go l (no n) = or_intro (ltb a t) (eqb a t && true) (inl (lt→ltb a t (omega arith)))

-- of what is not above 0, zero alone is not below it; and it is not above any limit
zero_alone : (a t : ℕ) → T ((eqb 0 a && true) && (ltb 0 (a + t) || (eqb a t && eqb a 0))) ↔ (a ≡ 0)
zero_alone a t = (
  λ h. sym (eqb→eq 0 a (and_left (eqb 0 a) true (and_left (eqb 0 a && true) (ltb 0 (a + t) || (eqb a t && eqb a 0)) h))),
  λ e. rw e (go t),
)
  where
    go : (t : ℕ) → T (ltb 0 (0 + t) || (eqb 0 t && true))
    go t = rw (zero-add t) (not_below t)

abbrev Within : ℕ → Bool → ℕ → Type 0
Within t s a = (n : ℕ) × (signed s a ≡ pos n) × (n ≤ t)

within_iff : (s : Bool) (a t : ℕ) → T ((below false 0 s a || level false 0 s a) && (below s a false t || level s a false t)) ↔ Within t s a
within_iff false a t = (
  λ h. (a, refl, (not_above a t).0 (and_right (ltb 0 a || (eqb 0 a && true)) (ltb a t || (eqb a t && true)) h)),
  λ (n, e, l).
      let k : a ≡ n = cc in
      and_intro (ltb 0 a || (eqb 0 a && true)) (ltb a t || (eqb a t && true)) (not_below a) ((not_above a t).1 (omega arith)),
)
within_iff true a t = (
  λ h. let e = (zero_alone a t).0 h in (0, ap (λ n. neg_ℤ (pos n)) e, omega arith),
  λ (n, e, l). (zero_alone a t).1 (no_minus a n e),
)
  where
    no_minus : (a n : ℕ) → neg_ℤ (pos a) ≡ pos n → a ≡ 0
    no_minus zero n e = refl
    no_minus (suc a) n e = absurd (pos-ne-negsuc n a (sym e))

-- ---- the limits

-- "metres not from 0 to 100,000 (a NaN is not)": 100,000 is 3125 * 2 ^ 5
pub metres_limits : (x : Float) → T (metres_fit x) ↔ FromTo 100000 x
unfolding Ieee.le Ieee.lt Ieee.eq
metres_limits nan = (λ t. absurd t, λ F. absurd (no_number F.number))
  where
    no_number : {s : Bool} {m : ℕ} {e : ℤ} → nan ≡ fin s m e → ⊥
    no_number k = let z : ◌≡◌ {A = ℕ} 0 1 = cc in omega arith
metres_limits (inf s) = (λ t. absurd (no s t), λ F. absurd (no_number F.number))
  where
    no : (s : Bool) → T (metres_fit (inf s)) → ⊥
    no true t = t
    no false t = t

    no_number : {z : Bool} {m : ℕ} {e : ℤ} → inf s ≡ fin z m e → ⊥
    no_number k = let z : ◌≡◌ {A = ℕ} 0 1 = cc in omega arith
metres_limits (fin s m e) = (
  λ t. let (n, from, to) = number.0 t in record { sign = s; digits = m; exponent = e; number = refl; parts = n; from = from; to = to },
  λ F. number.1 (told F),
)
  where
    number : T (metres_fit (fin s m e)) ↔ Within (100000 * down e) s (m * up e)
    number = rw (zero-mul (down e), mul-one (m * up e)) (within_iff s (m * up e) (100000 * down e))

    told : FromTo 100000 (fin s m e) → Within (100000 * down e) s (m * up e)
    told F =
        let sign : F.sign ≡ s = let k = F.number in cc in
        let digits : F.digits ≡ m = let k = F.number in cc in
        let exponent : F.exponent ≡ e = let k = F.number in cc in
        (F.parts, rw (sign, digits, exponent) at F.from, rw exponent at F.to)

yarn_limits : (y : Option Float) → T (yarn_fits y) ↔ YarnFrom 100000 y
yarn_limits (Some m) = metres_limits m
yarn_limits None = Iff.rfl

-- A RECORD IS FIT EXACTLY WHERE IT HAS "stitches, up to 65,535", AND "metres .. from 0 to 100,000" OR NONE
pub fit_limits : (z : Zone) → T (fit_of z) ↔ ((z.stitches ≤ 65535) × YarnFrom 100000 z.yarn)
fit_limits z =
    and_iff (leb z.stitches 65535) (yarn_fits z.yarn) (leb→le z.stitches 65535, le→leb z.stitches 65535) (λ h. yarn_limits z.yarn)
