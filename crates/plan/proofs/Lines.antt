-- The lines of a drawing, byte by byte.
--   wales_none, wales_feed, wales_other == the first line's length at no byte, at a line feed, at another byte
--   line_ends, line_on, line_short, line_long == a byte, or a line feed, that the line may have there or may not
--   last_ended, last_open               == no byte is left
--   lines_fill                          == where no line is wrong, the lines are the whole drawing
use mathlib.Core.List.{List, [], ◌∷◌}
use mathlib.Core.Logic.{◌≢◌}
use mathlib.Core.Path.{◌≡◌, refl, sym}
use Prim.Native.Nat.{ℕ, suc, ◌+◌, ◌*◌, ◌/◌, ◌≤◌, ◌<◌}
use native.Mathlib.Decide.{ℕ_discrete}
use native.Mathlib.Nat.{zero-mul, div-eq_of_eq-mul_left}
use native.Mathlib.Numerals.{add-one}
use native.Mathlib.Omega.{arith}
use lib.ListN.{length, get_or, drop, drop_of_length-le}
use Rattle.std.specs.Prelude.{Some, None}
use lib.Seq.{drop-cons}
use Rattle.permutations.specs.Choice.{eqb_same, eqb_other}
use Rattle.plan.specs.Drawing.{wales_of, wrong_from, wrong_line, courses_of}

-- what is left begins with the byte at i
next : (d : List ℕ) (i : ℕ) → i < length d → drop i d ≡ get_or d i 0 ∷ drop (i + 1) d
next d i h = rw (add-one i) (drop-cons d i 0 h)

-- ---- the first line

pub wales_none : wales_of [] ≡ 0
unfolding wales_of
wales_none = refl

pub wales_feed : (b : ℕ) (d : List ℕ) → b ≡ 10 → wales_of (b ∷ d) ≡ 0
unfolding wales_of
wales_feed b d e = rw (eqb_same e) refl

pub wales_other : (b : ℕ) (d : List ℕ) → b ≢ 10 → wales_of (b ∷ d) ≡ wales_of d + 1
unfolding wales_of
wales_other b d n = rw (eqb_other n) (sym (add-one (wales_of d)))

-- ---- the wrong line

-- from the byte at i on, after k bytes of line n
module _ (w k n : ℕ) (d : List ℕ) (i : ℕ) where
  module _ (h : i < length d) where
    pub line_ends : get_or d i 0 ≡ 10 → k ≡ w → wrong_from w k n (drop i d) ≡ wrong_from w 0 (n + 1) (drop (i + 1) d)
    unfolding wrong_from
    line_ends feed full = rw (next d i h, eqb_same feed, eqb_same full) refl

    pub line_on : get_or d i 0 ≢ 10 → k ≢ w → wrong_from w k n (drop i d) ≡ wrong_from w (k + 1) n (drop (i + 1) d)
    unfolding wrong_from
    line_on other more = rw (next d i h, eqb_other other, eqb_other more) refl

    pub line_short : get_or d i 0 ≡ 10 → k ≢ w → wrong_from w k n (drop i d) ≡ Some n
    unfolding wrong_from
    line_short feed more = rw (next d i h, eqb_same feed, eqb_other more) refl

    pub line_long : get_or d i 0 ≢ 10 → k ≡ w → wrong_from w k n (drop i d) ≡ Some n
    unfolding wrong_from
    line_long other full = rw (next d i h, eqb_other other, eqb_same full) refl

  pub last_ended : length d ≤ i → k ≡ 0 → wrong_from w k n (drop i d) ≡ None
  unfolding wrong_from
  last_ended h e = rw (drop_of_length-le d h, eqb_same e) refl

  pub last_open : length d ≤ i → k ≢ 0 → wrong_from w k n (drop i d) ≡ Some n
  unfolding wrong_from
  last_open h some = rw (drop_of_length-le d h, eqb_other some) refl

-- ---- a drawing whose lines are all right

record Whole (w m : ℕ) : Type 0 where
  count : ℕ
  all : m ≡ count * (w + 1)

is_some : {n : ℕ} → Some n ≡ None → ⊥
is_some e = cc

-- one byte: what is left after it ends with a whole line
whole_on : (w k n b : ℕ) (d : List ℕ) → k ≤ w
    → ((j m : ℕ) → j ≤ w → wrong_from w j m d ≡ None → Whole w (j + length d))
    → Dec (b ≡ 10) → Dec (k ≡ w) → wrong_from w k n (b ∷ d) ≡ None → Whole w (k + suc (length d))
unfolding wrong_from
whole_on w k n b d h rest (yes feed) (yes full) none =
    let W = rest 0 (n + 1) (omega arith) (rw (eqb_same feed, eqb_same full) at none) in
    record { count = suc W.count; all = omega (arith, W.all, full) }
whole_on w k n b d h rest (yes feed) (no more) none = absurd (is_some (rw (eqb_same feed, eqb_other more) at none))
whole_on w k n b d h rest (no other) (yes full) none = absurd (is_some (rw (eqb_other other, eqb_same full) at none))
whole_on w k n b d h rest (no other) (no more) none =
    let W = rest (k + 1) n (omega (arith, more)) (rw (eqb_other other, eqb_other more) at none) in
    record { count = W.count; all = omega (arith, W.all) }

-- no byte
whole_last : (w k n : ℕ) → Dec (k ≡ 0) → wrong_from w k n [] ≡ None → Whole w (k + 0)
unfolding wrong_from
whole_last w k n (yes e) none = record { count = 0; all = omega (arith, e, zero-mul (w + 1)) }
whole_last w k n (no begun) none = absurd (is_some (rw (eqb_other begun) at none))

whole_from : (w k n : ℕ) (d : List ℕ) → k ≤ w → wrong_from w k n d ≡ None → Whole w (k + length d)
whole_from w k n [] h none = whole_last w k n (ℕ_discrete k 0) none
whole_from w k n (b ∷ d) h none = whole_on w k n b d h (λ j m. whole_from w j m d) (ℕ_discrete b 10) (ℕ_discrete k w) none

pub lines_fill : (d : List ℕ) → wrong_line d ≡ None → length d ≡ courses_of d * (wales_of d + 1)
unfolding wrong_line courses_of
lines_fill d none =
    let W = whole_from (wales_of d) 0 1 d (omega arith) none in
    let bytes : length d ≡ W.count * (wales_of d + 1) = omega (arith, W.all) in
    let courses : length d / (wales_of d + 1) ≡ W.count = div-eq_of_eq-mul_left (omega arith) bytes in
    rw courses bytes
