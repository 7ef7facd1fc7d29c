-- When two records are the same. "Undo returns the old figure bit for bit" (document 02, request Five): same_zone is equality, and of metres it is equality of
-- their patterns.
--   decides            == a test that is true of equals alone, and of each thing with itself, decides equality
--   X-only, X-itself   == the test of X is true of equals alone, and of each X with itself
--   metres_decide      == same_metres decides equality of floats
--   same_decides       == same_zone decides equality of records
--   same_bits          == metres are the same where their patterns are
--   nans_same          == two NaNs are the same
--   one_nan            == the NaN and a number are not the same
use mathlib.Core.Bool.{Bool, true, false, beq, true≢false}
use mathlib.Core.Logic.{◌↔◌, ◌≢◌}
use mathlib.Core.Path.{◌≡◌, refl, sym, ◌∙◌, ap, subst}
use Prim.Native.Nat.{ℕ}
use lib.Dec.{T, eqb, eqb→eq, eqb_refl}
use lib.IntN.{ℤ, pos, negsuc}
use lib.Ieee.{Float, nan, inf, fin, binary64, fits, to_bits, of_bits, is_nan}
use lib.Ieee.Bits.{of_bits-to_bits}
use Rattle.permutations.specs.Choice.{T→true, not_T→false, T-ext, and_intro, and_left, and_right}
use Rattle.std.specs.Prelude.{Option, Some, None}
use Rattle.sheets.specs.declared.Zone.{Zone}
use Rattle.sheets.specs.Records.{same_integer, same_metres, same_yarn, same_zone}

-- ---- each test decides equality

decides : {X : Type 0} (test : X → X → Bool) → ((a b : X) → T (test a b) → a ≡ b) → ((a : X) → T (test a a)) → (a b : X) → T (test a b) ↔ (a ≡ b)
decides {X} test only itself a b = (only a b, λ e. subst (λ (c : X). T (test a c)) e (itself a))

sign_only : (s z : Bool) → T (beq s z) → s ≡ z
sign_only true true t = refl
sign_only true false t = absurd t
sign_only false true t = absurd t
sign_only false false t = refl

sign_itself : (s : Bool) → T (beq s s)
sign_itself true = tt
sign_itself false = tt

integer_only : (a b : ℤ) → T (same_integer a b) → a ≡ b
unfolding same_integer
integer_only (pos a) (pos b) t = ap pos (eqb→eq a b t)
integer_only (pos a) (negsuc b) t = absurd t
integer_only (negsuc a) (pos b) t = absurd t
integer_only (negsuc a) (negsuc b) t = ap negsuc (eqb→eq a b t)

integer_itself : (a : ℤ) → T (same_integer a a)
unfolding same_integer
integer_itself (pos a) = eqb_refl a
integer_itself (negsuc a) = eqb_refl a

metres_only : (x y : Float) → T (same_metres x y) → x ≡ y
unfolding same_metres
metres_only nan nan t = refl
metres_only nan (inf s) t = absurd t
metres_only nan (fin s m e) t = absurd t
metres_only (inf s) nan t = absurd t
metres_only (inf s) (inf z) t = ap inf (sign_only s z t)
metres_only (inf s) (fin z m e) t = absurd t
metres_only (fin s m e) nan t = absurd t
metres_only (fin s m e) (inf z) t = absurd t
metres_only (fin s m e) (fin z n f) t =
    let signs = sign_only s z (and_left (beq s z) _ t) in
    let rest = and_right (beq s z) _ t in
    let digits = eqb→eq m n (and_left (eqb m n) _ rest) in
    let exponents = integer_only e f (and_right (eqb m n) _ rest) in
    λ i. fin (signs i) (digits i) (exponents i)

metres_itself : (x : Float) → T (same_metres x x)
unfolding same_metres
metres_itself nan = tt
metres_itself (inf s) = sign_itself s
metres_itself (fin s m e) = and_intro (beq s s) _ (sign_itself s) (and_intro (eqb m m) _ (eqb_refl m) (integer_itself e))

yarn_only : (u v : Option Float) → T (same_yarn u v) → u ≡ v
unfolding same_yarn
yarn_only (Some x) (Some y) t = ap (λ (m : Float). Some m) (metres_only x y t)
yarn_only (Some x) None t = absurd t
yarn_only None (Some y) t = absurd t
yarn_only None None t = refl

yarn_itself : (u : Option Float) → T (same_yarn u u)
unfolding same_yarn
yarn_itself (Some x) = metres_itself x
yarn_itself None = tt

zone_only : (a b : Zone) → T (same_zone a b) → a ≡ b
unfolding same_zone
zone_only a b t =
    let stitches_are = eqb→eq a.stitches b.stitches (and_left (eqb a.stitches b.stitches) _ t) in
    let yarns_are = yarn_only a.yarn b.yarn (and_right (eqb a.stitches b.stitches) _ t) in
    λ i. record { stitches = stitches_are i; yarn = yarns_are i }

zone_itself : (a : Zone) → T (same_zone a a)
unfolding same_zone
zone_itself a = and_intro (eqb a.stitches a.stitches) _ (eqb_refl a.stitches) (yarn_itself a.yarn)

pub metres_decide : (x y : Float) → T (same_metres x y) ↔ (x ≡ y)
metres_decide = decides same_metres metres_only metres_itself

-- "bit for bit"
pub same_decides : (a b : Zone) → T (same_zone a b) ↔ (a ≡ b)
same_decides = decides same_zone zone_only zone_itself

-- ---- a float is made back of its pattern, so equal patterns are of equal floats. It holds of the NaN too, at the one pattern that to_bits gives it.

bits_only : (x y : Float) → T (fits binary64 x) → T (fits binary64 y) → T (eqb (to_bits binary64 x) (to_bits binary64 y)) → x ≡ y
bits_only x y x_Fits y-fits t =
    sym (of_bits-to_bits binary64 x x_Fits) ∙ ap (λ (n : ℕ). of_bits binary64 n) (eqb→eq _ _ t) ∙ of_bits-to_bits binary64 y y-fits

pub same_bits : (x y : Float) → T (fits binary64 x) → T (fits binary64 y) → same_metres x y ≡ eqb (to_bits binary64 x) (to_bits binary64 y)
same_bits x y x_Fits y-fits =
    T-ext (same_metres x y) (eqb (to_bits binary64 x) (to_bits binary64 y))
    (λ t. subst (λ (z : Float). T (eqb (to_bits binary64 x) (to_bits binary64 z))) (metres_only x y t) (eqb_refl (to_bits binary64 x)))
    (λ t. (metres_decide x y).1 (bits_only x y x_Fits y-fits t))

-- ---- the NaN

only_nan : (x : Float) → is_nan x ≡ true → x ≡ nan
unfolding is_nan
only_nan nan e = refl
only_nan (inf s) e = cc
only_nan (fin s m e) f = cc

-- p and q say whether x and y are the NaN
module _ (x y : Float) where
  pub nans_same : (p q : Bool) → p ≡ is_nan x → q ≡ is_nan y → beq p q ≡ true → p ≡ true → p ≡ same_metres x y
  nans_same true true d e b t = sym (T→true _ ((metres_decide x y).1 (only_nan x (sym d) ∙ sym (only_nan y (sym e)))))
  nans_same true false d e b t = cc
  nans_same false q d e b t = cc

  pub one_nan : (p q : Bool) → p ≡ is_nan x → q ≡ is_nan y → beq p q ≡ false → beq p q ≡ same_metres x y
  one_nan p q d e b = b ∙ sym (not_T→false _ (λ t. differ (d ∙ ap is_nan (metres_only x y t) ∙ sym e)))
    where
      differ : p ≢ q
      differ k = true≢false (sym (T→true _ (sign_itself p)) ∙ ap (λ (u : Bool). beq p u) k ∙ b)
