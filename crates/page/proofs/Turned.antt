-- The magnitude of a number of 32 bits, worked out in 64.
--   wide           == a number of 32 bits read back from 64 is the number
--   magnitude_fits == its magnitude fits in 64 bits
--   below          == taken from zero, a number below zero is its magnitude
--   below_fits     == which fits in 64 bits as a signed number
--   below_back     == and reads back as it is
--   above          == a number that is not below zero has no sign
use mathlib.Core.Bool.{true, false}
use mathlib.Core.Path.{◌≡◌, ap, ◌∙◌}
use Prim.Native.Nat.{ℕ, suc, ◌≤◌}
use native.Mathlib.Nat.{zero-add}
use native.Mathlib.Omega.{arith}
use borrow.Author.Tests.{ltb-true}
use lib.IntN.{ℤ, pos, negsuc, nat_abs, ◌-ℤ◌}
use lib.Dec.{T}
use lib.Signed.{lt_z, non_neg, nat_abs-le}
use mir.Syntax.{w32, w64}
use mir.Val.{Fits, SFits, to_z, of_z}
use mir.Facts.{to_z-of_z, sfits_widen}

pub wide : {z : ℤ} → SFits w32 z → to_z w64 (of_z w64 (to_z w32 (of_z w32 z))) ≡ z
wide S = ap (λ y. to_z w64 (of_z w64 y)) (to_z-of_z S) ∙ to_z-of_z {w = w64} (sfits_widen {w = w32} {w' = w64} tt S)

turned : (z : ℤ) → lt_z z (pos 0) ≡ true → pos 0 -ℤ z ≡ pos (nat_abs z)
turned (pos n) t = absurd (omega (arith, ltb-true n 0 t))
turned (negsuc n) t = ap pos (zero-add (suc n))

pub above : {x z : ℤ} → x ≡ z → lt_z x (pos 0) ≡ false → T (non_neg x)
above {x = pos n} e t = tt
above {x = negsuc n} e t = let z : ◌≡◌ {A = ℕ} 0 1 = cc in absurd (omega arith)

module _ {z : ℤ} (S : SFits w32 z) where
  bounded : nat_abs z ≤ 2147483648
  bounded = nat_abs-le z S.sfits

  pub magnitude_fits : Fits w64 (nat_abs z)
  magnitude_fits = record { fits = let h = bounded in omega arith }

  kept : SFits w64 (pos (nat_abs z))
  kept = record { sfits = let h = bounded in omega arith }

  module _ {x : ℤ} (e : x ≡ z) (t : lt_z x (pos 0) ≡ true) where
    below : pos 0 -ℤ x ≡ pos (nat_abs z)
    below = turned x t ∙ ap (λ y. pos (nat_abs y)) e

    pub below_fits : SFits w64 (pos 0 -ℤ x)
    below_fits = rw below kept

    pub below_back : to_z w64 (of_z w64 (pos 0 -ℤ x)) ≡ pos (nat_abs z)
    below_back = ap (λ y. to_z w64 (of_z w64 y)) below ∙ to_z-of_z kept
