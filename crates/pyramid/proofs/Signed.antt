-- The sum of signed numbers is no larger than its parts.
--   mag_sub, mag_add == how far a sum is from zero
--   fits_32          == numbers up to a million fit 32 bits
use mathlib.Core.Bool.{Bool, true, false, cond}
use Prim.Native.Nat.{ℕ, zero, suc, ◌+◌, ◌-◌, ◌≤◌, ◌<◌, ◌^◌}
use native.Mathlib.Omega.{arith}
use lib.Dec.{ltb, lit<}
use lib.IntN.{ℤ, pos, negsuc, ◌+ℤ◌, ◌-ℤ◌, sub_ℕ}
use lib.Signed.{mag}
use mir.Syntax.{w32}
use mir.Val.{SFits}

mag_diff : (a b : ℕ) → mag (sub_ℕ a b) ≤ a + b
mag_diff a b = go (ltb a b)
  where
    go : (less : Bool) → mag (cond less (negsuc (b - suc a)) (pos (a - b))) ≤ a + b
    go true = omega arith
    go false = omega arith

pub mag_sub : (a b : ℕ) → mag (pos a -ℤ pos b) ≤ a + b
mag_sub a zero = omega arith
mag_sub a (suc b) = mag_diff a (suc b)

pub mag_add : (z : ℤ) (c : ℕ) → mag (z +ℤ pos c) ≤ mag z + c + 1
mag_add (pos a) c = omega arith
mag_add (negsuc a) c = let h = mag_diff c (suc a) in omega arith

pub fits_32 : {z : ℤ} {n : ℕ} → mag z ≤ n → n ≤ 1000000 → SFits w32 z
fits_32 h k = record { sfits = let l : 1000000 < 2 ^ 31 = lit< tt in omega arith }
