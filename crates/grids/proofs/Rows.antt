-- Numbers laid in rows of n, m rows in all: the one at place x of row y is y * n + x.
--   row_below            == it is below n * m
--   row_number, row_place == row and place are read off it
--   InRow n m c, in_row  == every number below n * m stands at a place of a row
use mathlib.Core.Path.{◌≡◌, ◌∙◌}
use Prim.Native.Nat.{ℕ, zero, suc, ◌+◌, ◌*◌, ◌/◌, ◌%◌, ◌≤◌, ◌<◌}
use native.Mathlib.Nat.{mul-le-mul_right, mul_comm, mul-add-div_right, mul-add-mod_self_right, mod-eq_of_lt, mod-lt, div-eq_of_lt, div-add-mod', div-lt_iff_lt-mul, zero-mul}
use native.Mathlib.Omega.{arith}

pub row_below : (n m x y : ℕ) → x < n → y < m → y * n + x < n * m
row_below n m x y h k =
    let l : suc y * n ≤ m * n = mul-le-mul_right n k in
    omega arith

pub row_number : (n x y : ℕ) → x < n → (y * n + x) / n ≡ y
row_number n x y h =
    let some : 0 < n = omega arith in
    let e = mul-add-div_right some y x in
    let z = div-eq_of_lt h in
    omega arith

pub row_place : (n x y : ℕ) → x < n → (y * n + x) % n ≡ x
row_place n x y h = mul-add-mod_self_right y n x ∙ mod-eq_of_lt h

pub record InRow (n m c : ℕ) : Type 0 where
  pub place : c % n < n
  pub row : c / n < m
  pub laid : c / n * n + c % n ≡ c

pub in_row : (n m c : ℕ) → c < n * m → InRow n m c
in_row zero m c h = let z = zero-mul m in absurd (omega arith)
in_row (suc n) m c h = record {
  place = mod-lt c (omega arith);
  row = let l : c < m * suc n = omega (arith, mul_comm m (suc n)) in (div-lt_iff_lt-mul {k = suc n} (omega arith)).1 l;
  laid = div-add-mod' c (suc n);
}
