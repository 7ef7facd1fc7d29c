-- Tests 6 to 15 of p, q, x and y, as `fitting` has them: what they say of the darts before x and y.
--
--   fitting_far  == where the tests pass y survives
--   fitting_near == and so does x, unless it is q
use mathlib.Core.Bool.{true, not, ◌&&◌}
use mathlib.Core.List.{List}
use mathlib.Core.Logic.{◌≢◌, by_cases}
use mathlib.Core.Path.{◌≡◌}
use Prim.Native.Nat.{ℕ, ◌+◌, ◌%◌, ◌<◌}
use native.Mathlib.Decide.{ℕ_discrete}
use lib.Dec.{T, eqb, ltb→lt}
use lib.ListN.{get_or}
use Rattle.permutations.specs.Choice.{true→T, and_left, and_right, eqb_same, eqb_other}
use Rattle.area.specs.Area.{prev, there}
use Rattle.operations.specs.Back.{fitting}

module _ (D : ℕ) (w : List ℕ) (p q x y : ℕ) (fit : fitting D w p q x y ≡ true) where
  -- the tests for an x that is not q
  tests : x ≢ q → T (eqb (p % 2) 0 && (there D w x && (there D w y && not (eqb x y))))
  tests n = true→T (rw (eqb_other n) at fit)

  survive : x ≢ q → T (there D w x && (there D w y && not (eqb x y)))
  survive n = and_right (eqb (p % 2) 0) (there D w x && (there D w y && not (eqb x y))) (tests n)

  pub fitting_near : x ≢ q → get_or w (D + x) 0 < D
  unfolding there prev
  fitting_near n = ltb→lt (get_or w (D + x) 0) D (and_left (there D w x) (there D w y && not (eqb x y)) (survive n))

  pub fitting_far : get_or w (D + y) 0 < D
  unfolding there prev
  fitting_far =
      by_cases (ℕ_discrete x q)
      (λ e. ltb→lt (get_or w (D + y) 0) D (true→T (rw (eqb_same e) at fit)))
      (λ n. ltb→lt (get_or w (D + y) 0) D
      (and_left (there D w y) (not (eqb x y)) (and_right (there D w x) (there D w y && not (eqb x y)) (survive n))))
