-- Where no dart is gone, the test of the survivors is the permutation test: "use the new test inside".
--   nothing_gone == the same verdict, both culprits too
use mathlib.Core.Bool.{Bool, true, false, ◌||◌}
use mathlib.Core.List.{List, []}
use mathlib.Core.Path.{◌≡◌, refl, ap}
use Prim.Native.Nat.{ℕ, zero, suc, ◌<◌}
use native.Mathlib.Decide.{dec_lt}
use native.Mathlib.Omega.{arith}
use lib.Dec.{eqb, leb, ltb, ltb→lt, lt→ltb, leb→le, le→leb}
use Rattle.permutations.specs.Choice.{T→true, not_T→false}
use Rattle.darts.specs.Map.{successor, gone, survives, repeats, culprit, test_from, permutation_test}
use Rattle.darts.specs.Tests.{led, links, blamed, links_from, survivors_test}

led_repeats : (t : List ℕ) (d x : ℕ) → led t [] d x ≡ repeats t d x
unfolding led repeats survives gone
led_repeats t zero x = refl
led_repeats t (suc d) x = ap (λ b. eqb (successor t d) x || b) (led_repeats t d x)

module _ (D : ℕ) (t : List ℕ) where
  from_one_lem : (n x : ℕ) → links_from D t [] n x ≡ test_from D t n x
  unfolding links_from test_from links blamed culprit survives gone
  from_one_lem zero x = refl
  from_one_lem (suc n) x = go (dec_lt y D) (repeats t x y) refl (from_one_lem n (suc x))
    where
      y : ℕ
      y = successor t x

      go : Dec (y < D) → (b : Bool) → repeats t x y ≡ b → links_from D t [] n (suc x) ≡ test_from D t n (suc x)
          → links_from D t [] (suc n) x ≡ test_from D t (suc n) x
      go (yes l) true e rest =
          rw (T→true (ltb y D) (lt→ltb y D l), not_T→false (leb D y) (λ k. omega (arith, leb→le D y k)), led_repeats t x y, e)
      go (yes l) false e rest =
          rw (T→true (ltb y D) (lt→ltb y D l), not_T→false (leb D y) (λ k. omega (arith, leb→le D y k)), led_repeats t x y, e) rest
      go (no l) b e rest = rw (not_T→false (ltb y D) (λ k. l (ltb→lt y D k)), T→true (leb D y) (le→leb D y (omega arith)))

  -- THE PERMUTATION TEST IS THE SURVIVORS' WHERE NOTHING IS GONE
  pub nothing_gone : survivors_test D t [] ≡ permutation_test D t
  unfolding survivors_test permutation_test
  nothing_gone = from_one_lem D 0
