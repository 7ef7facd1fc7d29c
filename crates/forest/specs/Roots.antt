-- The laws of the root in a forest that stays as it is.
--
--   falls_inside == it is enough that no parent is above its child inside the list
--   fresh_falls  == a fresh forest is a forest
--   fresh_root   == in a fresh forest each number is its own root
--   root_top     == a number that is its own parent is its own root
--   root_settled == a root is its own parent
--   root_own     == and its own root
--   root_down    == a root is not above its number
--   root_up      == a parent has the root of its child
--   root_only    == what is the same at parent and child, and the number itself where it is its own parent, is the root
use Rattle.std.specs.Prelude.{◌≡◌, List, length}
use Rattle.std.proofs.Math.Path.{refl, sym, ap}
use Rattle.std.proofs.Common.{◌∙◌}
use Rattle.std.proofs.Math.Logic.{by_cases}
use Prim.Native.Nat.{ℕ, zero, suc, ◌≤◌, ◌<◌}
use native.Mathlib.Omega.{arith}
use Rattle.std.proofs.Math.Decide.{ℕ_discrete, dec_lt, le_ind}
use Rattle.std.proofs.Math.ListN.{get_or-eq_default}
use Rattle.forest.specs.Forest.{parent, Falls, climb, root, Fresh}

module _ (t : List ℕ) where
  pub falls_inside : ((x : ℕ) → x < length t → parent t x ≤ x) → Falls t
  falls_inside down =
      record { down = λ x. by_cases (dec_lt x (length t)) (down x) (λ n. omega (arith, get_or-eq_default t 0 {n = x} (omega arith))) }

  climb_stays : (k x : ℕ) → parent t x ≡ x → climb t k x ≡ x
  unfolding climb
  climb_stays zero x e = refl
  climb_stays (suc k) x e = ap (climb t k) e ∙ climb_stays k x e

  climb_one_more : (k x : ℕ) → climb t (suc k) x ≡ parent t (climb t k x)
  unfolding climb
  climb_one_more zero x = refl
  climb_one_more (suc k) x = climb_one_more k (parent t x)

  climb_only : (R : ℕ → ℕ) → ((x : ℕ) → R (parent t x) ≡ R x) → (k x : ℕ) → R (climb t k x) ≡ R x
  unfolding climb
  climb_only R up zero x = refl
  climb_only R up (suc k) x = climb_only R up k (parent t x) ∙ up x

  pub root_top : (x : ℕ) → parent t x ≡ x → root t x ≡ x
  unfolding root
  root_top x e = climb_stays x x e

module _ {t : List ℕ} (F : Falls t) where
  climb_settles : (k x : ℕ) → x ≤ k → parent t (climb t k x) ≡ climb t k x
  unfolding climb
  climb_settles zero x h = omega (arith, F.down x)
  climb_settles (suc k) x h =
      by_cases (ℕ_discrete (parent t x) x)
      (λ e. rw (climb_stays t (suc k) x e) e)
      (λ n. climb_settles k (parent t x) (omega (arith, F.down x)))

  climb_enough : (x k : ℕ) → x ≤ k → climb t k x ≡ root t x
  unfolding root
  climb_enough x k h = le_ind (λ j. climb t j x ≡ climb t x x) refl (λ j l e. climb_one_more t j x ∙ climb_settles j x l ∙ e) k h

  pub root_settled : (x : ℕ) → parent t (root t x) ≡ root t x
  unfolding root
  root_settled x = climb_settles x x (omega arith)

  pub root_own : (x : ℕ) → root t (root t x) ≡ root t x
  root_own x = root_top t (root t x) (root_settled x)

  climb_down : (k x : ℕ) → climb t k x ≤ x
  unfolding climb
  climb_down zero x = omega arith
  climb_down (suc k) x = omega (arith, climb_down k (parent t x), F.down x)

  pub root_down : (x : ℕ) → root t x ≤ x
  unfolding root
  root_down x = climb_down x x

  pub root_up : (x : ℕ) → root t (parent t x) ≡ root t x
  unfolding climb
  root_up x = sym (climb_enough (parent t x) x (F.down x)) ∙ climb_enough x (suc x) (omega arith)

  pub root_only : (R : ℕ → ℕ) → ((x : ℕ) → R (parent t x) ≡ R x) → ((x : ℕ) → parent t x ≡ x → R x ≡ x) → (x : ℕ) → root t x ≡ R x
  unfolding root
  root_only R up top x = sym (top (root t x) (root_settled x)) ∙ climb_only t R up x x

module _ {n : ℕ} {t : List ℕ} (fresh : Fresh n t) where
  pub fresh_falls : Falls t
  fresh_falls = falls_inside t (λ x l. omega (arith, fresh.own x (omega arith)))

  pub fresh_root : (x : ℕ) → x < n → root t x ≡ x
  fresh_root x l = root_top t x (fresh.own x l)
