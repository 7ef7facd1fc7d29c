-- Labels by walking: the lowest dart of each cycle.
--   lowest_met f n x == the lowest number that n steps of f meet from x
use mathlib.Core.Bool.{Bool}
use mathlib.Core.Path.{◌≡◌}
use Prim.Native.Nat.{ℕ, zero, suc, ◌≤◌, min}
use native.Mathlib.Decide.{dec_le}
use native.Mathlib.Nat.{not-suc-le-zero, le_of_suc-le-suc}
use native.Mathlib.Omega.{arith}
use Rattle.permutations.specs.Perm.{Perm}
use Rattle.permutations.specs.Cycle.{walk, Meets, meets_refl, meets_next, meets_trans, meets_sym, soon}
use Rattle.permutations.specs.Labels.{Labels}

unfoldable pub lowest_met : (ℕ → ℕ) → ℕ → ℕ → ℕ
lowest_met f zero x = x
lowest_met f (suc n) x = min x (lowest_met f n (f x))

pub lowest_met_lem : (f : ℕ → ℕ) (n x : ℕ) → Meets f x (lowest_met f n x)
unfolding lowest_met
lowest_met_lem f zero x = meets_refl f x
lowest_met_lem f (suc n) x = go (dec_le x (lowest_met f n (f x))) (meets_trans f (meets_next f x) (lowest_met_lem f n (f x)))
  where
    go : Dec (x ≤ lowest_met f n (f x)) → Meets f x (lowest_met f n (f x)) → Meets f x (min x (lowest_met f n (f x)))
    go (yes l) m = let e : min x (lowest_met f n (f x)) ≡ x = omega arith in rw e (meets_refl f x)
    go (no l) m = let e : min x (lowest_met f n (f x)) ≡ lowest_met f n (f x) = omega arith in rw e m

lowest_least : (f : ℕ → ℕ) (n x k : ℕ) → k ≤ n → lowest_met f n x ≤ walk f k x
unfolding lowest_met walk
lowest_least f zero x zero h = omega arith
lowest_least f zero x (suc k) h = absurd (not-suc-le-zero h)
lowest_least f (suc n) x zero h = omega arith
lowest_least f (suc n) x (suc k) h = let l = lowest_least f n (f x) k (le_of_suc-le-suc h) in omega arith

module _ {D : ℕ} {f : ℕ → ℕ} (π : Perm D f) where
  -- D steps meet the lowest of all
  pub lowest_all : {x y : ℕ} → Meets f x y → lowest_met f D x ≤ y
  lowest_all {x} m = let (k, h, e) = soon π m in rw (← e) (lowest_least f D x k h)

  lowest_below : {x y : ℕ} → Meets f x y → lowest_met f D x ≤ lowest_met f D y
  lowest_below {x} {y} m = lowest_all (meets_trans f m (lowest_met_lem f D y))

  -- THE LOWEST DARTS ARE LABELS
  pub lowest_labels : (live : ℕ → Bool) → Labels live f (lowest_met f D)
  lowest_labels live = record {
    says = λ x y s t. (
      λ e. meets_trans f (lowest_met_lem f D x) (rw e (meets_sym π (lowest_met_lem f D y))),
      λ m. let a = lowest_below m in let b = lowest_below (meets_sym π m) in omega arith,
    );
  }
