-- The lowest dart of a cycle.
--   Least f x    == no number of x's cycle is below x
--   lowest_least == the test along D steps says whether x is the least
--   lowest_same  == the test is the same along another function with the same steps
use mathlib.Core.Logic.{◌↔◌}
use mathlib.Core.Path.{◌≡◌, refl, subst}
use Prim.Native.Nat.{ℕ, zero, suc, ◌≤◌}
use native.Mathlib.Nat.{not-suc-le-zero, le_of_suc-le-suc}
use native.Mathlib.Omega.{arith}
use lib.Dec.{T, leb, leb→le, le→leb}
use Rattle.permutations.specs.Choice.{and_intro, and_left, and_right}
use Rattle.permutations.specs.Perm.{Perm}
use Rattle.permutations.specs.Cycle.{walk, Meets, meets_refl, meets_next, meets_trans, soon}
use Rattle.darts.specs.Counts.{never_below, lowest}

abbrev pub Least : (ℕ → ℕ) → ℕ → Type 0
Least f x = (y : ℕ) → Meets f x y → x ≤ y

-- what is never below is not below anywhere on the way
never_below_walk : (f : ℕ → ℕ) (n k x y : ℕ) → T (never_below f n x y) → x ≤ y → k ≤ n → x ≤ walk f k y
unfolding never_below walk
never_below_walk f n zero x y t l h = l
never_below_walk f zero (suc k) x y t l h = absurd (not-suc-le-zero h)
never_below_walk f (suc n) (suc k) x y t l h =
    never_below_walk f n k x (f y) (and_right (leb x (f y)) (never_below f n x (f y)) t)
    (leb→le x (f y) (and_left (leb x (f y)) (never_below f n x (f y)) t)) (le_of_suc-le-suc h)

least_never_below : (f : ℕ → ℕ) (n x y : ℕ) → Least f x → Meets f x y → T (never_below f n x y)
unfolding never_below
least_never_below f zero x y least m = tt
least_never_below f (suc n) x y least m =
    let on : Meets f x (f y) = meets_trans f m (meets_next f y) in
    and_intro (leb x (f y)) (never_below f n x (f y)) (le→leb x (f y) (least (f y) on)) (least_never_below f n x (f y) least on)

-- D STEPS TELL
pub lowest_least : {D : ℕ} {f : ℕ → ℕ} → Perm D f → (x : ℕ) → T (lowest f D x) ↔ Least f x
unfolding lowest
lowest_least {D} {f} π x = (
  λ t y m. let (k, h, e) = soon π m in subst (λ z. x ≤ z) e (never_below_walk f D k x x t (omega arith) h),
  λ least. least_never_below f D x x least (meets_refl f x),
)

module _ (P : ℕ → Type 0) (f g : ℕ → ℕ) (same : (y : ℕ) → P y → f y ≡ g y) (on : (y : ℕ) → P y → P (g y)) where
  never_below_same : (n x y : ℕ) → P y → never_below f n x y ≡ never_below g n x y
  unfolding never_below
  never_below_same zero x y h = refl
  never_below_same (suc n) x y h = rw (same y h, never_below_same n x (g y) (on y h))

  pub lowest_same : (D x : ℕ) → P x → lowest f D x ≡ lowest g D x
  unfolding lowest
  lowest_same D x h = never_below_same D x x h
