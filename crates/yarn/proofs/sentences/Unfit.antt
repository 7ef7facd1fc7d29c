-- "place the first such record": the search for a record that is not fit.
--   Unfit D b S x        == x is the place of a base vertex's record, and that record is not fit
--   FirstUnfit D b S x   == and no lower place has such a record
--   Search D b S x n u   == u is the first such one of the n places from x on, or the one after them where there is none
--   searched             == so unfit_from finds it
--   some_or_none         == and first_unfit: the first such record, or D where there is none
--   unfit_alike          == "(the others are not looked at)"
use mathlib.Core.Bool.{◌&&◌, not}
use mathlib.Core.List.{List, []}
use mathlib.Core.Logic.{◌⊎◌, inl, inr}
use mathlib.Core.Path.{◌≡◌, refl}
use Prim.Native.Nat.{ℕ, zero, suc, ◌+◌, ◌<◌, ◌≤◌}
use native.Mathlib.Decide.{ℕ_discrete}
use native.Mathlib.Omega.{arith}
use lib.Dec.{T, T_not, not_T}
use Rattle.permutations.specs.Choice.{T?, T→true, not_T→false, and_intro, and_left, and_right}
use Rattle.sheets.specs.Records.{fit_of, at}
use Rattle.sheets.specs.Sheets.{Sheets}
use Rattle.yarn.specs.Places.{is_place}
use Rattle.yarn.specs.Given.{Looked, Fit}
use Rattle.yarn.specs.Calls.{unfit_from, first_unfit}

-- "metres not from 0 to 100,000 (a NaN is not) or stitches too many"
pub record Unfit (D : ℕ) (b : List ℕ) (S : Sheets) (x : ℕ) : Type 0 where
  pub place : T (is_place D b x)
  pub unfit : ¬ (T (fit_of (at S.sheet x)))

pub record FirstUnfit (D : ℕ) (b : List ℕ) (S : Sheets) (x : ℕ) : Type 0 where
  pub dart : x < D
  pub such : Unfit D b S x
  pub lower : (y : ℕ) → y < x → T (is_place D b y) → T (fit_of (at S.sheet y))

module _ (D : ℕ) (b : List ℕ) (S : Sheets) where
  data Search (x n u : ℕ) : Type 0 where
    found : x ≤ u → u < x + n → Unfit D b S u → ((y : ℕ) → x ≤ y → y < u → ¬ (Unfit D b S y)) → Search x n u
    none : u ≡ x + n → ((y : ℕ) → x ≤ y → y < u → ¬ (Unfit D b S y)) → Search x n u

  later : (x u : ℕ) → ¬ (Unfit D b S x) → ((y : ℕ) → suc x ≤ y → y < u → ¬ (Unfit D b S y)) → (y : ℕ) → x ≤ y → y < u → ¬ (Unfit D b S y)
  later x u fine rest y l m = go (ℕ_discrete y x)
    where
      go : Dec (y ≡ x) → ¬ (Unfit D b S y)
      go (yes e) = rw e fine
      go (no n) = rest y (omega arith) m

  next : (x n u : ℕ) → ¬ (Unfit D b S x) → Search (suc x) n u → Search x (suc n) u
  next x n u fine (found l m k rest) = found (omega arith) (omega arith) k (later x u fine rest)
  next x n u fine (none e rest) = none (omega arith) (later x u fine rest)

  unfit_at : (x : ℕ) → T (is_place D b x && not (fit_of (at S.sheet x))) → Unfit D b S x
  unfit_at x k = record {
    place = and_left (is_place D b x) (not (fit_of (at S.sheet x))) k;
    unfit = T_not (fit_of (at S.sheet x)) (and_right (is_place D b x) (not (fit_of (at S.sheet x))) k);
  }

  at_unfit : (x : ℕ) → Unfit D b S x → T (is_place D b x && not (fit_of (at S.sheet x)))
  at_unfit x u = and_intro (is_place D b x) (not (fit_of (at S.sheet x))) u.place (not_T (fit_of (at S.sheet x)) u.unfit)

  turn : (x n : ℕ) → Dec (T (is_place D b x && not (fit_of (at S.sheet x)))) → Search (suc x) n (unfit_from D b S n (suc x))
      → Search x (suc n) (unfit_from D b S (suc n) x)
  unfolding unfit_from
  turn x n (yes k) rest =
      rw (T→true (is_place D b x && not (fit_of (at S.sheet x))) k)
      (found (omega arith) (omega arith) (unfit_at x k) (λ y l m. absurd (omega arith)))
  turn x n (no k) rest =
      rw (not_T→false (is_place D b x && not (fit_of (at S.sheet x))) k) (next x n _ (λ u. k (at_unfit x u)) rest)

  searched : (n x : ℕ) → Search x n (unfit_from D b S n x)
  unfolding unfit_from
  searched zero x = none (omega arith) (λ y l m. absurd (omega arith))
  searched (suc n) x = turn x n (T? (is_place D b x && not (fit_of (at S.sheet x)))) (searched n (suc x))

  -- a place below whose record is not unfit has a fit one
  fit_below : (u : ℕ) → ((y : ℕ) → 0 ≤ y → y < u → ¬ (Unfit D b S y)) → (y : ℕ) → y < u → T (is_place D b y) → T (fit_of (at S.sheet y))
  fit_below u rest y l p = go (T? (fit_of (at S.sheet y)))
    where
      go : Dec (T (fit_of (at S.sheet y))) → T (fit_of (at S.sheet y))
      go (yes k) = k
      go (no n) = absurd (rest y (omega arith) l (record { place = p; unfit = n }))

  -- THE FIRST SUCH RECORD, OR THERE IS NONE
  pub some_or_none : FirstUnfit D b S (first_unfit D b S) ⊎ ((first_unfit D b S ≡ D) × Fit D b S)
  unfolding first_unfit
  some_or_none = go (searched D 0)
    where
      go : Search 0 D (unfit_from D b S D 0) → FirstUnfit D b S (unfit_from D b S D 0) ⊎ ((unfit_from D b S D 0 ≡ D) × Fit D b S)
      go (found a m k rest) = inl (record { dart = omega arith; such = k; lower = fit_below _ rest })
      go (none e rest) = inr (omega arith, record { each = λ x l p. fit_below _ rest x (omega arith) p })

-- only records of the base's places are looked at
alike_from : (D : ℕ) (b : List ℕ) (S Z : Sheets) → Looked D b [] S Z → (n x : ℕ) → x + n ≤ D → unfit_from D b S n x ≡ unfit_from D b Z n x
unfolding unfit_from
alike_from D b S Z L zero x l = refl
alike_from D b S Z L (suc n) x l = go (T? (is_place D b x)) (alike_from D b S Z L n (suc x) (omega arith))
  where
    go : Dec (T (is_place D b x)) → unfit_from D b S n (suc x) ≡ unfit_from D b Z n (suc x) → unfit_from D b S (suc n) x ≡ unfit_from D b Z (suc n) x
    go (yes p) rest = rw (L.sheet x (omega arith) p, rest)
    go (no k) rest = rw (not_T→false (is_place D b x) k, rest)

pub unfit_alike : (D : ℕ) (b : List ℕ) (S Z : Sheets) → Looked D b [] S Z → first_unfit D b S ≡ first_unfit D b Z
unfolding first_unfit
unfit_alike D b S Z L = alike_from D b S Z L D 0 (omega arith)
