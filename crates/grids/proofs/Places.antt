-- Lists over rising numbers: what stands at a place, and the first place whose list has a number.
--   over_rising, length_over == a table that is made by f, entry by entry
--   place_is                 == where one list alone has d, its place is the first that has it
use mathlib.Core.List.{List, map}
use mathlib.Core.Path.{◌≡◌, refl, sym, ap, ◌∙◌, subst}
use Prim.Native.Nat.{ℕ, zero, suc, ◌+◌, ◌≤◌, ◌<◌}
use native.Mathlib.Decide.{ℕ_discrete}
use native.Mathlib.Nat.{not-suc-le-zero}
use native.Mathlib.Omega.{arith}
use lib.Dec.{T}
use lib.ListN.{length, get_or, length-map}
use Rattle.permutations.specs.Choice.{T?, T→true, not_T→false}
use Rattle.darts.specs.Kernel.{rising}
use Rattle.grids.specs.Base.{has, place_of}

length_rising : (k n : ℕ) → length (rising k n) ≡ n
unfolding rising
length_rising k zero = refl
length_rising k (suc n) = ap suc (length_rising (suc k) n)

pub length_over : (f : ℕ → ℕ) (n : ℕ) → length (map f (rising 0 n)) ≡ n
length_over f n = length-map (rising 0 n) f ∙ length_rising 0 n

over_from : (f : ℕ → ℕ) (k n i : ℕ) → i < n → get_or (map f (rising k n)) i 0 ≡ f (k + i)
unfolding rising
over_from f k zero i h = absurd (not-suc-le-zero h)
over_from f k (suc n) zero h = let e : k ≡ k + 0 = omega arith in ap f e
over_from f k (suc n) (suc i) h = over_from f (suc k) n i (omega arith) ∙ (let e : suc k + i ≡ k + suc i = omega arith in ap f e)

-- the entry at i of a table that is made by f
pub over_rising : (f : ℕ → ℕ) (n i : ℕ) → i < n → get_or (map f (rising 0 n)) i 0 ≡ f i
over_rising f n i h = over_from f 0 n i h ∙ (let e : 0 + i ≡ i = omega arith in ap f e)

-- ---- the first list that has d

place_from : (R : ℕ → List ℕ) (d c k n : ℕ) → k ≤ c → c < k + n → T (has d (R c)) → ((b : ℕ) → k ≤ b → b < k + n → T (has d (R b)) → b ≡ c)
    → k + place_of d (map R (rising k n)) ≡ c
unfolding rising place_of
place_from R d c k zero l h t only = absurd (omega arith)
place_from R d c k (suc n) l h t only =
    go (T? (has d (R k))) (λ m. place_from R d c (suc k) n m (omega arith) t (λ b i j s. only b (omega arith) (omega arith) s))
  where
    go : Dec (T (has d (R k))) → (suc k ≤ c → suc k + place_of d (map R (rising (suc k) n)) ≡ c) → k + place_of d (map R (rising k (suc n))) ≡ c
    go (yes s) rest = let e = only k (omega arith) (omega arith) s in rw (T→true (has d (R k)) s) (omega arith)
    go (no z) rest = step (ℕ_discrete k c)
      where
        step : Dec (k ≡ c) → k + place_of d (map R (rising k (suc n))) ≡ c
        step (yes e) = absurd (z (subst (λ b. T (has d (R b))) (sym e) t))
        step (no m) = let e = rest (omega arith) in rw (not_T→false (has d (R k)) z) (omega arith)

pub place_is : (R : ℕ → List ℕ) (n d c : ℕ) → c < n → T (has d (R c)) → ((b : ℕ) → b < n → T (has d (R b)) → b ≡ c)
    → place_of d (map R (rising 0 n)) ≡ c
place_is R n d c h t only =
    let e = place_from R d c 0 n (omega arith) (omega arith) t (λ b i j s. only b (omega arith) s) in
    omega arith
