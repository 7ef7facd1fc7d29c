-- The darts that are gone by a level, listed.
--   gone_darts k e ends == those of the edges from e on, whose ends these are
--   gone_count         == two for each operation
--   gone_listed        == each dart that is gone is among them
use mathlib.Core.Bool.{Bool, true, false}
use mathlib.Core.List.{List, [], ◌∷◌}
use mathlib.Core.Logic.{inl, inr}
use mathlib.Core.Path.{◌≡◌, refl}
use Prim.Native.Nat.{ℕ, zero, suc, ◌+◌, ◌*◌, ◌/◌}
use native.Mathlib.Decide.{ℕ_discrete}
use native.Mathlib.Omega.{arith}
use lib.Dec.{T}
use lib.ListN.{length, get_or}
use Rattle.permutations.specs.Choice.{pick}
use Rattle.permutations.specs.Live.{has}
use Rattle.std.proofs.Common.{if◌then◌else◌}
use Rattle.ends.specs.Ends.{level_of, end_of, ends_by, gone_by, done_by}
use Rattle.ends.proofs.Members.{has_cons}

unfoldable pub gone_darts : ℕ → ℕ → List ℕ → List ℕ
gone_darts k e [] = []
gone_darts k e (v ∷ ends) = pick (ends_by k v) (2 * e ∷ (2 * e + 1) ∷ gone_darts k (suc e) ends) (gone_darts k (suc e) ends)

pub gone_count : (k e : ℕ) (ends : List ℕ) → length (gone_darts k e ends) ≡ 2 * done_by k ends
unfolding gone_darts done_by
gone_count k e [] = refl
gone_count k e (v ∷ ends) = go (ends_by k v) (gone_count k (suc e) ends)
  where
    go : (b : Bool) → length (gone_darts k (suc e) ends) ≡ 2 * done_by k ends
        → length (pick b (2 * e ∷ (2 * e + 1) ∷ gone_darts k (suc e) ends) (gone_darts k (suc e) ends)) ≡ 2 * (if b then suc (done_by k ends) else done_by k ends)
    go true r = omega arith
    go false r = r

-- the edge of y stands at place i of these ends
listed_from : (k e : ℕ) (ends : List ℕ) (i y : ℕ) → y / 2 ≡ e + i → T (ends_by k (get_or ends i 0)) → T (has (gone_darts k e ends) y)
unfolding gone_darts ends_by level_of
listed_from k e [] i y h g = absurd g
listed_from k e (v ∷ ends) zero y h g = go (ends_by k v) g (ℕ_discrete y (2 * e))
  where
    go : (b : Bool) → T b → Dec (y ≡ 2 * e) → T (has (pick b (2 * e ∷ (2 * e + 1) ∷ gone_darts k (suc e) ends) (gone_darts k (suc e) ends)) y)
    go true t (yes a) = (has_cons (2 * e) ((2 * e + 1) ∷ gone_darts k (suc e) ends) y).1 (inl a)
    go true t (no n) =
        (has_cons (2 * e) ((2 * e + 1) ∷ gone_darts k (suc e) ends) y).1 (inr ((has_cons (2 * e + 1) (gone_darts k (suc e) ends) y).1 (inl (omega arith))))
    go false t d = absurd t
listed_from k e (v ∷ ends) (suc i) y h g = go (ends_by k v) (listed_from k (suc e) ends i y (omega arith) g)
  where
    go : (b : Bool) → T (has (gone_darts k (suc e) ends) y) → T (has (pick b (2 * e ∷ (2 * e + 1) ∷ gone_darts k (suc e) ends) (gone_darts k (suc e) ends)) y)
    go true t =
        (has_cons (2 * e) ((2 * e + 1) ∷ gone_darts k (suc e) ends) y).1 (inr ((has_cons (2 * e + 1) (gone_darts k (suc e) ends) y).1 (inr t)))
    go false t = t

pub gone_listed : (k : ℕ) (ends : List ℕ) (y : ℕ) → T (gone_by k ends y) → T (has (gone_darts k 0 ends) y)
unfolding gone_by end_of
gone_listed k ends y g = listed_from k 0 ends (y / 2) y (omega arith) g
