-- The kinds of history numbers, as `hasKind` and the definitions have them.
--   has_here, has_on == whether an operation is of kind k, one by one
--   kind_same        == two kinds are the same where the last bits are
use mathlib.Core.Bool.{true}
use mathlib.Core.List.{List, ◌∷◌}
use mathlib.Core.Logic.{◌≢◌}
use mathlib.Core.Path.{◌≡◌, refl}
use Prim.Native.Nat.{ℕ, ◌%◌, ◌<◌}
use native.Mathlib.Decide.{ℕ_discrete}
use native.Mathlib.Omega.{arith}
use lib.Dec.{eqb}
use borrow.Author.Tests.{eq-eqb, ne_eqb}
use Rattle.darts.specs.Operation.{kind_of}
use Rattle.darts.specs.Tests.{same_kind}
use Rattle.area.specs.Shape.{has_kind}

module _ (k h : ℕ) (hs : List ℕ) where
  pub has_here : h % 2 ≡ k → has_kind k (h ∷ hs) ≡ true
  unfolding has_kind
  has_here e = rw (eq-eqb (h % 2) k e)

  pub has_on : h % 2 ≢ k → has_kind k (h ∷ hs) ≡ has_kind k hs
  unfolding has_kind
  has_on n = rw (ne_eqb (h % 2) k n)

pub kind_same : (k : ℕ) → k < 2 → (h : ℕ) → same_kind (kind_of k) (kind_of h) ≡ eqb (h % 2) k
unfolding same_kind kind_of
kind_same k kind h = go (ℕ_discrete k 0) (ℕ_discrete (h % 2) 0)
  where
    go : Dec (k ≡ 0) → Dec (h % 2 ≡ 0) → same_kind (kind_of k) (kind_of h) ≡ eqb (h % 2) k
    go (yes e) (yes i) = rw (eq-eqb (k % 2) 0 (omega arith), eq-eqb (h % 2) 0 i, eq-eqb (h % 2) k (omega arith)) refl
    go (yes e) (no n) = rw (eq-eqb (k % 2) 0 (omega arith), ne_eqb (h % 2) 0 n, ne_eqb (h % 2) k (λ i. omega arith)) refl
    go (no m) (yes i) = rw (ne_eqb (k % 2) 0 (λ e. omega arith), eq-eqb (h % 2) 0 i, ne_eqb (h % 2) k (λ e. omega arith)) refl
    go (no m) (no n) = rw (ne_eqb (k % 2) 0 (λ e. omega arith), ne_eqb (h % 2) 0 n, eq-eqb (h % 2) k (omega arith)) refl
