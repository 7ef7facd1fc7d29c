-- Entries of a table that rise by two from edge to edge.
--   risen e n r l t == t with the entries of n edges from e on: the even ones rise by two from r, the odd ones from l
--   Rises T e n r l == so do the entries of T there
--   Ran T e n t u   == u is t with the entries of n edges from e on, and they are those of T
use Rattle.std.specs.Prelude.{List, ◌≡◌, ℕ, zero, suc, ◌+◌, ◌*◌, ◌<◌, get_or, set}

unfoldable pub risen : ℕ → ℕ → ℕ → ℕ → List ℕ → List ℕ
risen e zero r l t = t
risen e (suc n) r l t = risen (e + 1) n (r + 2) (l + 2) (set (set t (2 * e) r) (2 * e + 1) l)

pub record Rises (T : List ℕ) (e n r l : ℕ) : Type 0 where
  pub even : (i : ℕ) → i < n → r + 2 * i ≡ get_or T (2 * (e + i)) 0
  pub odd : (i : ℕ) → i < n → l + 2 * i ≡ get_or T (2 * (e + i) + 1) 0

pub record Ran (T : List ℕ) (e n : ℕ) (t u : List ℕ) : Type 0 where
  pub even : ℕ
  pub odd : ℕ
  pub rises : Rises T e n even odd
  pub same : u ≡ risen e n even odd t
