-- Numbers laid into a lent slice.
--   laid w at xs  == w with the numbers xs from the place at on
--   Space w at xs == w has room for xs there
use Rattle.std.specs.Prelude.{List, ◌++◌, ℕ, ◌+◌, ◌≤◌, length, take, drop}

unfoldable pub laid : List ℕ → ℕ → List ℕ → List ℕ
laid w at xs = take at w ++ (xs ++ drop (at + length xs) w)

pub record Space (w : List ℕ) (at : ℕ) (xs : List ℕ) : Type 0 where
  pub fits : at + length xs ≤ length w
