-- Numbers put into a lent slice one list after another.
--   Put w w' at r xs == w' is w with xs laid at a place, and r is the place after them
use Rattle.std.specs.Prelude.{◌≡◌, List, ℕ, ◌+◌, length}
use Rattle.slices.specs.Laid.{laid}

pub record Put (w w' : List ℕ) (at r : ℕ) (xs : List ℕ) : Type 0 where
  pub slice : w' ≡ laid w at xs
  pub next : r ≡ at + length xs
