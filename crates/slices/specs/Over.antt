-- Numbers over the first ones of a lent slice.
--   over new old == old, with the numbers new in the place of its first ones
use Rattle.std.specs.Prelude.{List, ◌++◌, ℕ, length, drop}

unfoldable pub over : List ℕ → List ℕ → List ℕ
over new old = new ++ drop (length new) old
