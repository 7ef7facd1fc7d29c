-- The size of a plan, and where a cell stands.
--   Sized W C    == W wales and C courses are inside the limits
--   At W C x y   == a cell stands in wale x of course y
--   Lent W C a n == a is how many edges there are along the courses, and n numbers are enough for all darts
use Rattle.std.specs.Prelude.{◌≡◌, ℕ, ◌+◌, ◌-◌, ◌*◌, ◌≤◌, ◌<◌}

pub record Sized (W C : ℕ) : Type 0 where
  pub wales : 1 ≤ W
  pub narrow : W ≤ 128
  pub courses : 1 ≤ C
  pub low : C ≤ 128

pub record At (W C x y : ℕ) : Type 0 where
  pub wale : x < W
  pub narrow : W ≤ 128
  pub course : y < C
  pub low : C ≤ 128

pub record Lent (W C a n : ℕ) : Type 0 where
  pub sized : Sized W C
  pub along : a ≡ (W - 1) * C
  pub few : a ≤ 16256
  pub upright : W * (C - 1) ≤ 16256
  pub room : 2 * (a + W * (C - 1)) ≤ n
