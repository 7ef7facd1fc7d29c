-- The trees of the forest's part.
--   roots_in D w n == how many of the first n darts survive and are their own parents in the forest's part
use Rattle.std.specs.Prelude.{◌&&◌, List, ℕ, zero, suc, ◌+◌, ◌*◌, eqb, get_or}
use Rattle.std.specs.Prelude.{if◌then◌else◌}
use Rattle.area.specs.Area.{there}

unfoldable pub roots_in : ℕ → List ℕ → ℕ → ℕ
roots_in D w zero = 0
roots_in D w (suc n) = if there D w n && eqb (get_or w (2 * D + n) 0) n then suc (roots_in D w n) else roots_in D w n
