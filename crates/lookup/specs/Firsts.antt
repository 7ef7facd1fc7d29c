-- The first end of each level, noted at the level.
--   Unset first       == nothing is noted
--   Firsts ends first == the first one of these ends is noted at each level that has a place
--   used_in first n    == an end is noted at each level from 1 to n
use Rattle.std.specs.Prelude.{Bool, true, ◌&&◌, List, ◌≡◌, ℕ, zero, suc, ◌<◌, leb, length, get_or}
use Rattle.ends.specs.Ends.{first_at}

pub record Unset (first : List ℕ) : Type 0 where
  pub zeros : (L : ℕ) → get_or first L 0 ≡ 0

pub record Firsts (ends first : List ℕ) : Type 0 where
  pub each : (L : ℕ) → L < length first → get_or first L 0 ≡ first_at L ends

-- levels 1 to n are all in use
unfoldable pub used_in : List ℕ → ℕ → Bool
used_in first zero = true
used_in first (suc n) = leb 1 (get_or first (suc n) 0) && used_in first n
