-- Document 003's walk (document 02, request Four).
--   Found                 == a dart, and how many gone darts were passed on the way to it
--   onward t ends d       == where the walk goes on from the gone dart d
--   walk_from n k t ends y i == the walk from y on, at most n steps, once i gone darts were passed
--   walk D k t ends x     == the walk from x to its successor at level k
--   Walks D k t ends x    == that walk stays on darts, ends at one that is not gone, and passes at most two darts for each operation
use Rattle.std.specs.Prelude.{not, List, ℕ, zero, suc, ◌*◌, ◌≤◌, ◌<◌, T}
use Rattle.permutations.specs.Partner.{partner}
use Rattle.std.specs.Prelude.{if◌then◌else◌}
use Rattle.darts.specs.Map.{successor}
use Rattle.darts.specs.Operation.{Kind, contraction, removal, kind_of}
use Rattle.ends.specs.Ends.{end_of, gone_by, done_by}

pub record Found : Type 0 where
  pub dart : ℕ
  pub passed : ℕ

-- "a refusal gives dart 0 and count 0"
abbrev pub nothing : Found
nothing = record { dart = 0; passed = 0 }

-- "go on to its base successor if it was removed, or to its partner's base successor if contracted"
unfoldable pub onward_by : Kind → List ℕ → ℕ → ℕ
onward_by removal t d = successor t d
onward_by contraction t d = successor t (partner d)

unfoldable pub onward : List ℕ → List ℕ → ℕ → ℕ
onward t ends d = onward_by (kind_of (end_of ends d)) t d

-- "while the dart there is gone by level k, go on": each gone dart passed is counted
unfoldable pub walk_from : ℕ → ℕ → List ℕ → List ℕ → ℕ → ℕ → Found
walk_from zero k t ends y i = record { dart = y; passed = i }
walk_from (suc n) k t ends y i =
    if gone_by k ends y then walk_from n k t ends (onward t ends y) (suc i) else record { dart = y; passed = i }

-- "start at the base successor": D steps are enough, for no dart is passed twice
unfoldable pub walk : ℕ → ℕ → List ℕ → List ℕ → ℕ → Found
walk D k t ends x = walk_from D k t ends (successor t x) 0

-- what a table and ends that come from a pyramid have, and code needs to know: the walk need not count its steps to end
pub record Walks (D k : ℕ) (t ends : List ℕ) (x : ℕ) : Type 0 where
  pub inside : (y : ℕ) → y < D → successor t y < D
  pub arrives : T (not (gone_by k ends (walk D k t ends x).dart))
  -- "never above twice the operations done by level k"
  pub few : (walk D k t ends x).passed ≤ 2 * done_by k ends
