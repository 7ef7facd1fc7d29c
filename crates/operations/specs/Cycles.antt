-- The cycles of the survivors in the work area: faces where k is 0, vertices where k is 1.
--   step_in D k w x      == the dart after x on its cycle; a gone dart, and what is no dart, stays where it is
--   MarkedIn D k i w w' == in the forest's part i is written at each dart of i's cycle
--   Labelled D k w w'   == in the forest's part stands at each dart the lowest dart of its cycle
use Rattle.std.specs.Prelude.{◌&&◌, List, ℕ, ltb}
use Rattle.permutations.specs.Cycle.{Meets}
use Rattle.std.specs.Prelude.{if◌then◌else◌}
use Rattle.forest.specs.Lowest.{Lowest, Marked}
use Rattle.area.specs.Area.{there, forest_in, around}
use Rattle.operations.specs.Trees.{Outside}

unfoldable pub step_in : ℕ → ℕ → List ℕ → ℕ → ℕ
step_in D k w x = if ltb x D && there D w x then around k w x else x

pub record MarkedIn (D k i : ℕ) (w w' : List ℕ) : Type 0 where
  pub outside : Outside D w w'
  pub marked : Marked (Meets (step_in D k w)) D i (forest_in D w) (forest_in D w')

pub record Labelled (D k : ℕ) (w w' : List ℕ) : Type 0 where
  pub outside : Outside D w w'
  pub lowest : Lowest (Meets (step_in D k w)) D D (forest_in D w')
