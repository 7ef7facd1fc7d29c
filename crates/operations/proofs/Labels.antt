-- The forest's part once the cycles are labelled: one tree for each cycle, its lowest dart the root.
--   labelled_falls == it is a forest
--   labelled_same  == two darts have one root exactly where they are on one cycle
use mathlib.Core.List.{List}
use mathlib.Core.Logic.{◌↔◌}
use mathlib.Core.Path.{◌≡◌}
use Prim.Native.Nat.{ℕ, ◌<◌}
use Rattle.permutations.specs.Perm.{Perm}
use Rattle.permutations.specs.Cycle.{Meets}
use Rattle.forest.specs.Forest.{Falls}
use Rattle.forest.specs.Lowest.{lowest_falls, lowest_same}
use Rattle.area.specs.Area.{forest_in}
use Rattle.operations.specs.Trees.{rooted}
use Rattle.operations.specs.Cycles.{step_in, Labelled}
use Rattle.operations.proofs.Steps.{cycle_classes}

module _ {D k : ℕ} {w w' : List ℕ} (π : Perm D (step_in D k w)) (l : Labelled D k w w') where
  pub labelled_falls : Falls (forest_in D w')
  labelled_falls = lowest_falls (cycle_classes π) l.lowest

  pub labelled_same : (x y : ℕ) → x < D → y < D → (rooted D w' x ≡ rooted D w' y) ↔ Meets (step_in D k w) x y
  labelled_same = lowest_same (cycle_classes π) l.lowest
