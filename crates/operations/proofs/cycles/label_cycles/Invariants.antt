-- `operations::cycles::label_cycles` meets its contract: at each turn the classes of the first i darts have their lowest darts as parents,
-- and n counts the roots among these darts.
--
--   Labelling D k w₀ w n i == so far, from w₀ to w
--   roots_same           == the roots among the first darts, where their parents stay
--   turn_gone            == a gone dart is alone on its cycle, and its own parent
--   turn_child           == a dart that a lower one has reached
--   turn_root            == a survivor that none has reached, and its cycle marked
use mathlib.Core.List.{List}
use mathlib.Core.Path.{◌≡◌}
use Prim.Native.Nat.{ℕ, ◌≤◌}
use Rattle.permutations.specs.Cycle.{Meets}
use Rattle.darts.specs.Kinds.{bit}
use Rattle.forest.specs.Lowest.{Lowest}
use Rattle.area.specs.Area.{forest_in}
use Rattle.operations.specs.Trees.{Outside}
use Rattle.operations.specs.Count.{roots_in}
use Rattle.operations.specs.Cycles.{step_in}
use Rattle.operations.proofs.cycles.label_cycles.Given as goal

pub record Labelling (D k : ℕ) (w₀ w : List ℕ) (n i : ℕ) : Type 0 where
  pub low : i ≤ D
  pub few : n ≤ i
  pub sum : n ≡ roots_in D w i
  pub outside : Outside D w₀ w
  pub lowest : Lowest (Meets (step_in D k w₀)) D i (forest_in D w)

abbrev pub invariant-loop-i : goal.invariant-loop-i
invariant-loop-i l = Labelling l.d (bit l.kind) l.initial.work l.work l.n l.i
