-- `area::shape::rise` meets its contract: whether the ends rise is whether those from the i-th on rise from the last end that was passed.
--
--   Rising D n w ends from i == that, with the bounds
--   rise_low, rise_high      == an end that is not above the last one, or is past the operations: no
--   rise_mixed               == two kinds inside a level: no
--   rise_on                  == one level more
--   rise_end                 == all are passed: the last end is to be the number of operations
use mathlib.Core.List.{List}
use mathlib.Core.Path.{◌≡◌}
use Prim.Native.Nat.{ℕ, ◌+◌, ◌*◌, ◌≤◌}
use lib.ListN.{length, drop}
use Rattle.darts.specs.Tests.{rises}
use Rattle.area.specs.Shape.{history_in}
use Rattle.area.proofs.shape.rise.Given as goal

pub record Rising (D n : ℕ) (w ends : List ℕ) (from i : ℕ) : Type 0 where
  pub room : 3 * D + n ≤ length w
  pub upto : from ≤ n
  pub same : rises 0 ends (history_in D n w) ≡ rises from (drop i ends) (drop from (history_in D n w))

abbrev pub invariant-loop-end : goal.invariant-loop-end
invariant-loop-end l = Rising l.fn.state.darts l.fn.state.operations l.work l.end-items l.from l.end-index
