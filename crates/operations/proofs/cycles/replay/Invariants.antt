-- `operations::cycles::replay` meets its contract: what is left of the replay at each turn answers the same, and joins the same, as the whole.
--
--   Replaying D n k w₀ w i == w is w₀ after the first i operations: the replay from here is the replay from the start
--   turn_head              == the operations that are left: this one, h, and those after it
--   turn_other             == h is of the other kind
--   turn_apart             == h finds two roots, which are joined
--   turn_together          == h finds one root: the answer is no
--   replay_ends            == none is left: the answer is yes
use mathlib.Core.List.{List}
use mathlib.Core.Path.{◌≡◌}
use Prim.Native.Nat.{ℕ, ◌+◌, ◌*◌, ◌≤◌}
use Rattle.forest.specs.Forest.{Falls}
use Rattle.slices.specs.Part.{part}
use Rattle.area.specs.Area.{forest_in}
use Rattle.operations.specs.Trees.{Outside, rooted}
use Rattle.operations.specs.Replay.{rejoined, replayed}
use Rattle.operations.proofs.cycles.replay.Given as goal

-- the operations from place i on
abbrev pub left : ℕ → ℕ → List ℕ → ℕ → List ℕ
left D n w i = part (3 * D + i) (3 * D + n) w

pub record Replaying (D n k : ℕ) (w₀ w : List ℕ) (i : ℕ) : Type 0 where
  pub low : i ≤ n
  pub outside : Outside D w₀ w
  pub falls : Falls (forest_in D w)
  pub answer : replayed k (rooted D w₀) (part (3 * D) (3 * D + n) w₀) ≡ replayed k (rooted D w) (left D n w₀ i)
  pub roots : rejoined k (rooted D w₀) (part (3 * D) (3 * D + n) w₀) ≡ rejoined k (rooted D w) (left D n w₀ i)

abbrev pub invariant-loop-i : goal.invariant-loop-i
invariant-loop-i l = Replaying l.d l.n l.k l.initial.work l.work l.i
