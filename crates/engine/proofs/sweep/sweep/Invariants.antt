-- `engine::sweep::sweep` meets its contract: from each edge on the sweep goes to where it goes from the first. That an edge which it takes may be removed
-- is `empty-loop-faces`; nothing of it is judged.
--   Sweeping D n w₀ w e m == w is w₀ after the edges below e, with m operations then
--   taking                == the code's test is the definition's
--   removable             == an edge that is taken may be removed
--   passed_over, taken_on == e was passed over, or taken and removed
--   sweep_ends            == no edge is left
use mathlib.Core.List.{List}
use mathlib.Core.Path.{◌≡◌}
use Prim.Native.Nat.{ℕ, ◌-◌, ◌/◌}
use Rattle.darts.specs.Kernel.{Run, rising}
use Rattle.darts.specs.Levels.{swept_from, swept}
use Rattle.area.specs.Area.{table_in, past_in}
use Rattle.engine.specs.Held.{Area, Beyond}
use Rattle.engine.proofs.sweep.sweep.Given as goal

abbrev pub whole : ℕ → ℕ → List ℕ → Run
whole D n w₀ = swept D (table_in D w₀) (past_in D n w₀)

pub record Sweeping (D n : ℕ) (w₀ w : List ℕ) (e m : ℕ) : Type 0 where
  pub same : swept_from D (table_in D w) (past_in D m w) (rising e (D / 2 - e)) ≡ whole D n w₀
  pub area : Area D m w
  pub beyond : Beyond D w₀ w

abbrev pub invariant-loop-e : goal.invariant-loop-e
invariant-loop-e l = Sweeping l.d l.n l.initial.work l.work l.e l.m
