-- `plans::laying::lay_upright` meets its contract: a row of edges for each course but the last, after the a edges along the courses.
use mathlib.Core.List.{List}
use Prim.Native.Nat.{ℕ, ◌-◌}
use Rattle.grids.specs.Base.{base_table}
use Rattle.grids.specs.Grid.{flat}
use Rattle.plans.proofs.Entries.{Laying}
use Rattle.plans.proofs.laying.lay_upright.Given as goal

abbrev pub Upright : ℕ → ℕ → ℕ → List ℕ → List ℕ → ℕ → ℕ → ℕ → Type 0
Upright W C a to₀ to e x y = Laying (base_table (flat W C)) a W (C - 1) to₀ to e x y

abbrev pub invariant-loop-e : goal.invariant-loop-e
invariant-loop-e l = Upright l.w l.c l.a l.initial.to l.to l.e l.x l.y

abbrev pub decreases-loop-e : goal.decreases-loop-e
decreases-loop-e l = l.end - l.e
