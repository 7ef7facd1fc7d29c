-- `plans::laying::lay_along` meets its contract: a row of edges for each course, from the first edge on.
use mathlib.Core.List.{List}
use Prim.Native.Nat.{ℕ, ◌-◌}
use Rattle.grids.specs.Base.{base_table}
use Rattle.grids.specs.Grid.{flat}
use Rattle.plans.proofs.Entries.{Laying}
use Rattle.plans.proofs.laying.lay_along.Given as goal

abbrev pub Along : ℕ → ℕ → List ℕ → List ℕ → ℕ → ℕ → ℕ → Type 0
Along W C to₀ to e x y = Laying (base_table (flat W C)) 0 (W - 1) C to₀ to e x y

abbrev pub invariant-loop-e : goal.invariant-loop-e
invariant-loop-e l = Along l.w l.c l.initial.to l.to l.e l.x l.y

abbrev pub decreases-loop-e : goal.decreases-loop-e
decreases-loop-e l = l.a - l.e
