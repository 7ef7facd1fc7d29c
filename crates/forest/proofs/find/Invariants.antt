-- The loop of `forest::find`. The measure is the number itself, which falls.
--   Climbing t₀ t x at up == t is t₀ after some turns; `at` has the root of x, and `up` is its parent
use mathlib.Core.Path.{◌≡◌}
use mathlib.Core.List.{List}
use Prim.Native.Nat.{ℕ, ◌≤◌, ◌<◌}
use lib.ListN.{length}
use Rattle.forest.specs.Forest.{parent, Falls, root}
use Rattle.forest.proofs.find.Given as goal

pub record Climbing (t₀ t : List ℕ) (x at up : ℕ) : Type 0 where
  pub falls : Falls t
  pub roots : (z : ℕ) → root t z ≡ root t₀ z
  pub size : length t ≡ length t₀
  pub inside : at < length t
  pub next : up ≡ parent t at
  pub up_down : up ≤ at
  pub over_down : parent t up ≤ up
  pub same : root t at ≡ root t x

abbrev pub invariant-loop-up : goal.invariant-loop-up
invariant-loop-up l = Climbing l.initial.forest l.forest l.x l.at l.up

abbrev pub decreases-loop-up : goal.decreases-loop-up
decreases-loop-up l = l.at
