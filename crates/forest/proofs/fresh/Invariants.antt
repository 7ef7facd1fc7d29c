-- The loop of `forest::fresh`: each number below i is its own parent.
use Rattle.std.proofs.Common.{◌≡◌, ℕ, ◌<◌}
use Rattle.forest.specs.Forest.{parent}
use Rattle.forest.proofs.fresh.Given as goal

abbrev pub invariant-loop-i : goal.invariant-loop-i
invariant-loop-i l = (x : ℕ) → x < l.i → parent l.forest x ≡ x
