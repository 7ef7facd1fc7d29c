-- `plans::laying::rise` meets its contract: what is laid from the start is what is laid from here.
use mathlib.Core.List.{List}
use mathlib.Core.Path.{◌≡◌}
use Prim.Native.Nat.{ℕ, ◌+◌, ◌-◌, ◌*◌, ◌≤◌}
use lib.ListN.{length}
use Rattle.plans.specs.Rising.{risen}
use Rattle.plans.proofs.laying.rise.Given as goal

pub record Rising (e n r l : ℕ) (to₀ to : List ℕ) (i : ℕ) : Type 0 where
  pub size : length to ≡ length to₀
  pub inside : i ≤ n
  pub same : risen e n r l to₀ ≡ risen (e + i) (n - i) (r + 2 * i) (l + 2 * i) to

abbrev pub invariant-loop-i : goal.invariant-loop-i
invariant-loop-i l = Rising l.e l.n l.r l.l l.initial.to l.to l.i
