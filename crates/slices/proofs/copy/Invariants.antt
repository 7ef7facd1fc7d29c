-- The loop of `slices::copy`.
--   Copied to₀ from to i == to is to₀ with the first i numbers of `from` over its own
use mathlib.Core.Path.{◌≡◌}
use mathlib.Core.List.{List, ◌++◌}
use Prim.Native.Nat.{ℕ}
use lib.ListN.{length, take, drop}
use Rattle.slices.proofs.copy.Given as goal

pub record Copied (to₀ from to : List ℕ) (i : ℕ) : Type 0 where
  pub size : length to ≡ length to₀
  pub same : to ≡ take i from ++ drop i to₀

abbrev pub invariant-loop-i : goal.invariant-loop-i
invariant-loop-i l = Copied l.initial.to l.from l.to l.i
