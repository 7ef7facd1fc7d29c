-- `operations::back::take_back_last` meets its contract: what is left to take back, in the work area as it is, is what was to be taken back from the start.
--
--   Backing D n c w₀ w left == that, with the bounds
--   back_on                 == one operation fits
--   back_not                == one does not: no
--   back_end                == all are taken back: yes
use mathlib.Core.List.{List}
use mathlib.Core.Path.{◌≡◌}
use Prim.Native.Nat.{ℕ, ◌-◌, ◌≤◌}
use lib.ListN.{length}
use Rattle.operations.specs.Back.{backs, Sound}
use Rattle.operations.proofs.back.take_back_last.Given as goal

pub record Backing (D n c : ℕ) (w₀ w : List ℕ) (left : ℕ) : Type 0 where
  pub sound : Sound D n w
  pub size : length w ≡ length w₀
  pub low : n - c ≤ left
  pub high : left ≤ n
  pub same : backs D w₀ n c ≡ backs D w left (left - (n - c))

abbrev pub invariant-loop-left : goal.invariant-loop-left
invariant-loop-left l = Backing l.d l.n l.c l.initial.work l.work l.left
