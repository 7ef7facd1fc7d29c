-- `area::load::mark` meets its contract: what is to be marked from place i on, in the work area as it is, is what was to be marked from the start.
--
--   Marking D n w₀ w i == that, with the bounds
--   mark_large         == a number of no dart: no
--   mark_twice         == an edge that is marked already: no
--   mark_on            == one edge more
--   mark_end           == all are marked: yes
use mathlib.Core.List.{List}
use mathlib.Core.Path.{◌≡◌}
use Prim.Native.Nat.{ℕ, ◌-◌, ◌≤◌}
use lib.ListN.{length}
use Rattle.area.specs.Load.{marks}
use Rattle.area.proofs.load.mark.Given as goal

pub record Marking (D n : ℕ) (w₀ w : List ℕ) (i : ℕ) : Type 0 where
  pub size : length w ≡ length w₀
  pub bound : i ≤ n
  pub same : marks D w₀ 0 n ≡ marks D w i (n - i)

abbrev pub invariant-loop-i : goal.invariant-loop-i
invariant-loop-i l = Marking l.d l.n l.initial.work l.work l.i
