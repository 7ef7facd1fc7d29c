-- `area::load::test` meets its contract: what is to be linked from a dart on, in the work area as it is, is what was to be linked from the start.
--
--   Linking D n w₀ w x == that
--   link_on            == x is noted, or is gone
--   link_stops         == x cannot be noted
--   link_end           == all are
use mathlib.Core.List.{List}
use mathlib.Core.Path.{◌≡◌}
use Prim.Native.Nat.{ℕ, ◌-◌}
use lib.ListN.{length}
use Rattle.area.specs.Load.{links}
use Rattle.area.proofs.load.test.Given as goal

pub record Linking (D n : ℕ) (w₀ w : List ℕ) (x : ℕ) : Type 0 where
  pub size : length w ≡ length w₀
  pub same : links D n w₀ 0 D ≡ links D n w x (D - x)

abbrev pub invariant-loop-dart : goal.invariant-loop-dart
invariant-loop-dart l = Linking l.d l.n l.initial.work l.work l.dart
