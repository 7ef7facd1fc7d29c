-- `noting::note::mark` meets its contract: place by place, and each reads only the forest's part.
--   Marking D w₀ w x == the first x places are marked, and nothing past the darts has changed
--   mark_begin, mark_on, mark_end == none is marked, one more, all
use mathlib.Core.List.{List}
use mathlib.Core.Path.{◌≡◌}
use Prim.Native.Nat.{ℕ, ◌+◌, ◌*◌, ◌≤◌, ◌<◌}
use lib.Dec.{eqb}
use lib.ListN.{length, get_or, drop}
use Rattle.permutations.specs.Choice.{pick}
use Rattle.noting.proofs.note.mark.Given as goal

pub record Marking (D : ℕ) (w₀ w : List ℕ) (x : ℕ) : Type 0 where
  pub size : length w ≡ length w₀
  pub bound : x ≤ D
  pub rest : drop D w ≡ drop D w₀
  pub each : (y : ℕ) → y < x → get_or w y 0 ≡ pick (eqb (get_or w₀ (2 * D + y) 0) y) 0 D

abbrev pub invariant-loop-x : goal.invariant-loop-x
invariant-loop-x l = Marking l.d l.initial.work l.work l.x
