-- `writer::numbering::list_taken` meets its contract: what is listed, and then the darts of the operations that are left, are the darts of all.
--   Listing D n w₀ w i == from w₀ to w the darts of the first i operations were listed
use mathlib.Core.List.{List}
use mathlib.Core.Path.{◌≡◌}
use Prim.Native.Nat.{ℕ, ◌+◌, ◌*◌, ◌≤◌}
use lib.ListN.{length}
use Rattle.darts.specs.File.{taken}
use Rattle.slices.specs.Part.{part}
use Rattle.area.specs.Shape.{history_in}
use Rattle.writer.proofs.Fitted.{Toward}
use Rattle.writer.proofs.numbering.list_taken.Given as goal

pub record Listing (D n : ℕ) (w₀ w : List ℕ) (i : ℕ) : Type 0 where
  pub size : length w ≡ length w₀
  pub bound : i ≤ n
  pub toward : Toward (taken (history_in D n w₀)) w₀ w (2 * D) (2 * D + 2 * i) (taken (part (3 * D + i) (3 * D + n) w₀))

abbrev pub invariant-loop-i : goal.invariant-loop-i
invariant-loop-i l = Listing l.d l.n l.initial.work l.work l.i
