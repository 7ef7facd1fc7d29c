-- `writer::numbering::number_listed` meets its contract: each dart that is listed from here on has its first place from here on.
--   Placing D w₀ w left == that, with the bounds
use mathlib.Core.List.{List}
use mathlib.Core.Path.{◌≡◌}
use Prim.Native.Nat.{ℕ, ◌+◌, ◌-◌, ◌*◌, ◌≤◌, ◌<◌}
use lib.ListN.{length, get_or, take, drop}
use Rattle.darts.specs.File.{place_in}
use Rattle.slices.specs.Part.{part}
use Rattle.writer.proofs.numbering.number_listed.Given as goal

pub record Placing (D : ℕ) (w₀ w : List ℕ) (left : ℕ) : Type 0 where
  pub bound : left ≤ D
  pub size : length w ≡ length w₀
  pub table : take D w ≡ take D w₀
  pub rest : drop (2 * D) w ≡ drop (2 * D) w₀
  pub places : (x : ℕ) → place_in (part (2 * D + left) (3 * D) w₀) x < D - left → get_or w (D + x) 0 ≡ left + place_in (part (2 * D + left) (3 * D) w₀) x

abbrev pub invariant-loop-i : goal.invariant-loop-i
invariant-loop-i l = Placing l.d l.initial.work l.work l.i
