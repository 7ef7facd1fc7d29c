-- `writer::file::put_pairs` meets its contract: the lines that are written, and then those of the entries that are left, are the lines of all.
--   Pairing D w o₀ o start place i == from o₀ to o the first i lines were written
use mathlib.Core.List.{List, map}
use mathlib.Core.Path.{◌≡◌}
use Prim.Native.Nat.{ℕ, ◌+◌, ◌*◌, ◌/◌, ◌≤◌}
use lib.ListN.{length}
use Rattle.darts.specs.File.{pair_lines}
use Rattle.slices.specs.Part.{part}
use Rattle.writer.specs.Numbering.{renamed, entries_in}
use Rattle.writer.proofs.Fitted.{Toward}
use Rattle.writer.proofs.file.put_pairs.Given as goal

pub record Pairing (D : ℕ) (w o₀ o : List ℕ) (start place i : ℕ) : Type 0 where
  pub bound : i ≤ D / 2
  pub near : place ≤ start + 17 * i
  pub size : length o ≡ length o₀
  pub toward : Toward (pair_lines (entries_in D w)) o₀ o start place (pair_lines (map (renamed D w) (part (2 * D + 2 * i) (3 * D) w)))

abbrev pub invariant-loop-i : goal.invariant-loop-i
invariant-loop-i l = Pairing l.d l.work l.initial.output l.output l.start l.place l.i
