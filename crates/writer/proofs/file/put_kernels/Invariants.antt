-- `writer::file::put_kernels` meets its contract: the lines that are written, and then those of the levels that are left, are the lines of all.
--   Cutting ends hs o₀ o start place from i == from o₀ to o the lines of the first i levels were written; they end at the operation count `from`
use mathlib.Core.List.{List}
use mathlib.Core.Path.{◌≡◌}
use Prim.Native.Nat.{ℕ, ◌+◌, ◌*◌, ◌≤◌}
use lib.Dec.{T}
use lib.ListN.{length, drop}
use Rattle.darts.specs.Tests.{rises}
use Rattle.darts.specs.Pyramid.{cut}
use Rattle.darts.specs.File.{kernel_lines}
use Rattle.writer.proofs.Fitted.{Toward}
use Rattle.writer.proofs.file.put_kernels.Given as goal

pub record Cutting (ends hs o₀ o : List ℕ) (start place from i : ℕ) : Type 0 where
  pub near : place ≤ start + 22 * i
  pub size : length o ≡ length o₀
  pub rise : T (rises from (drop i ends) (drop from hs))
  pub toward : Toward (kernel_lines (cut 0 ends hs)) o₀ o start place (kernel_lines (cut from (drop i ends) (drop from hs)))

abbrev pub invariant-loop-end : goal.invariant-loop-end
invariant-loop-end l = Cutting l.ends l.history l.initial.output l.output l.start l.place l.from l.end-index
