-- `file_lines::kernels::kernels` meets its contract: the level ends, the sum and the history are those of the lines so far, and the lines from
-- here on are those that are left.
--   Reading b L D h₀ h ends at₀ at sum i == i lines were read; sum is their operations, and h is the history h₀ with their numbers at the front
use mathlib.Core.Path.{◌≡◌}
use mathlib.Core.List.{List, ◌++◌}
use Prim.Native.Nat.{ℕ, ◌-◌, ◌*◌, ◌/◌, ◌≤◌}
use lib.ListN.{length, drop, replicate}
use Rattle.darts.specs.Read.{KernelLine, kernels_at, ends_from, total, file_history}
use Rattle.slices.specs.Put.{Put}
use Rattle.file_lines.proofs.Rest.{Rest}
use Rattle.file_lines.proofs.kernels.kernels.Given as goal

pub record Reading (b : List ℕ) (L D : ℕ) (h₀ h ends : List ℕ) (at₀ at sum i : ℕ) : Type 0 where
  pub done : List KernelLine
  pub bound : i ≤ L
  pub count : length done ≡ i
  pub size : length h ≡ length h₀
  pub small : sum ≤ 99999 * i
  pub same : sum ≡ total done
  pub lines : Rest (kernels_at L b at₀) (kernels_at (L - i) b at) done
  pub levels : ends ≡ ends_from 0 done ++ replicate (64 - i) 0
  pub put : sum ≤ D / 2 → Put h₀ h 0 sum (file_history done)
  pub rest : drop (D / 2) h ≡ drop (D / 2) h₀

abbrev pub invariant-loop-i : goal.invariant-loop-i
invariant-loop-i l = Reading l.bytes l.levels l.d l.initial.history l.history l.ends l.at l.place l.operations l.i
