-- `file_lines::kernels::lay_history` meets its contract: after some turns of the loop the numbers of the operations up to i are laid.
--   Laying h₀ h k from to i == h is the history h₀ with the numbers of the operations from `from` to i
use mathlib.Core.Path.{◌≡◌}
use mathlib.Core.List.{List}
use Prim.Native.Nat.{ℕ, ◌-◌, ◌≤◌}
use lib.ListN.{length}
use Rattle.darts.specs.Kinds.{kind_is}
use Rattle.darts.specs.Operation.{Kind}
use Rattle.darts.specs.Read.{numbers_from}
use Rattle.slices.specs.Put.{Put}
use Rattle.file_lines.proofs.kernels.lay_history.Given as goal

pub record Laying (h₀ h : List ℕ) (k : Kind) (from to i : ℕ) : Type 0 where
  pub low : from ≤ i
  pub high : i ≤ to
  pub size : length h ≡ length h₀
  pub put : Put h₀ h from i (numbers_from k from (i - from))

abbrev pub invariant-loop-i : goal.invariant-loop-i
invariant-loop-i l = Laying l.initial.history l.history (kind_is l.kind) l.from l.to l.i
