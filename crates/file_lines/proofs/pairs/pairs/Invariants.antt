-- `file_lines::pairs::pairs` meets its contract: the numbers of the lines so far stand at the front of the table, and the lines from
-- here on are those that are left.
--   Reading b D F t₀ t at₀ at i == i lines were read; t is the table t₀ with their numbers at the front
use mathlib.Core.Path.{◌≡◌}
use mathlib.Core.List.{List, map}
use Prim.Native.Nat.{ℕ, ◌-◌, ◌*◌, ◌/◌, ◌≤◌}
use lib.ListN.{length}
use Rattle.darts.specs.Read.{pairs_at, from_flag}
use Rattle.slices.specs.Put.{Put}
use Rattle.file_lines.proofs.Rest.{Rest}
use Rattle.file_lines.proofs.pairs.pairs.Given as goal

pub record Reading (b : List ℕ) (D F : ℕ) (t₀ t : List ℕ) (at₀ at i : ℕ) : Type 0 where
  pub done : List ℕ
  pub bound : i ≤ D / 2
  pub size : length t ≡ length t₀
  pub lines : Rest (pairs_at (D / 2) b at₀) (pairs_at (D / 2 - i) b at) done
  pub put : Put t₀ t 0 (2 * i) (map (from_flag F D) done)

abbrev pub invariant-loop-i : goal.invariant-loop-i
invariant-loop-i l = Reading l.bytes l.d l.flag l.initial.table l.table l.at l.place l.i
