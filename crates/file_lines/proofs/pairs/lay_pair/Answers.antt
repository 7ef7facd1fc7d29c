-- `file_lines::pairs::lay_pair` meets its contract: two stores side by side lay the two darts.
use mathlib.Core.Path.{◌≡◌}
use mathlib.Core.List.{List, [], ◌∷◌}
use Prim.Native.Nat.{ℕ, ◌+◌}
use native.Mathlib.Omega.{arith}
use lib.ListN.{set, length-set}
use Rattle.file_lines.specs.Lines.{pair_of}
use Rattle.slices.specs.Laid.{laid, Space}
use Rattle.slices.proofs.Put.{put_none, put_one}
use Rattle.file_lines.proofs.PairLines.{flag_small}
use Rattle.file_lines.proofs.pairs.lay_pair.Goals as goal

two_laid : (t : List ℕ) (at : ℕ) {a b x y u v : ℕ} → Space t at (pair_of (a, b)) → x ≡ u → y ≡ v → set (set t at x) (at + 1) y ≡ laid t at (u ∷ v ∷ [])
two_laid t at {a} {b} {x} {y} {u} {v} room e f = rw (← e, ← f) (put_one y (omega arith) (put_one x (omega arith) (put_none t at))).slice

pub overflow_cast-table : goal.overflow_cast-table
overflow_cast-table c =
    omega (arith, flag_small _ _ _ c.from_flag.ensures c.requires.d_bound.0 c.requires.d_bound.1)

pub overflow_cast-table-2 : goal.overflow_cast-table-2
overflow_cast-table-2 c =
    omega (arith, flag_small _ _ _ c.from_flag-2.ensures c.requires.d_bound.0 c.requires.d_bound.2)

pub bounds-table-at-2 : goal.bounds-table-at-2
bounds-table-at-2 c = simp length-set (omega arith)

pub returns : goal.returns
returns c =
    two_laid c.args.table.now c.args.at c.requires.space c.from_flag.ensures c.from_flag-2.ensures
