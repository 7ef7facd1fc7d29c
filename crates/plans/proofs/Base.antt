-- The base's table, and a lent slice that has room for it.
--   table_length == it has an entry for each dart
--   table_at     == the entry at each dart is its successor
--   lent, lent_long == the slice has room
--   along_laid, along_size, base_laid == the entries along the courses are laid, and then all of them
use mathlib.Core.List.{List, ◌++◌}
use mathlib.Core.Path.{◌≡◌, refl, sym, ap, ◌∙◌}
use Prim.Native.Nat.{ℕ, ◌+◌, ◌-◌, ◌*◌, ◌≤◌, ◌<◌}
use native.Mathlib.Omega.{arith}
use lib.ListN.{length, get_or, take, drop}
use lib.Seq.{length-take-le}
use Rattle.slices.specs.Over.{over}
use Rattle.slices.proofs.Over.{over_front, over_rest, over_length, drop_more}
use Rattle.darts.specs.Map.{successor}
use Rattle.grids.specs.Grid.{flat, darts_of}
use Rattle.grids.specs.Base.{successor_on, base_table}
use Rattle.grids.proofs.Successors.{table_entry}
use Rattle.grids.proofs.PlanBase.{base_stands}
use Rattle.plans.specs.Limits.{Sized, Lent}
use Rattle.plans.proofs.Limits.{along_few, upright_few, all_edges}

module _ (W C : ℕ) where
  pub table_length : length (base_table (flat W C)) ≡ 2 * ((W - 1) * C + W * (C - 1))
  table_length = (base_stands (flat W C)).size ∙ ap (λ n. 2 * n) (all_edges W C)

  pub table_at : (i d : ℕ) {v : ℕ} → v ≡ successor_on (flat W C) i → i ≡ d → d < 2 * ((W - 1) * C + W * (C - 1))
      → v ≡ get_or (base_table (flat W C)) d 0
  unfolding successor
  table_at i d e same h = e ∙ ap (successor_on (flat W C)) same ∙ sym (table_entry (flat W C) d (rw (all_edges W C) h))

pub lent_long : {W C a n : ℕ} → Lent W C a n → length (base_table (flat W C)) ≤ n
lent_long {W} {C} p = rw (table_length W C) (omega (arith, p.along, p.room))

pub lent : {W C n : ℕ} → Sized W C → darts_of (flat W C) ≤ n → Lent W C ((W - 1) * C) n
lent {W} {C} {n} s h = record {
  sized = s;
  along = refl;
  few = along_few s;
  upright = upright_few s;
  room = rw (← all_edges W C) h;
}

-- ---- the entries along the courses laid, and then the others

module _ {W C a : ℕ} (to : List ℕ) (p : Lent W C a (length to)) where
  abbrev T : List ℕ
  T = base_table (flat W C)

  abbrev front : List ℕ
  front = take (2 * a) T

  front_length : length front ≡ 2 * a
  front_length = length-take-le (2 * a) T (rw (table_length W C) (omega (arith, p.along)))

  pub along_laid : take (2 * a) (over front to) ≡ front
  along_laid = rw front_length at (over_front front to)

  pub along_size : length (over front to) ≡ length to
  along_size = over_length front to (rw front_length (omega (arith, p.room)))

  along_rest : drop (length T) (over front to) ≡ drop (length T) to
  along_rest = drop_more (length front) (length T) (over front to) to (rw (front_length, table_length W C) (omega (arith, p.along))) (over_rest front to)

  pub base_laid : over T (over front to) ≡ over T to
  unfolding over
  base_laid = ap (λ l. T ++ l) along_rest
