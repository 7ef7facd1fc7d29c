-- `area::load::lay` meets its contract: each of its calls lays numbers into a part of the work area.
--
--   with_table   == the work area with the table
--   lay_table   == the first call leaves it
--   lay_history == the second lays the history
--   lay_both    == both
use mathlib.Core.List.{List}
use mathlib.Core.Path.{◌≡◌, sym, ◌∙◌}
use Prim.Native.Nat.{ℕ, ◌*◌, ◌≤◌}
use native.Mathlib.Omega.{arith}
use lib.ListN.{length, take}
use lib.Seq.{length-take-le}
use Rattle.slices.specs.Over.{over}
use Rattle.slices.specs.Part.{part, put}
use Rattle.area.specs.Area.{Room}
use Rattle.area.specs.Load.{given}
use Rattle.slices.specs.Laid.{laid}
use Rattle.slices.proofs.Laid.{laid_length, laid_over, laid_part}
use Rattle.area.proofs.load.lay.Goals as goal

module _ (D n : ℕ) (t h w : List ℕ) (room : Room D w) (fit : (D ≤ length t) × (n ≤ length h) × (n ≤ D)) where
  abbrev with_table : List ℕ
  with_table = laid w 0 (take D t)

  table_length : length with_table ≡ length w
  table_length = let e = length-take-le D t fit.0 in laid_length w 0 (take D t) (record { fits = omega arith })

  lay_table : {u : List ℕ} → u ≡ over (take D t) w → u ≡ with_table
  lay_table e = e ∙ sym (laid_over w (take D t))

  lay_history : {v : List ℕ} → v ≡ over (take n h) (part (3 * D) (4 * D) with_table) → put (3 * D) (4 * D) with_table v ≡ given D n t h w
  unfolding given
  lay_history e =
      let f = table_length in
      let g = length-take-le n h fit.1 in
      rw e (laid_part with_table (3 * D) (4 * D) (omega arith) (take n h) (omega arith))

  lay_both : {u v : List ℕ} → u ≡ over (take D t) w → v ≡ over (take n h) (part (3 * D) (4 * D) u) → put (3 * D) (4 * D) u v ≡ given D n t h w
  lay_both a b = let a₂ = lay_table a in rw a₂ (lay_history (rw a₂ at b))

pub returns : goal.returns
returns c =
    lay_both _ _ _ _ _ c.requires.room c.requires.d_in_bounds c.copy.ensures c.copy-2.ensures
