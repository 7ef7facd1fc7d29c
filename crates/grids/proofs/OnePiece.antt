-- The base of a sized grid is one piece.
--   base_cells  == its vertices are the cells
--   every_cell_reached == steps over edges lead from each cell to each
--   one_piece   == so all darts are in one piece
use mathlib.Core.Bool.{true}
use mathlib.Core.Path.{refl, subst}
use Prim.Native.Nat.{ℕ, zero, suc, ◌+◌, ◌*◌, ◌/◌, ◌%◌, ◌<◌}
use native.Mathlib.Numerals.{add-one}
use native.Mathlib.Omega.{arith}
use lib.Dec.{T}
use Rattle.laws.proofs.merging.Cells.{Cells, Area, alone, over, turned, onward, cells_piece}
use Rattle.laws.proofs.merging.Pieces.{OnePiece}
use Rattle.grids.specs.Grid.{Grid, sized, cells, cell, darts_of, Beside, right, above}
use Rattle.grids.specs.Base.{cell_of, base_table}
use Rattle.grids.proofs.Edges.{is_cell}
use Rattle.grids.proofs.Limits.{limits}
use Rattle.grids.proofs.PlanBase.{plan_base_lem, base_stands}

module _ (g : Grid) (s : T (sized g)) where
  pub base_cells : Cells (darts_of g) (base_table g) (cell_of g)
  base_cells = record { says = (plan_base_lem g s).vertices }

  -- steps over edges lead from a to b
  abbrev pub Reaches : ℕ → ℕ → Type 0
  Reaches = Area (darts_of g / 2) (cell_of g) (λ e. true)

  beside_reaches : {a b : ℕ} → Beside g a b → Reaches a b
  beside_reaches {a} {b} n =
      let j = (plan_base_lem g s).joining a b n in
      let below = j.below in
      let r : Reaches (cell_of g (2 * j.edge)) (cell_of g (2 * j.edge + 1)) = over {e = j.edge} (omega arith) refl in
      rw (j.even_at, j.odd_at) at r

  along_course : (x y : ℕ) → x < g.wales → y < g.courses → Reaches (cell g 0 y) (cell g x y)
  along_course zero y h k = alone
  along_course (suc x) y h k = onward (along_course x y (omega arith) k) (rw (add-one x) at (beside_reaches (right x y (omega arith) k)))

  up_wale : (y : ℕ) → y < g.courses → Reaches (cell g 0 0) (cell g 0 y)
  up_wale zero k = alone
  up_wale (suc y) k = onward (up_wale y (omega arith)) (rw (add-one y) at (beside_reaches (above 0 y (limits g s).some_wale (omega arith))))

  from_first : (c : ℕ) → c < cells g → Reaches (cell g 0 0) c
  from_first c h =
      let i = is_cell g c h in
      subst (Reaches (cell g 0 0)) i.number (onward (up_wale (c / g.wales) i.course) (along_course (c % g.wales) (c / g.wales) i.wale i.course))

  -- EACH CELL IS REACHED FROM EACH
  pub every_cell_reached : (a b : ℕ) → a < cells g → b < cells g → Reaches a b
  every_cell_reached a b h k = onward (turned (from_first a h)) (from_first b k)

  -- ALL DARTS ARE IN ONE PIECE
  pub one_piece : OnePiece (darts_of g) (base_table g)
  one_piece =
      cells_piece (base_stands g) base_cells
      (λ x y h k. every_cell_reached (cell_of g x) (cell_of g y) ((plan_base_lem g s).cell x h) ((plan_base_lem g s).cell y k))
