-- The base of a sized grid has as many vertices as the grid has cells.
--   cells_label   == the cells number the vertices
--   cells_counted == the count of vertices is the number of cells
use mathlib.Core.List.{[]}
use mathlib.Core.Logic.Iff
use mathlib.Core.Path.{◌≡◌, ◌∙◌}
use lib.Dec.{T}
use Rattle.permutations.specs.Labels.{Labels}
use Rattle.permutations.proofs.Euler.{vertices}
use Rattle.darts.specs.Map.{live}
use Rattle.darts.specs.Counts.{counts_of}
use Rattle.laws.specs.Standing.{map_of}
use Rattle.laws.proofs.bridge.Bases.{all_live}
use Rattle.laws.proofs.bridge.Judged.{same_vertex_lem}
use Rattle.laws.proofs.bridge.Counting.{counts_numbers}
use Rattle.grids.specs.Grid.{Grid, sized, cells, darts_of}
use Rattle.grids.specs.Base.{cell_of, base_table}
use Rattle.permutations.proofs.CyclesCounted.{cycles_numbered}
use Rattle.grids.proofs.PlanBase.{plan_base_lem, base_stands, base_vertices}

pub cells_label : (g : Grid) → Labels (live (darts_of g) []) (map_of (darts_of g) (base_table g) []).next (cell_of g)
cells_label g = record {
  says = λ x y h k. Iff.symm (Iff.trans (Iff.symm (same_vertex_lem (base_stands g) x y h))
      (base_vertices g x y ((all_live (darts_of g) x).0 h) ((all_live (darts_of g) y).0 k)));
}

module _ (g : Grid) (s : T (sized g)) where
  pub vertices_cells : vertices (darts_of g) (map_of (darts_of g) (base_table g) []) ≡ cells g
  unfolding vertices
  vertices_cells =
      let S = base_stands g in
      let B = plan_base_lem g s in
      cycles_numbered S.good.perm S.good.small (cells_label g) (cells g) (λ x h. B.cell x ((all_live (darts_of g) x).0 h))
      (λ c h. let d = B.every c h in (d.dart, (all_live (darts_of g) d.dart).1 d.below, d.stands))

  -- THE VERTICES ARE AS MANY AS THE CELLS
  pub cells_counted : (counts_of (darts_of g) (base_table g) []).vertices ≡ cells g
  cells_counted = (counts_numbers (base_stands g)).vertices_are ∙ vertices_cells
