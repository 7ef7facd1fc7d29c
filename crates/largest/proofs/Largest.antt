-- The largest plan, 128 by 128, by the laws of every plan.
--   largest        == its grid
--   largest_limits == it is inside the limits
--   largest_darts, largest_cells == how many darts and cells it has
--   largest_corner == the successor of its last dart
--   largest_taken  == the plan and the slices are long enough for it: it is accepted
--   largest_vertices, largest_faces == as many vertices as cells, as many faces as squares and one more
use mathlib.Core.List.{List}
use mathlib.Core.Path.{◌≡◌, refl, ◌∙◌}
use Prim.Native.Nat.{ℕ, ◌≤◌}
use native.Mathlib.Omega.{arith}
use lib.ListN.{length}
use Rattle.darts.specs.Kernel.{rising}
use Rattle.grids.specs.Grid.{Grid, flat, cells, cell, along, right_edge, up_edge, left_edge, down_edge, edges, darts_of}
use Rattle.grids.specs.Base.{round_of, rounds, has, next_or, next_in, place_of, cell_of, successor_on}
use Rattle.grids.specs.Plans.{plan_base}
use Rattle.grids.proofs.Limits.{Limits}
use Rattle.grids.proofs.Planning.{Enough}
use Rattle.grids.proofs.Sentences.{plan_order}
use Rattle.grids.proofs.Numbered.{plan_vertices, plan_faces}

abbrev pub largest : Grid
largest = flat 128 128

pub largest_limits : Limits largest
largest_limits = record {
  some_wale = omega arith;
  two_round = λ z. absurd z;
  most_wales = omega arith;
  some_course = omega arith;
  most_courses = omega arith;
  two_cells = omega arith;
}

pub largest_darts : darts_of largest ≡ 65024
unfolding edges along
largest_darts = refl

pub largest_cells : cells largest ≡ 16384
unfolding cells
largest_cells = refl

-- the last cell of the highest course: after the dart below, the one on the left
pub largest_corner : successor_on largest 65023 ≡ 32511
unfolding rising cells cell along right_edge up_edge left_edge down_edge edges round_of rounds has next_or next_in place_of cell_of successor_on
largest_corner = refl

module _ (plan t h w : List ℕ) (cells : 16384 ≤ length plan) (table : 65024 ≤ length t) (history : 32512 ≤ length h) (work : 260096 ≤ length w) where
  room : Enough largest (length plan) (length t) (length h) (length w)
  room =
      let d = largest_darts in
      let c = largest_cells in
      record { plan = omega arith; lengths = record { table = omega arith; history = omega arith; work = omega arith } }

  pub largest_taken : (plan_base largest plan t h w).answer.number ≡ 0
  largest_taken = (plan_order largest plan t h w).after largest_limits room

  pub largest_vertices : (plan_base largest plan t h w).state.vertices ≡ 16384
  largest_vertices = plan_vertices largest plan t h w largest_taken ∙ largest_cells

  pub largest_faces : (plan_base largest plan t h w).state.faces ≡ 16130
  largest_faces = plan_faces largest plan t h w largest_taken (λ z. z)
