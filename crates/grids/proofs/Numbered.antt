-- The numbers of vertices and faces that the calls on a plan store (document 02, requests One and Six: "Every operation and every undo keeps them
-- right").
--   plan_stores, areas_stores == after an accepted call they are the numbers of the cycles of the table left, by the history left
--   plan_vertices, plan_faces == the base stores its cells as vertices, and in a grid that does not close its squares and one more as faces
--   areas_vertices            == the second call stores one vertex less for each operation
--   areas_two                 == two in the excepted plans
--   plan_zeros, areas_zeros   == a refused call stores none
use mathlib.Core.List.{List}
use mathlib.Core.Logic.{◌≢◌}
use mathlib.Core.Path.{◌≡◌, refl, sym, ◌∙◌}
use Prim.Native.Nat.{ℕ, ◌+◌, ◌-◌, ◌*◌}
use native.Mathlib.Omega.{arith}
use lib.Dec.{T}
use Rattle.darts.specs.State.{raised}
use Rattle.darts.specs.Calls.{After, table_of, past_of}
use Rattle.laws.proofs.runs.Ends.{Stores}
use Rattle.laws.proofs.runs.Pyramids.{pyramid_built}
use Rattle.laws.proofs.calls.Judging.{Lent}
use Rattle.laws.proofs.merging.Laws.{merging_counts}
use Rattle.grids.specs.Grid.{Grid, cells, darts_of}
use Rattle.grids.specs.Base.{base_table}
use Rattle.grids.specs.Plans.{one_code, plan_base, plan_areas}
use Rattle.grids.proofs.Limits.{Limits, sized_limits}
use Rattle.grids.proofs.PlanBase.{base_stands}
use Rattle.grids.proofs.CellsCounted.{cells_counted}
use Rattle.grids.proofs.FacesCounted.{faces_counted}
use Rattle.grids.proofs.Areas.{Excepted, first_merges}
use Rattle.grids.proofs.Begun.{plan_left, Ends, level, none, areas_built, areas_left, areas_areas}
use Rattle.grids.proofs.Sentences.{plan_fitted, plan_gives, plan_refused, areas_refused}

-- a pyramid stores the numbers of its cycles
lent_stores : (a : After) → Lent a.state a.table a.history a.work → Stores a.state (table_of a.state a.table) (past_of a.state a.history)
lent_stores a L = (pyramid_built L.pyramid).stored

module _ (g : Grid) (plan t h w : List ℕ) where
  -- ---- the base

  pub plan_stores : (plan_base g plan t h w).answer.number ≡ 0
      → Stores (plan_base g plan t h w).state (table_of (plan_base g plan t h w).state (plan_base g plan t h w).table)
      (past_of (plan_base g plan t h w).state (plan_base g plan t h w).history)
  plan_stores z = lent_stores (plan_base g plan t h w) (plan_left g plan t h w z).lent

  module _ (z : (plan_base g plan t h w).answer.number ≡ 0) where
    pub plan_vertices : (plan_base g plan t h w).state.vertices ≡ cells g
    plan_vertices = rw (plan_gives g plan t h w z) (cells_counted g ((sized_limits g).1 (plan_fitted g plan t h w z).0))

    pub plan_faces : ¬ T g.closes → (plan_base g plan t h w).state.faces ≡ (g.wales - 1) * (g.courses - 1) + 1
    plan_faces opens = rw (plan_gives g plan t h w z) (faces_counted g opens ((sized_limits g).1 (plan_fitted g plan t h w z).0))

  pub plan_zeros : (plan_base g plan t h w).answer.number ≢ 0 → ((plan_base g plan t h w).state.vertices ≡ 0) × ((plan_base g plan t h w).state.faces ≡ 0)
  plan_zeros n = rw (plan_refused g plan t h w n).state (refl, refl)

  -- ---- the base with its first kernel

  pub areas_stores : (plan_areas g plan t h w).answer.number ≡ 0
      → Stores (plan_areas g plan t h w).state (table_of (plan_areas g plan t h w).state (plan_areas g plan t h w).table)
      (past_of (plan_areas g plan t h w).state (plan_areas g plan t h w).history)
  areas_stores z = lent_stores (plan_areas g plan t h w) (areas_left g plan t h w z).lent

  -- each contraction takes one vertex
  pub areas_vertices : (plan_areas g plan t h w).answer.number ≡ 0 → (plan_areas g plan t h w).state.vertices + (plan_areas g plan t h w).state.operations ≡ cells g
  unfolding raised
  areas_vertices z = let b = areas_built g plan t h w z in go b.within b.ends
    where
      go : Limits g → Ends g plan t h w → (plan_areas g plan t h w).state.vertices + (plan_areas g plan t h w).state.operations ≡ cells g
      go l (none n e) = absurd (let q : 5 ≡ 0 = rw e at z in omega arith)
      go l (level s some P e) =
          rw e (sym (merging_counts (darts_of g) (one_code g plan) (base_table g) (base_stands g) (sym (first_merges g plan) ∙ s)) ∙ cells_counted g ((sized_limits g).1 l))

  -- "where one edge stays": its two ends are the vertices
  pub areas_two : (plan_areas g plan t h w).answer.number ≡ 0 → Excepted g plan → (plan_areas g plan t h w).state.vertices ≡ 2
  areas_two z x =
      let D = (areas_left g plan t h w z).darts in
      (areas_stores z).vertices ∙ rw D ((areas_areas g plan t h w z).stays x).vertices

  pub areas_zeros : (plan_areas g plan t h w).answer.number ≢ 0 → ((plan_areas g plan t h w).state.vertices ≡ 0) × ((plan_areas g plan t h w).state.faces ≡ 0)
  areas_zeros n = rw (areas_refused g plan t h w n).state (refl, refl)
