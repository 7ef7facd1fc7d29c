-- The numbers of vertices and faces of a plan's base.
--   cells_most   == how many cells there can be
--   squares_few  == how many squares of four cells there can be
--   base_numbers == a base with a vertex for each cell, a face for each square and the outer one stores the numbers of its cycles
use mathlib.Core.Path.{◌≡◌, refl, sym}
use Prim.Native.Nat.{ℕ, ◌+◌, ◌-◌, ◌*◌, ◌≤◌}
use native.Mathlib.Nat.{mul-le-mul}
use native.Mathlib.Omega.{arith}
use lib.Dec.{T}
use Rattle.darts.specs.State.{base_state}
use Rattle.laws.proofs.runs.Ends.{state_path}
use Rattle.grids.specs.Grid.{flat, sized, cells, darts_of}
use Rattle.grids.specs.Base.{base_table}
use Rattle.grids.proofs.CellsCounted.{cells_counted}
use Rattle.grids.proofs.FacesCounted.{faces_counted}
use Rattle.pyramid.specs.Values.{base_with}
use Rattle.plans.specs.Limits.{Sized}

pub cells_most : {W C : ℕ} → Sized W C → W * C ≤ 16384
cells_most s = mul-le-mul s.narrow s.low

pub squares_few : {W C : ℕ} → Sized W C → (W - 1) * (C - 1) ≤ 16129
squares_few {W} {C} s =
    let l : W - 1 ≤ 127 = omega (arith, s.narrow) in
    let k : C - 1 ≤ 127 = omega (arith, s.low) in
    mul-le-mul l k

module _ (W C : ℕ) (s : T (sized (flat W C))) where
  abbrev D : ℕ
  D = darts_of (flat W C)

  -- A VERTEX FOR EACH CELL, A FACE FOR EACH SQUARE, AND THE OUTER FACE
  pub base_numbers : base_with D (W * C) ((W - 1) * (C - 1) + 1) ≡ base_state D (base_table (flat W C))
  unfolding cells
  base_numbers = state_path refl refl refl refl (sym (cells_counted (flat W C) s)) (sym (faces_counted (flat W C) (λ t. t) s))
