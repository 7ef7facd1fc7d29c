-- The laws of the base at grids worked by hand, a flat one and two that close: the table, the cell of each dart, and the counts.
--   Row     == a grid, its base, the cell of each dart, and how many vertices and faces there are
--   right r == the definitions give what the row says, and a start takes the base
--   agreed  == so it is with all rows
--   row_excepted == a row of three cells with one code is an excepted plan
--   round_taken  == in the least grid that closes, with one code, an edge is taken: its two cells have two edges
use mathlib.Core.Bool.{Bool, true, ◌&&◌}
use mathlib.Core.List.{List, [], ◌∷◌, map}
use mathlib.Core.Logic.{inr}
use mathlib.Core.Path.{◌≡◌, refl, sym, ◌∙◌}
use Prim.Native.Nat.{ℕ, zero, suc, ◌<◌}
use native.Mathlib.Omega.{arith}
use lib.Dec.{eqb}
use lib.ListN.{length, replicate}
use Rattle.slices.specs.Over.{over}
use Rattle.permutations.specs.Partner.{partner}
use Rattle.permutations.specs.Cycle.{meets_in}
use Rattle.darts.specs.Answers.{done}
use Rattle.darts.specs.Map.{successor, face_next, same_vertex, gone, survives, before_in, before, repeats, culprit, test_from, permutation_test, passed}
use Rattle.darts.specs.Operation.{turned, lead, whole_edge, contract, operate, number}
use Rattle.darts.specs.Kernel.{shared, judge, rising, pass_from, pass}
use Rattle.darts.specs.State.{raised, levelled}
use Rattle.darts.specs.Counts.{Counts, never_below, lowest, cycles, surviving, counts_of}
use Rattle.darts.specs.Pyramid.{dart_count, same_numbers}
use Rattle.darts.specs.Calls.{leaves, room, cleared}
use Rattle.grids.specs.Grid.{Grid, flat, sized, cells, cell, along, right_edge, up_edge, left_edge, down_edge, edges, darts_of}
use Rattle.grids.specs.Base.{round_of, rounds, has, next_or, next_in, place_of, cell_of, successor_on, base_table}
use Rattle.grids.specs.Plans.{code_at, one_code, takes_first, first_kernel, fitting_plan, begun, on_plan, plan_areas}
use Rattle.grids.specs.Worked.{codes}
use Rattle.grids.proofs.Areas.{Excepted}

pub record Row : Type 0 where
  grid : Grid
  table : List ℕ
  cells_of : List ℕ
  vertices : ℕ
  faces : ℕ

abbrev right : Row → Bool
right r =
    let g : Grid = r.grid in
    let D : ℕ = length r.table in
    let c : Counts = counts_of D r.table [] in
    sized g && (eqb (darts_of g) D && (dart_count D && (same_numbers (base_table g) r.table && (same_numbers (map (cell_of g) (rising 0 D)) r.cells_of
    && (passed (permutation_test D r.table) && (eqb c.vertices r.vertices && (eqb r.vertices (cells g) && eqb c.faces r.faces)))))))

abbrev all_right : List Row → Bool
all_right [] = true
all_right (r ∷ rs) = right r && all_right rs

-- the grid that closes
abbrev ring : ℕ → ℕ → Grid
ring W C = record { closes = true; wales = W; courses = C }

abbrev pub table : List Row
table =
    record {
      grid = flat 2 2;
      table = 4 ∷ 6 ∷ 5 ∷ 7 ∷ 0 ∷ 2 ∷ 1 ∷ 3 ∷ [];
      cells_of = 0 ∷ 1 ∷ 2 ∷ 3 ∷ 0 ∷ 2 ∷ 1 ∷ 3 ∷ [];
      vertices = 4;
      faces = 2;
    }
    -- two cells that are joined on both sides
    ∷ record { grid = ring 2 1; table = 3 ∷ 2 ∷ 1 ∷ 0 ∷ []; cells_of = 0 ∷ 1 ∷ 1 ∷ 0 ∷ []; vertices = 2; faces = 2 }
    ∷ record {
      grid = ring 2 2;
      table = 8 ∷ 2 ∷ 10 ∷ 0 ∷ 7 ∷ 11 ∷ 5 ∷ 9 ∷ 3 ∷ 4 ∷ 1 ∷ 6 ∷ [];
      cells_of = 0 ∷ 1 ∷ 1 ∷ 0 ∷ 2 ∷ 3 ∷ 3 ∷ 2 ∷ 0 ∷ 2 ∷ 1 ∷ 3 ∷ [];
      vertices = 4;
      faces = 4;
    }
    ∷ []

pub agreed : all_right table ≡ true
unfolding partner successor face_next gone survives repeats culprit test_from permutation_test rising never_below lowest cycles surviving counts_of dart_count same_numbers sized cells cell along right_edge up_edge left_edge down_edge edges round_of rounds has next_or next_in place_of cell_of successor_on base_table
agreed = refl

-- ---- plans

codes_alike : (a : ℕ) → a < cells (flat 3 1) → code_at (codes 3) a ≡ 97
unfolding cells code_at
codes_alike zero h = refl
codes_alike (suc zero) h = refl
codes_alike (suc (suc zero)) h = refl
codes_alike (suc (suc (suc a))) h = absurd (omega arith)

-- "a plan one cell wide or one cell high with a single code"
pub row_excepted : Excepted (flat 3 1) (codes 3)
row_excepted = record { flat = λ z. z; thin = inr refl; single = λ a b h k. codes_alike a h ∙ sym (codes_alike b k) }

-- two cells that are joined on both sides are no pair that one edge joins: with one code, edge 0 is contracted, and edge 1 has one vertex at both ends
pub round_taken : plan_areas (ring 2 1) (codes 2) (replicate 4 9) (replicate 2 8) (replicate 16 7)
    ≡ leaves done (record { darts = 4; operations = 1; levels = 1; ends = 1 ∷ replicate 63 0; vertices = 1; faces = 2 })
    (3 ∷ 2 ∷ 3 ∷ 2 ∷ []) (1 ∷ 8 ∷ []) (replicate 16 0)
unfolding partner meets_in successor same_vertex gone survives before_in before turned lead whole_edge contract operate number shared judge rising pass_from pass raised levelled room cleared over sized cells cell along right_edge up_edge left_edge down_edge edges round_of rounds has next_or next_in place_of cell_of successor_on base_table code_at one_code takes_first first_kernel fitting_plan begun on_plan plan_areas face_next never_below lowest cycles counts_of
round_taken = refl
