-- The longest plans, as rows of the same form as in `Worked`: "1 to 128 wales by 1 to 128 courses".
--   row_of n last == the base of a row of cells, along a course or upright: n of them, and the first, and what the last ones have
--   last_alike    == 128 codes, of which the last two are the same
--   table        == the rows
--   longest      == all of them are right
use mathlib.Core.Bool.{true}
use mathlib.Core.List.{List, [], ◌∷◌}
use mathlib.Core.Path.{◌≡◌, refl}
use Prim.Native.Nat.{ℕ, zero, suc, ◌+◌}
use Rattle.slices.specs.Over.{over}
use Rattle.permutations.specs.Partner.{partner}
use Rattle.permutations.specs.Cycle.{meets_in}
use Rattle.darts.specs.Map.{successor, face_next, same_vertex, gone, survives, before_in, before}
use Rattle.darts.specs.Operation.{turned, lead, whole_edge, contract, operate, number}
use Rattle.darts.specs.Kernel.{shared, judge, rising, pass_from, pass}
use Rattle.darts.specs.State.{raised, levelled}
use Rattle.darts.specs.Counts.{never_below, lowest, cycles, counts_of}
use Rattle.darts.specs.Pyramid.{same_numbers, same_state}
use Rattle.darts.specs.Calls.{room, cleared}
use Rattle.grids.specs.Grid.{sized, cells, cell, along, right_edge, up_edge, left_edge, down_edge, edges}
use Rattle.grids.specs.Base.{round_of, rounds, has, next_or, next_in, place_of, cell_of, successor_on, base_table}
use Rattle.grids.specs.Plans.{code_at, one_code, takes_first, first_kernel, fitting_plan, begun, on_plan, plan_base, plan_areas}
use Rattle.grids.specs.Worked.{Row, base, areas, all_right, nothing, none, one, codes}

-- the first cell has dart 0, each of the next n ones an odd dart and the even one above it, and the last cell an odd dart
abbrev row_from : ℕ → ℕ → List ℕ → List ℕ
row_from d zero last = last
row_from d (suc n) last = (d + 1) ∷ d ∷ row_from (d + 2) n last

abbrev row_of : ℕ → List ℕ → List ℕ
row_of n last = 0 ∷ row_from 1 n last

-- two codes in turn
abbrev in_turn : ℕ → List ℕ → List ℕ
in_turn zero last = last
in_turn (suc n) last = 97 ∷ 98 ∷ in_turn n last

-- 128 cells, of which the last two have one code
abbrev last_alike : List ℕ
last_alike = in_turn 63 (97 ∷ 97 ∷ [])

abbrev pub table : List Row
table =
    base 128 1 (codes 128) 254 0 (none 254 128 1) (row_of 126 (253 ∷ [])) [] 1016
    ∷ base 1 128 (codes 128) 254 0 (none 254 128 1) (row_of 126 (253 ∷ [])) [] 1016
    -- the last edge is taken
    ∷ areas 128 1 last_alike 254 0 (one 254 1 127 1) (row_of 125 (251 ∷ 251 ∷ 253 ∷ [])) (505 ∷ []) 1016
    ∷ areas 1 128 last_alike 254 0 (one 254 1 127 1) (row_of 125 (251 ∷ 251 ∷ 253 ∷ [])) (505 ∷ []) 1016
    -- "15, plan size outside the limits": one more, with room for it
    ∷ base 129 1 (codes 129) 256 15 nothing [] [] 0
    ∷ base 1 129 (codes 129) 256 15 nothing [] [] 0
    ∷ areas 129 1 (codes 129) 256 15 nothing [] [] 0
    ∷ areas 1 129 (codes 129) 256 15 nothing [] [] 0
    ∷ []

pub longest : all_right table ≡ true
unfolding partner meets_in successor same_vertex gone survives before_in before turned lead whole_edge contract operate number shared judge rising pass_from pass raised levelled same_numbers same_state room cleared over sized cells cell along right_edge up_edge left_edge down_edge edges round_of rounds has next_or next_in place_of cell_of successor_on base_table code_at one_code takes_first first_kernel fitting_plan begun on_plan plan_base plan_areas face_next never_below lowest cycles counts_of
longest = refl
