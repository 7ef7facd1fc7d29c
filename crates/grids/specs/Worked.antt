-- Plans worked by hand: what the two calls on a plan leave, refusals too, as one table under one claim.
--   Row     == one call on a plan, and all that it leaves
--   right r == the definitions give what the row says
--   table   == the rows
--   worked  == all of them are right
use Rattle.std.specs.Prelude.{Bool, true, ◌&&◌, List, [], ◌∷◌, ◌≡◌, refl, ℕ, ◌+◌, ◌*◌, ◌/◌, replicate}
use Rattle.slices.specs.Over.{over}
use Rattle.permutations.specs.Partner.{partner}
use Rattle.permutations.specs.Cycle.{meets_in}
use Rattle.darts.specs.Map.{successor, face_next, same_vertex, gone, survives, before_in, before}
use Rattle.darts.specs.Operation.{turned, lead, whole_edge, contract, operate, number}
use Rattle.darts.specs.Kernel.{shared, judge, rising, pass_from, pass}
use Rattle.darts.specs.State.{State, zeros, raised, levelled}
use Rattle.darts.specs.Counts.{never_below, lowest, cycles, counts_of}
use Rattle.darts.specs.Pyramid.{same_numbers, same_state}
use Rattle.darts.specs.Calls.{After, room, cleared}
use Rattle.darts.specs.Worked.{answers}
use Rattle.grids.specs.Grid.{flat, sized, cells, cell, along, right_edge, up_edge, left_edge, down_edge, edges}
use Rattle.grids.specs.Base.{round_of, rounds, has, next_or, next_in, place_of, cell_of, successor_on, base_table}
use Rattle.grids.specs.Plans.{code_at, one_code, takes_first, first_kernel, fitting_plan, begun, on_plan, plan_base, plan_areas}

pub data Row : Type 0 where
  -- W wales, C courses, the plan, and how many darts the slices are lent for; then the number, the state, the numbers that are written over the
  -- first ones of table and history, and how many zeros over the first ones of the work area
  base areas : ℕ → ℕ → List ℕ → ℕ → ℕ → State → List ℕ → List ℕ → ℕ → Row
  -- W wales, C courses, and how many darts the slices are lent for, with a plan of one code: the number that the first call answers
  size : ℕ → ℕ → ℕ → ℕ → Row

-- each slice is one number longer than D darts need
abbrev nines : ℕ → List ℕ
nines D = replicate (D + 1) 9

abbrev eights : ℕ → List ℕ
eights D = replicate (D / 2 + 1) 8

abbrev sevens : ℕ → List ℕ
sevens D = replicate (4 * D + 1) 7

abbrev leaves : ℕ → ℕ → State → List ℕ → List ℕ → ℕ → After → Bool
leaves D n s u g z a =
    answers n 0 a.answer
    && (same_state a.state s
    && (same_numbers a.table (over u (nines D))
    && (same_numbers a.history (over g (eights D)) && same_numbers a.work (over (replicate z 0) (sevens D)))))

abbrev pub right : Row → Bool
right (base W C plan D n s u g z) = leaves D n s u g z (plan_base (flat W C) plan (nines D) (eights D) (sevens D))
right (areas W C plan D n s u g z) = leaves D n s u g z (plan_areas (flat W C) plan (nines D) (eights D) (sevens D))
right (size W C D n) = answers n 0 (plan_base (flat W C) (replicate (W * C) 97) (nines D) (eights D) (sevens D)).answer

abbrev pub all_right : List Row → Bool
all_right [] = true
all_right (r ∷ rs) = right r && all_right rs

abbrev pub nothing : State
nothing = zeros

-- one level of so many operations
abbrev pub one : ℕ → ℕ → ℕ → ℕ → State
one D n v f = record { darts = D; operations = n; levels = 1; ends = n ∷ replicate 63 0; vertices = v; faces = f }

-- no level
abbrev pub none : ℕ → ℕ → ℕ → State
none D v f = record { darts = D; operations = 0; levels = 0; ends = replicate 64 0; vertices = v; faces = f }

-- 3 by 2 with two codes, drawn with the highest course first, as in docs/CALLS.md, and its base
--     a b b
--     a a b
abbrev pub two_codes : List ℕ
two_codes = 97 ∷ 97 ∷ 98 ∷ 97 ∷ 98 ∷ 98 ∷ []

abbrev three_by_two : List ℕ
three_by_two = 8 ∷ 2 ∷ 10 ∷ 12 ∷ 9 ∷ 11 ∷ 5 ∷ 13 ∷ 0 ∷ 4 ∷ 1 ∷ 6 ∷ 3 ∷ 7 ∷ []

-- the brief of samples/brief.plan, and its base
--     W W W W W
--     B B B B B
--     L B B B R
--     L L B R R
abbrev pub brief : List ℕ
brief =
    76 ∷ 76 ∷ 66 ∷ 82 ∷ 82 ∷ 76 ∷ 66 ∷ 66 ∷ 66 ∷ 82 ∷ 66 ∷ 66 ∷ 66 ∷ 66 ∷ 66 ∷ 87 ∷ 87 ∷ 87 ∷ 87 ∷ 87 ∷ []

abbrev brief_base : List ℕ
brief_base =
    32 ∷ 2 ∷ 34 ∷ 4 ∷ 36 ∷ 6 ∷ 38 ∷ 40 ∷ 42 ∷ 35 ∷ 44 ∷ 37 ∷ 46 ∷ 39 ∷ 48 ∷ 41 ∷ 52 ∷ 45 ∷ 54 ∷ 47 ∷ 56 ∷ 49 ∷ 58 ∷ 51 ∷ 53 ∷ 55 ∷ 25 ∷ 57
    ∷ 27 ∷ 59 ∷ 29 ∷ 61 ∷ 0 ∷ 8 ∷ 1 ∷ 10 ∷ 3 ∷ 12 ∷ 5 ∷ 14 ∷ 7 ∷ 50 ∷ 33 ∷ 16 ∷ 9 ∷ 18 ∷ 11 ∷ 20 ∷ 13 ∷ 22 ∷ 15 ∷ 60 ∷ 43 ∷ 24 ∷ 17 ∷ 26
    ∷ 19 ∷ 28 ∷ 21 ∷ 30 ∷ 23 ∷ 31 ∷ []

-- its table after the first kernel, which takes edges 0 3 5 6 8 9 10 11 12 13 14 15 16 18 20 22
abbrev brief_areas : List ℕ
brief_areas =
    32 ∷ 2 ∷ 34 ∷ 4 ∷ 39 ∷ 50 ∷ 38 ∷ 40 ∷ 42 ∷ 35 ∷ 44 ∷ 37 ∷ 46 ∷ 39 ∷ 48 ∷ 38 ∷ 52 ∷ 45 ∷ 54 ∷ 47 ∷ 56 ∷ 49 ∷ 58 ∷ 51 ∷ 53 ∷ 55 ∷ 53 ∷ 57
    ∷ 53 ∷ 59 ∷ 53 ∷ 61 ∷ 2 ∷ 8 ∷ 8 ∷ 3 ∷ 3 ∷ 39 ∷ 5 ∷ 14 ∷ 38 ∷ 50 ∷ 2 ∷ 9 ∷ 9 ∷ 47 ∷ 47 ∷ 49 ∷ 46 ∷ 51 ∷ 15 ∷ 60 ∷ 43 ∷ 55 ∷ 52 ∷ 57
    ∷ 54 ∷ 59 ∷ 56 ∷ 61 ∷ 58 ∷ 53 ∷ []

abbrev pub codes : ℕ → List ℕ
codes n = replicate n 97

abbrev pub table : List Row
table =
    -- two cells, one edge: each dart alone at its cell
    base 2 1 (97 ∷ 98 ∷ []) 2 0 (none 2 2 1) (0 ∷ 1 ∷ []) [] 8
    -- three cells upright: the middle one has the dart that goes up, then the one that goes down
    ∷ base 1 3 (97 ∷ 98 ∷ 99 ∷ []) 4 0 (none 4 3 1) (0 ∷ 2 ∷ 1 ∷ 3 ∷ []) [] 16
    ∷ base 3 2 two_codes 14 0 (none 14 6 3) three_by_two [] 56
    -- three courses: the upright edges of the lowest come first
    ∷ base 2 3 (codes 6) 14 0 (none 14 6 3) (6 ∷ 8 ∷ 10 ∷ 9 ∷ 11 ∷ 13 ∷ 0 ∷ 2 ∷ 1 ∷ 12 ∷ 7 ∷ 4 ∷ 3 ∷ 5 ∷ []) [] 56
    -- a longer plan is not looked at past its cells
    ∷ base 2 1 (97 ∷ 98 ∷ 99 ∷ []) 2 0 (none 2 2 1) (0 ∷ 1 ∷ []) [] 8
    -- 15: "one cell alone", "plan size outside the limits"; before 2
    ∷ base 1 1 (97 ∷ []) 2 15 nothing [] [] 0
    ∷ base 129 1 (codes 129) 2 15 nothing [] [] 0
    ∷ base 1 129 [] 2 15 nothing [] [] 0
    ∷ base 0 3 [] 2 15 nothing [] [] 0
    ∷ base 3 0 [] 2 15 nothing [] [] 0
    ∷ areas 1 1 (97 ∷ []) 2 15 nothing [] [] 0
    ∷ areas 129 1 (codes 129) 2 15 nothing [] [] 0
    ∷ areas 1 129 [] 2 15 nothing [] [] 0
    -- "1 to 128 wales by 1 to 128 courses": 128 are taken, and one more is not, with room for it
    ∷ size 128 1 254 0
    ∷ size 1 128 254 0
    ∷ size 129 1 256 15
    ∷ size 1 129 256 15
    -- 2: the plan, and the slices
    ∷ base 2 1 (97 ∷ []) 2 2 nothing [] [] 0
    ∷ base 1 3 (codes 3) 2 2 nothing [] [] 0
    ∷ areas 2 1 (97 ∷ []) 2 2 nothing [] [] 0
    -- 5: no edge of one code, or the one edge is a whole piece
    ∷ areas 2 1 (97 ∷ 98 ∷ []) 2 5 nothing [] [] 8
    ∷ areas 2 1 (codes 2) 2 5 nothing [] [] 8
    ∷ areas 3 2 two_codes 14 0 (one 14 4 2 3) (8 ∷ 2 ∷ 10 ∷ 5 ∷ 2 ∷ 11 ∷ 5 ∷ 13 ∷ 2 ∷ 4 ∷ 4 ∷ 3 ∷ 3 ∷ 5 ∷ []) (1 ∷ 13 ∷ 17 ∷ 25 ∷ []) 56
    -- codes that differ in one bit, the highest and the lowest, are two codes
    ∷ areas 3 1 (65 ∷ 193 ∷ 65 ∷ []) 4 5 nothing [] [] 16
    ∷ areas 3 1 (64 ∷ 65 ∷ 64 ∷ []) 4 5 nothing [] [] 16
    ∷ areas 3 1 (65 ∷ 193 ∷ 193 ∷ []) 4 0 (one 4 1 2 1) (0 ∷ 1 ∷ 1 ∷ 3 ∷ []) (5 ∷ []) 16
    ∷ areas 3 1 (64 ∷ 65 ∷ 65 ∷ []) 4 0 (one 4 1 2 1) (0 ∷ 1 ∷ 1 ∷ 3 ∷ []) (5 ∷ []) 16
    -- one code, 2 by 2: the last edge has one vertex at both ends
    ∷ areas 2 2 (codes 4) 8 0 (one 8 3 1 2) (4 ∷ 6 ∷ 5 ∷ 7 ∷ 6 ∷ 7 ∷ 7 ∷ 6 ∷ []) (1 ∷ 5 ∷ 9 ∷ []) 32
    ∷ base 5 4 brief 62 0 (none 62 20 13) brief_base [] 248
    ∷ areas 5 4 brief 62 0 (one 62 16 4 13) brief_areas (1 ∷ 13 ∷ 21 ∷ 25 ∷ 33 ∷ 37 ∷ 41 ∷ 45 ∷ 49 ∷ 53 ∷ 57 ∷ 61 ∷ 65 ∷ 73 ∷ 81 ∷ 89 ∷ []) 248
    -- one code, 1 by 3: the last edge is a whole piece and stays
    ∷ areas 1 3 (codes 3) 4 0 (one 4 1 2 1) (0 ∷ 2 ∷ 2 ∷ 3 ∷ []) (3 ∷ []) 16
    ∷ []

pub worked : all_right table ≡ true
unfolding partner meets_in successor same_vertex gone survives before_in before turned lead whole_edge contract operate number shared judge rising pass_from pass raised levelled same_numbers same_state room cleared over sized cells cell along right_edge up_edge left_edge down_edge edges round_of rounds has next_or next_in place_of cell_of successor_on base_table code_at one_code takes_first first_kernel fitting_plan begun on_plan plan_base plan_areas face_next never_below lowest cycles counts_of
worked = refl
