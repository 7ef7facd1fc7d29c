-- The base of a grid: the darts round each cell, and the table that they make (document 02, request One).
--   round_of g x y   == the darts round the cell in wale x of course y, in their order
--   rounds g        == the rounds of all cells, in the plan's order
--   has d r         == d is one of r
--   next_in d r      == the one after d in r, the first after the last
--   cell_of g d      == the cell where dart d stands: the first whose round has it
--   base_table g     == the table
use Rattle.std.specs.Prelude.{Bool, false, ◌||◌, List, [], ◌∷◌, ◌++◌, map, ℕ, suc, ◌+◌, ◌*◌, ◌/◌, ◌%◌, eqb, get_or}
use Rattle.std.specs.Prelude.{if◌then◌else◌}
use Rattle.darts.specs.Kernel.{rising}
use Rattle.grids.specs.Grid.{Grid, cells, right_edge, up_edge, left_edge, down_edge, darts_of}

abbrev pub even_dart : ℕ → ℕ
even_dart e = 2 * e

abbrev pub odd_dart : ℕ → ℕ
odd_dart e = 2 * e + 1

-- "Round a cell the successor goes right, up, left, down, skipping what is missing." "the even dart at the left or lower cell"
unfoldable pub round_of : Grid → ℕ → ℕ → List ℕ
round_of g x y =
    map even_dart (right_edge g x y) ++ (map even_dart (up_edge g x y) ++ (map odd_dart (left_edge g x y) ++ map odd_dart (down_edge g x y)))

unfoldable pub rounds : Grid → List (List ℕ)
rounds g = map (λ c. round_of g (c % g.wales) (c / g.wales)) (rising 0 (cells g))

unfoldable pub has : ℕ → List ℕ → Bool
has d [] = false
has d (x ∷ r) = eqb x d || has d r

-- the one after d, where something comes after it, and else the first
unfoldable pub next_or : ℕ → ℕ → List ℕ → ℕ
next_or first d [] = first
next_or first d (x ∷ []) = first
next_or first d (x ∷ (y ∷ r)) = if eqb x d then y else next_or first d (y ∷ r)

unfoldable pub next_in : ℕ → List ℕ → ℕ
next_in d r = next_or (get_or r 0 0) d r

unfoldable pub place_of : ℕ → List (List ℕ) → ℕ
place_of d [] = 0
place_of d (r ∷ rs) = if has d r then 0 else suc (place_of d rs)

unfoldable pub cell_of : Grid → ℕ → ℕ
cell_of g d = place_of d (rounds g)

unfoldable pub successor_on : Grid → ℕ → ℕ
successor_on g d = next_in d (round_of g (cell_of g d % g.wales) (cell_of g d / g.wales))

unfoldable pub base_table : Grid → List ℕ
base_table g = map (successor_on g) (rising 0 (darts_of g))
