-- A grid of stitch cells and its edges (document 02, request One). Wales and courses are counted from 0, courses from the lowest.
--   Grid           == so many wales and courses, and whether the last wale's right neighbour is the first
--   flat W C       == the grid that does not close
--   sized g        == its numbers are inside the limits
--   cells g        == how many cells it has; cell g x y is the place in the plan of the one in wale x of course y
--   along g        == how many edges a course has
--   right_edge, up_edge, left_edge, down_edge g x y == the edge on that side of the cell in wale x of course y, or none
--   edges g        == how many edges there are; darts_of g is how many darts
--   Beside g a b   == cell b is the right or the upper neighbour of cell a
use Rattle.std.specs.Prelude.{Bool, false, ◌&&◌, ◌||◌, not, List, [], ◌∷◌, ℕ, ◌+◌, ◌-◌, ◌*◌, ◌<◌, T, eqb, leb, ltb}
use Rattle.std.specs.Prelude.{if◌then◌else◌}

pub record Grid : Type 0 where
  pub closes : Bool
  pub wales : ℕ
  pub courses : ℕ

abbrev pub flat : ℕ → ℕ → Grid
flat W C = record { closes = false; wales = W; courses = C }

-- "1 to 128 wales by 1 to 128 courses"; where it closes, "2 to 128 wales round". "or one cell alone"
unfoldable pub sized : Grid → Bool
sized g =
    leb (if g.closes then 2 else 1) g.wales
    && (leb g.wales 128 && (leb 1 g.courses && (leb g.courses 128 && not (eqb (g.wales * g.courses) 1))))

-- "one byte a cell, lowest course first and each from the left"
unfoldable pub cells : Grid → ℕ
cells g = g.wales * g.courses

unfoldable pub cell : Grid → ℕ → ℕ → ℕ
cell g x y = y * g.wales + x

unfoldable pub along : Grid → ℕ
along g = if g.closes then g.wales else g.wales - 1

-- "an edge joins each cell to its neighbour in wale": "edges along the courses first, course by course", each from the left
unfoldable pub right_edge : Grid → ℕ → ℕ → List ℕ
right_edge g x y = if g.closes || ltb (x + 1) g.wales then (y * along g + x) ∷ [] else []

-- "and in course": "then the upright ones by their lower cells in the plan's order"
unfoldable pub up_edge : Grid → ℕ → ℕ → List ℕ
up_edge g x y = if ltb (y + 1) g.courses then (along g * g.courses + cell g x y) ∷ [] else []

-- the edge on the left is the one on the right of the left neighbour
unfoldable pub left_edge : Grid → ℕ → ℕ → List ℕ
left_edge g x y =
    if leb 1 x then right_edge g (x - 1) y else if g.closes then right_edge g (g.wales - 1) y else []

-- the edge below is the one above the lower neighbour
unfoldable pub down_edge : Grid → ℕ → ℕ → List ℕ
down_edge g x y = if leb 1 y then up_edge g x (y - 1) else []

unfoldable pub edges : Grid → ℕ
edges g = along g * g.courses + g.wales * (g.courses - 1)

abbrev pub darts_of : Grid → ℕ
darts_of g = 2 * edges g

-- "its neighbour in wale and in course"
pub data Beside (g : Grid) : ℕ → ℕ → Type 0 where
  right : (x y : ℕ) → x + 1 < g.wales → y < g.courses → Beside g (cell g x y) (cell g (x + 1) y)
  round : (y : ℕ) → T g.closes → y < g.courses → Beside g (cell g (g.wales - 1) y) (cell g 0 y)
  above : (x y : ℕ) → x < g.wales → y + 1 < g.courses → Beside g (cell g x y) (cell g x (y + 1))
