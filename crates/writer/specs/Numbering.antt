-- The file's numbers in the work area: the forest's part lists the darts in the file's order, and the part of the dart before gives way to the
-- number of each dart.
--   Dense D w         == the three parts before the history hold numbers of darts
--   Placed D w w'     == w' is w, with the place in the list of each dart that is listed
--   renamed D w x     == the number of the successor of x
--   entries_in D w     == the successors of the listed darts, by their numbers
--   Numbered D n w w' == w' is w, with the file's table for the entries; the history, and what stands beyond, are kept
use Rattle.std.specs.Prelude.{List, map, ◌≡◌, ℕ, ◌+◌, ◌*◌, ◌<◌, length, get_or, take, drop}
use Rattle.darts.specs.File.{place_in, file_table}
use Rattle.area.specs.Area.{Room, table_in, past_in, forest_in}
use Rattle.area.specs.Shape.{history_in}
use Rattle.engine.specs.Held.{Beyond}

pub record Dense (D : ℕ) (w : List ℕ) : Type 0 where
  pub room : Room D w
  pub each : (i : ℕ) → i < 3 * D → get_or w i 0 < D

pub record Placed (D : ℕ) (w w' : List ℕ) : Type 0 where
  pub size : length w' ≡ length w
  pub table : take D w' ≡ take D w
  pub rest : drop (2 * D) w' ≡ drop (2 * D) w
  pub places : (x : ℕ) → place_in (forest_in D w) x < D → get_or w' (D + x) 0 ≡ place_in (forest_in D w) x

unfoldable pub renamed : ℕ → List ℕ → ℕ → ℕ
renamed D w x = get_or w (D + get_or w x 0) 0

unfoldable pub entries_in : ℕ → List ℕ → List ℕ
entries_in D w = map (renamed D w) (forest_in D w)

pub record Numbered (D n : ℕ) (w w' : List ℕ) : Type 0 where
  pub dense : Dense D w'
  pub entries : entries_in D w' ≡ file_table D (table_in D w) (past_in D n w)
  pub history : history_in D n w' ≡ history_in D n w
  pub beyond : Beyond D w w'
