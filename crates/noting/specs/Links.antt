-- Notes and links written in the work area of D darts: while the history is replayed on the vertices of the base, the map's part and the one of the darts
-- before hold links, and the free half of the history's part holds notes.
--   came_from D f m        == what the record came from that an operation kept which merges m: f of its place, D where it kept none
--   recorded D t m w      == w with the note and the links of operation t, which merges m
--   Marked D w w'         == w' is w, with 0 at each dart that is its own parent in the forest's part, and D at the other darts
--   Starts D w            == nothing came into a record yet: 0 at each dart that is its own root, D at the others
--   Contracted D t e w w' r == the contraction of edge e, operation t: r says whether its ends are two vertices; then they are joined and it is recorded
--   Stepped D t h w w' r  == the same of operation t, which has the history number h
--   Replayed D n w w' r   == all n operations of w's history: r says whether each contraction found two vertices; then all are joined and recorded
use Rattle.std.specs.Prelude.{Bool, true, not, List, [], ◌∷◌, ◌≡◌, ℕ, ◌+◌, ◌*◌, ◌/◌, ◌<◌, eqb, get_or, set, length, drop}
use Rattle.permutations.specs.Choice.{pick}
use Rattle.darts.specs.Operation.{contraction, kind_of, edge_of}
use Rattle.forest.specs.Forest.{Falls}
use Rattle.area.specs.Area.{forest_in}
use Rattle.area.specs.Shape.{history_in}
use Rattle.operations.specs.Replay.{replayed}
use Rattle.operations.specs.Trees.{Outside, rooted}
use Rattle.sheets.specs.Sheets.{Merge, none, into, last_into}
use Rattle.sheets.specs.Notes.{note_of}
use Rattle.yarn.specs.Places.{joins, zoned, places_after, merge_by, merges_of}

unfoldable pub came_from : ℕ → (ℕ → ℕ) → Merge → ℕ
came_from D f none = D
came_from D f (into low high) = f low

unfoldable pub recorded : ℕ → ℕ → Merge → List ℕ → List ℕ
recorded D t none w = set (set w (3 * D + D / 2 + t) (note_of none)) (D + t) D
recorded D t (into low high) w =
    let v : List ℕ = set w (3 * D + D / 2 + t) (note_of (into low high)) in
    set (set v (D + t) (get_or v low 0)) low (t + 1)

pub record Marked (D : ℕ) (w w' : List ℕ) : Type 0 where
  pub size : length w' ≡ length w
  pub rest : drop D w' ≡ drop D w
  pub each : (x : ℕ) → x < D → get_or w' x 0 ≡ pick (eqb (get_or w (2 * D + x) 0) x) 0 D

pub record Starts (D : ℕ) (w : List ℕ) : Type 0 where
  pub each : (x : ℕ) → x < D → get_or w x 0 ≡ pick (eqb (rooted D w x) x) 0 D

pub record Contracted (D t e : ℕ) (w w' : List ℕ) (r : Bool) : Type 0 where
  pub answer : r ≡ not (eqb (rooted D w (2 * e)) (rooted D w (2 * e + 1)))
  -- the work area with the two vertices joined
  pub joined : List ℕ
  pub outside : Outside D w joined
  pub falls : Falls (forest_in D joined)
  pub roots : rooted D joined ≡ joins (rooted D w) e
  pub left : w' ≡ pick r (recorded D t (merge_by contraction (rooted D w) e) joined) joined

pub record Stepped (D t h : ℕ) (w w' : List ℕ) (r : Bool) : Type 0 where
  pub answer : r ≡ replayed 1 (rooted D w) (h ∷ [])
  pub joined : List ℕ
  pub outside : Outside D w joined
  pub falls : Falls (forest_in D joined)
  pub roots : rooted D joined ≡ zoned (kind_of h) (rooted D w) (edge_of h)
  pub left : w' ≡ pick r (recorded D t (merge_by (kind_of h) (rooted D w) (edge_of h)) joined) joined

pub record Replayed (D n : ℕ) (w w' : List ℕ) (r : Bool) : Type 0 where
  pub size : length w' ≡ length w
  pub rest : drop (4 * D) w' ≡ drop (4 * D) w
  pub falls : Falls (forest_in D w')
  pub answer : r ≡ replayed 1 (rooted D w) (history_in D n w)
  pub roots : r ≡ true → rooted D w' ≡ places_after (rooted D w) (history_in D n w)
  pub notes : r ≡ true → (t : ℕ) → t < n → get_or w' (3 * D + D / 2 + t) 0 ≡ note_of (merges_of (rooted D w) (history_in D n w) t)
  pub links : r ≡ true → (x : ℕ) → x < D → get_or w' x 0 ≡ pick (eqb (rooted D w x) x) (last_into (merges_of (rooted D w) (history_in D n w)) n x) D
  pub kept : r ≡ true → (t : ℕ) → t < n
      → get_or w' (D + t) 0 ≡ came_from D (last_into (merges_of (rooted D w) (history_in D n w)) t) (merges_of (rooted D w) (history_in D n w) t)
