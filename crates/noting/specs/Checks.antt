-- The check of a call that is lent yarn sheets: what it answers, and what it leaves in the work area.
--   Told D n place ms w       == notes and links in w tell of n operations that merge ms, on a base with the records' places `place`
--   Holds D n b hs w          == notes, links and forest of w tell of the n operations hs on the base b
--   BaseReplayed D n w w' r   == w holds a base; r says whether each operation of its history finds two faces or two vertices at its turn
--   VertexRooted s t h R      == the roots R say which survivors of the table t and the history h are on one vertex
--   NoteDecided s w w' r      == r says whether the map that w holds, its history and the state s are a pyramid; then w' holds its notes
--   NoteChecked s t h w w' r  == the same of the table t and the history h
--   Reloads s t h w           == w is what such a check leaves of a pyramid
--   Reloaded s t h w w'       == w' is w with their map
use Rattle.std.specs.Prelude.{Bool, true, List, reverse, ◌≡◌, ℕ, ◌+◌, ◌*◌, ◌/◌, ◌≤◌, ◌<◌, T, get_or, length, drop}
use Rattle.permutations.specs.Choice.{pick}
use Rattle.permutations.specs.Labels.{Labels}
use Rattle.darts.specs.Calls.{table_of, past_of}
use Rattle.darts.specs.Map.{live}
use Rattle.darts.specs.Operation.{contraction}
use Rattle.darts.specs.Pyramid.{is_pyramid}
use Rattle.darts.specs.State.{State, counted}
use Rattle.laws.specs.Standing.{map_of, cycles_of}
use Rattle.forest.specs.Forest.{Falls}
use Rattle.area.specs.Area.{Room, table_in, past_in, forest_in}
use Rattle.area.specs.Shape.{history_in}
use Rattle.operations.specs.Trees.{rooted}
use Rattle.engine.specs.Held.{Rooted, Ready, Beyond}
use Rattle.engine.specs.Checks.{BothTried}
use Rattle.sheets.specs.Sheets.{Merge, last_into}
use Rattle.sheets.specs.Notes.{notes_in, Linked, Noted}
use Rattle.yarn.specs.Calls.{base_of}
use Rattle.yarn.specs.Places.{is_place, zone_of, merges}
use Rattle.noting.specs.Links.{came_from}

pub record Told (D n : ℕ) (place : ℕ → Bool) (ms : ℕ → Merge) (w : List ℕ) : Type 0 where
  pub notes : (t : ℕ) → t < n → notes_in D w t ≡ ms t
  pub links : (x : ℕ) → x < D → get_or w x 0 ≡ pick (place x) (last_into ms n x) D
  pub kept : (t : ℕ) → t < n → get_or w (D + t) 0 ≡ came_from D (last_into ms t) (ms t)

pub record Holds (D n : ℕ) (b hs w : List ℕ) : Type 0 where
  pub count : length hs ≡ n
  pub told : Told D n (is_place D b) (merges D b hs) w
  pub zones : (x : ℕ) → x < D → rooted D w x ≡ zone_of D b hs x
  pub linked : Linked D n w
  pub noted : Noted D 0 n w

pub record BaseReplayed (D n : ℕ) (w w' : List ℕ) (r : Bool) : Type 0 where
  pub beyond : Beyond D w w'
  -- the base with the forest that is left
  pub beside : List ℕ
  pub forest : forest_in D beside ≡ forest_in D w'
  pub tried : BothTried D n 1 w beside r
  pub holds : r ≡ true → Holds D n (table_in D w) (history_in D n w) w'

pub record NoteDecided (s : State) (w w' : List ℕ) (r : Bool) : Type 0 where
  pub answer : r ≡ is_pyramid (counted s (table_in s.darts w) (past_in s.darts s.operations w)) (table_in s.darts w) (past_in s.darts s.operations w)
  pub beyond : Beyond s.darts w w'
  pub falls : r ≡ true → Falls (forest_in s.darts w')
  pub roots : r ≡ true → Rooted s.darts s.operations 1 w (rooted s.darts w')
  pub holds : r ≡ true
      → Holds s.darts s.operations (base_of s (table_in s.darts w) (past_in s.darts s.operations w))
      (reverse (past_in s.darts s.operations w)) w'

abbrev pub VertexRooted : State → List ℕ → List ℕ → (ℕ → ℕ) → Type 0
VertexRooted s t h R = Labels (live s.darts (past_of s h)) (cycles_of contraction (map_of s.darts (table_of s t) (past_of s h))) R

pub record NoteChecked (s : State) (t h w w' : List ℕ) (r : Bool) : Type 0 where
  pub answer : r ≡ is_pyramid (counted s (table_of s t) (past_of s h)) (table_of s t) (past_of s h)
  pub beyond : Beyond s.darts w w'
  pub falls : r ≡ true → Falls (forest_in s.darts w')
  pub roots : r ≡ true → VertexRooted s t h (rooted s.darts w')
  pub holds : r ≡ true → Holds s.darts s.operations (base_of s (table_of s t) (past_of s h)) (reverse (past_of s h)) w'

pub record Reloads (s : State) (t h w : List ℕ) : Type 0 where
  pub room : Room s.darts w
  pub long : s.darts ≤ length t
  pub enough : s.darts / 2 ≤ length h
  pub pyramid : T (is_pyramid (counted s (table_of s t) (past_of s h)) (table_of s t) (past_of s h))
  pub falls : Falls (forest_in s.darts w)
  pub roots : VertexRooted s t h (rooted s.darts w)

pub record Reloaded (s : State) (t h w w' : List ℕ) : Type 0 where
  pub ready : Ready s.darts s.operations 1 w'
  pub table : table_in s.darts w' ≡ table_of s t
  pub past : past_in s.darts s.operations w' ≡ past_of s h
  pub forest : forest_in s.darts w' ≡ forest_in s.darts w
  pub notes : drop (3 * s.darts + s.darts / 2) w' ≡ drop (3 * s.darts + s.darts / 2) w
  pub beyond : Beyond s.darts w w'
