-- Is it a pyramid? What the check answers, and what it leaves in the work area. A kind k is 0 for removals and 1 for contractions; `coming` is the
-- kind of the kernel that is coming, 2 where none is.
--   coming_of c                   == that number
--   Grown D n k L w w'            == the forest of w' has the labels L, merged along the n operations of kind k in w
--   KindTried D n k coming w w' r == w holds a base; r says whether each operation of kind k has two labels of the base at its turn
--   BothTried D n coming w w' r   == r says so of both kinds, and the forest has the labels of the coming kind
--   Decided s coming w w' r       == r says whether the map that w holds, its history and the state s are a pyramid; then the forest of w' judges
--                                    the coming kernel on that map
--   Checked s coming t h w w' r   == the same of the table t and the history h, and then w' holds their map
--   CheckedLaid s w w' r          == the same of a table and a history that stand in w; the history still stands in w', the table need not
use Rattle.std.specs.Prelude.{Bool, true, List, ◌↔◌, ◌≡◌, ℕ, ◌*◌, ◌≤◌, T, length, drop, Option, Some, None}
use Rattle.darts.specs.Calls.{table_of, past_of}
use Rattle.darts.specs.Kinds.{bit}
use Rattle.darts.specs.declared.Kind.{Kind}
use Rattle.darts.specs.Pyramid.{is_pyramid}
use Rattle.darts.specs.State.{State, counted}
use Rattle.forest.specs.Forest.{Falls}
use Rattle.area.specs.Area.{table_in, past_in, forest_in}
use Rattle.area.specs.Shape.{history_in}
use Rattle.operations.specs.Replay.{rejoined, replayed}
use Rattle.operations.specs.Trees.{Outside, rooted}
use Rattle.engine.specs.Held.{Area, Rooted, Ready, Beyond}

abbrev pub coming_of : Option Kind → ℕ
coming_of (Some k) = bit k
coming_of None = 2

pub record Grown (D n k : ℕ) (L : ℕ → ℕ) (w w' : List ℕ) : Type 0 where
  pub falls : Falls (forest_in D w')
  pub roots : rooted D w' ≡ rejoined k L (history_in D n w)

pub record KindTried (D n k coming : ℕ) (w w' : List ℕ) (r : Bool) : Type 0 where
  pub outside : Outside D w w'
  pub label : ℕ → ℕ
  pub right : Rooted D 0 k w label
  pub answer : r ≡ replayed k label (history_in D n w)
  pub grown : r ≡ true → k ≡ coming → Grown D n k label w w'

pub record BothTried (D n coming : ℕ) (w w' : List ℕ) (r : Bool) : Type 0 where
  pub outside : Outside D w w'
  pub label : ℕ → ℕ → ℕ
  pub right : (k : ℕ) → k ≤ 1 → Rooted D 0 k w (label k)
  pub answer : T r ↔ ((k : ℕ) → k ≤ 1 → T (replayed k (label k) (history_in D n w)))
  pub grown : r ≡ true → coming ≤ 1 → Grown D n coming (label coming) w w'

pub record Decided (s : State) (coming : ℕ) (w w' : List ℕ) (r : Bool) : Type 0 where
  pub answer : r ≡ is_pyramid (counted s (table_in s.darts w) (past_in s.darts s.operations w)) (table_in s.darts w) (past_in s.darts s.operations w)
  pub size : length w' ≡ length w
  pub rest : drop (3 * s.darts) w' ≡ drop (3 * s.darts) w
  pub falls : r ≡ true → coming ≤ 1 → Falls (forest_in s.darts w')
  pub roots : r ≡ true → coming ≤ 1 → Rooted s.darts s.operations coming w (rooted s.darts w')
  -- of a base nothing is taken back
  pub kept : r ≡ true → s.operations ≡ 0 → Outside s.darts w w'

pub record Checked (s : State) (coming : ℕ) (t h w w' : List ℕ) (r : Bool) : Type 0 where
  pub answer : r ≡ is_pyramid (counted s (table_of s t) (past_of s h)) (table_of s t) (past_of s h)
  pub beyond : Beyond s.darts w w'
  pub area : r ≡ true → Area s.darts s.operations w'
  pub table : r ≡ true → table_in s.darts w' ≡ table_of s t
  pub past : r ≡ true → past_in s.darts s.operations w' ≡ past_of s h
  pub ready : r ≡ true → coming ≤ 1 → Ready s.darts s.operations coming w'

pub record CheckedLaid (s : State) (w w' : List ℕ) (r : Bool) : Type 0 where
  pub answer : r ≡ is_pyramid (counted s (table_in s.darts w) (past_in s.darts s.operations w)) (table_in s.darts w) (past_in s.darts s.operations w)
  pub beyond : Beyond s.darts w w'
  pub history : history_in s.darts s.operations w' ≡ history_in s.darts s.operations w
