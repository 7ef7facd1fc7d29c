-- What the inner steps of a call ask and leave, from the judging to the work area cleared.
--   stored s r        == r is some numbers of vertices and faces, and those are stored
--   Judged s k t h w v a == a judges the state s and what is lent; v is the work area then: as the answer leaves it, or holding the map that was checked
--   Stood s k t h w   == it was judged and done: w holds the map, and its forest judges a coming kernel of kind k
--   Halts s r w t h   == a run r on the state s has ended in the work area w, lent a table and a history of these lengths
--   climbs s past r   == the run r is one level more, where a level is free
--   Raised s n z      == z has the figures of s with one level more, which ends after n operations
--   Sunk s z          == z has the figures of s with one level less
--   state_in s w       == the figures of s, with the numbers of the map that w holds
--   Stacked s w       == the work area holds the pyramid of these figures
--   Lowered s z w v   == v holds the level below, with the figures of z
--   Unfolded k s z w v == v holds level k, with the figures of z
use Rattle.std.specs.Prelude.{Bool, true, false, ◌&&◌, List, ◌≢◌, ◌≡◌, ℕ, ◌+◌, ◌-◌, ◌/◌, ◌≤◌, eqb, leb, length}
use Rattle.std.specs.Prelude.{Option, Some, None, Result as Answering, IfOk, IfErr}
use Rattle.std.specs.Prelude.{if◌then◌else◌}
use Rattle.darts.specs.Answers.{Answer, done, too_many_levels}
use Rattle.darts.specs.Calls.{judged, work_after}
use Rattle.darts.specs.Cases.{refusal_of}
use Rattle.darts.specs.Kernel.{Run}
use Rattle.darts.specs.State.{State, Result, counted, gives, refuses, levelled, raised}
use Rattle.darts.specs.Levels.{lowered, undo_level, undo_levels}
use Rattle.darts.specs.Pyramid.{Pyramid}
use Rattle.darts.specs.declared.Refusal.{Refusal}
use Rattle.area.specs.Area.{Room, table_in, past_in}
use Rattle.engine.specs.Checks.{Checked}
use Rattle.engine.specs.Held.{Area, Beyond}
use Rattle.engine.specs.declared.Cycles.{Cycles}
use Rattle.pyramid.specs.Values.{figures_of}

abbrev pub stored : State → Option Cycles → Bool
stored s (Some c) = eqb c.vertices s.vertices && eqb c.faces s.faces
stored s None = false

pub record Judged (s : State) (k : ℕ) (t h w v : List ℕ) (a : Answer) : Type 0 where
  pub answer : a ≡ judged s t h w
  pub refused : a.number ≢ 0 → v ≡ work_after a s.darts w
  pub checked : a.number ≡ 0 → Checked s k t h w v true

abbrev pub Stood : State → ℕ → List ℕ → List ℕ → List ℕ → Type 0
Stood s k t h w = Judged s k t h w w done

pub record Halts (s : State) (r : Answering ℕ Refusal) (w : List ℕ) (t h : ℕ) : Type 0 where
  pub room : Room s.darts w
  pub table : s.darts ≤ t
  pub history : s.darts / 2 ≤ h
  pub before : s.operations ≤ s.darts / 2
  pub after : IfOk r (λ m. m ≤ s.darts / 2)
  pub refusal : IfErr r (λ a. (7 ≤ (refusal_of a).number) × ((refusal_of a).number ≤ 11))

-- "6, 5, then the kernel's first failing edge"
abbrev pub climbs : State → List ℕ → Run → Result
climbs s past r = if leb 64 s.levels then refuses too_many_levels else levelled s past r

-- over whatever table and past
abbrev pub Raised : State → ℕ → State → Type 0
Raised s n z = (t new : List ℕ) → length new ≡ n → figures_of z ≡ figures_of (raised s t new)

abbrev pub Sunk : State → State → Type 0
Sunk s z = (t past : List ℕ) → figures_of z ≡ figures_of (lowered s t past)

abbrev pub state_in : State → List ℕ → State
state_in s w = counted s (table_in s.darts w) (past_in s.darts s.operations w)

pub record Stacked (s : State) (w : List ℕ) : Type 0 where
  pub pyramid : Pyramid (state_in s w) (table_in s.darts w) (past_in s.darts s.operations w)
  pub area : Area s.darts s.operations w

pub record Lowered (s z : State) (w v : List ℕ) : Type 0 where
  pub step : undo_level (state_in s w) (table_in s.darts w) (past_in s.darts s.operations w)
      ≡ gives (state_in z v) (table_in z.darts v) (past_in z.darts z.operations v)
  pub stacked : Stacked z v
  pub darts : z.darts ≡ s.darts
  pub levels : z.levels + 1 ≡ s.levels
  pub beyond : Beyond s.darts w v

pub record Unfolded (k : ℕ) (s z : State) (w v : List ℕ) : Type 0 where
  pub step : undo_levels (s.levels - k) (state_in s w) (table_in s.darts w) (past_in s.darts s.operations w)
      ≡ gives (state_in z v) (table_in z.darts v) (past_in z.darts z.operations v)
  pub stacked : Stacked z v
  pub darts : z.darts ≡ s.darts
  pub beyond : Beyond s.darts w v
