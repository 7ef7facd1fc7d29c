-- The stored numbers put right once a call's work is done.
--   Settles s m h   == the numbers that s stores can be moved to m operations, along the history h
--   Settled s o h r == r is the outcome o, with the numbers of s moved along the history h
use Rattle.std.specs.Prelude.{List, ◌≡◌, ℕ, ◌-◌, ◌≤◌, length}
use Rattle.slices.specs.Part.{part}
use Rattle.darts.specs.Moves.{contractions_in, moved_to}
use Rattle.darts.specs.State.{State}
use Rattle.pyramid.specs.declared.Outcome.{Outcome}
use Rattle.pyramid.specs.Values.{state_of}

pub record Settles (s : State) (m : ℕ) (h : List ℕ) : Type 0 where
  pub before : s.operations ≤ length h
  pub after : m ≤ length h
  pub vertices : contractions_in (part s.operations m h) ≤ s.vertices
  pub faces : m - s.operations - contractions_in (part s.operations m h) ≤ s.faces
  pub few : s.operations ≤ 65536
  pub few_vertices : s.vertices ≤ 65536
  pub few_faces : s.faces ≤ 65536

pub record Settled (s : State) (o : Outcome) (h : List ℕ) (r : Outcome) : Type 0 where
  pub answer : r.answer ≡ o.answer
  pub state : state_of r.state ≡ moved_to s (state_of o.state) h
