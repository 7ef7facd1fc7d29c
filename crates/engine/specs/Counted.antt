-- Vertices and faces counted in the work area.
--   CyclesAre D t past v f == v and f are the numbers of vertices and faces of the table t with this past
--   cycles_in r           == how many trees there were, whether or not each operation may be done
--   FindsCycles D t past r == so are those that r found, where it is a pyramid
--   TestsCycles D t r      == so are those of the base t, where it passes the test
--   BaseCounted D t w v r  == r is what the test says of the table t; where it is passed, v holds t, of which nothing is gone, and labels each dart with the
--                             lowest one of its vertex
--   Takes a n w b          == of these vertices and faces the n operations from place a on in w can have taken theirs away
--   Taken a n w b r        == r is b less what they took
use Rattle.std.specs.Prelude.{List, [], ◌≡◌, ℕ, ◌+◌, ◌-◌, ◌≤◌, Option, Result, Ok, Err, IfSome, IfOk, IsOk, length, take}
use Rattle.slices.specs.Part.{part}
use Rattle.darts.specs.Counts.{counts_of}
use Rattle.darts.specs.Map.{permutation_test}
use Rattle.darts.specs.Moves.{contractions_in}
use Rattle.area.specs.Area.{table_in}
use Rattle.area.specs.Verdicts.{verdict_of}
use Rattle.area.specs.declared.Culprits.{Culprits}
use Rattle.operations.specs.Cycles.{Labelled}
use Rattle.engine.specs.Held.{Area, Beyond}
use Rattle.engine.specs.declared.Cycles.{Cycles}

pub record CyclesAre (D : ℕ) (t past : List ℕ) (v f : ℕ) : Type 0 where
  pub vertices : v ≡ (counts_of D t past).vertices
  pub faces : f ≡ (counts_of D t past).faces
  pub few_vertices : v ≤ D
  pub few_faces : f ≤ D

abbrev pub cycles_in : Result ℕ ℕ → ℕ
cycles_in (Ok c) = c
cycles_in (Err c) = c

abbrev pub FindsCycles : ℕ → List ℕ → List ℕ → Option Cycles → Type 0
FindsCycles D t past r = IfSome r (λ f. CyclesAre D t past f.vertices f.faces)

abbrev pub TestsCycles : ℕ → List ℕ → Result Cycles Culprits → Type 0
TestsCycles D t r = IfOk r (λ f. CyclesAre D (take D t) [] f.vertices f.faces)

pub record BaseCounted (D : ℕ) (t w v : List ℕ) (r : Result Cycles Culprits) : Type 0 where
  pub verdict : verdict_of r ≡ permutation_test D t
  pub beyond : Beyond D w v
  pub area : IsOk r → Area D 0 v
  pub table : IsOk r → table_in D v ≡ take D t
  pub vertices : IsOk r → Labelled D 1 v v

pub record Takes (a n : ℕ) (w : List ℕ) (b : Cycles) : Type 0 where
  pub fits : a + n ≤ length w
  pub few : contractions_in (part a (a + n) w) ≤ n
  pub vertices : contractions_in (part a (a + n) w) ≤ b.vertices
  pub faces : n - contractions_in (part a (a + n) w) ≤ b.faces

pub record Taken (a n : ℕ) (w : List ℕ) (b r : Cycles) : Type 0 where
  pub vertices : r.vertices ≡ b.vertices - contractions_in (part a (a + n) w)
  pub faces : r.faces ≡ b.faces - (n - contractions_in (part a (a + n) w))
