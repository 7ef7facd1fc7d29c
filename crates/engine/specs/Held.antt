-- What the work area holds while a call goes on.
--   Area D n w      == the table and the past of n operations stand in w, with the dart before each survivor
--   map_in D n w     == the map of its survivors
--   Rooted D n k w R == the roots R say which survivors are on one vertex (k = 1) or one face (k = 0)
--   Ready D n k w   == an area whose forest judges operations of kind k
--   Beyond D w v    == v has w's length, and w's numbers from 4D on
use Rattle.std.specs.Prelude.{List, ◌≡◌, ℕ, ◌*◌, ◌/◌, ◌≤◌, ◌<◌, T, length, drop}
use Rattle.permutations.specs.Map.{Map}
use Rattle.permutations.specs.Labels.{Labels}
use Rattle.darts.specs.Map.{live, before}
use Rattle.darts.specs.Operation.{kind_of}
use Rattle.darts.specs.Tests.{numbered}
use Rattle.laws.specs.Standing.{Standing, map_of}
use Rattle.laws.specs.Standing.{cycles_of}
use Rattle.forest.specs.Forest.{Falls}
use Rattle.area.specs.Area.{prev, table_in, past_in, forest_in, Room}
use Rattle.operations.specs.Trees.{rooted}

pub record Area (D n : ℕ) (w : List ℕ) : Type 0 where
  pub room : Room D w
  pub few : n ≤ D / 2
  pub numbers : T (numbered D (past_in D n w))
  pub stands : Standing D (table_in D w) (past_in D n w)
  pub known : (x : ℕ) → T (live D (past_in D n w) x) → prev D w x ≡ before D (table_in D w) (past_in D n w) x
  pub gones : (x : ℕ) → x < D → ¬ T (live D (past_in D n w) x) → D ≤ prev D w x

abbrev pub map_in : ℕ → ℕ → List ℕ → Map
map_in D n w = map_of D (table_in D w) (past_in D n w)

abbrev pub Rooted : ℕ → ℕ → ℕ → List ℕ → (ℕ → ℕ) → Type 0
Rooted D n k w R = Labels (live D (past_in D n w)) (cycles_of (kind_of k) (map_in D n w)) R

pub record Ready (D n k : ℕ) (w : List ℕ) : Type 0 where
  pub kind : k ≤ 1
  pub area : Area D n w
  pub falls : Falls (forest_in D w)
  pub roots : Rooted D n k w (rooted D w)

pub record Beyond (D : ℕ) (w v : List ℕ) : Type 0 where
  pub size : length v ≡ length w
  pub rest : drop (4 * D) v ≡ drop (4 * D) w
