-- The map that a table holds.
--   map_of D t past    == the map of the survivors: where a dart is gone, nothing moves
--   Standing D t past == the table t of D numbers holds such a map; every entry is a dart, also those of gone darts
--   cycles_of k m      == the permutation whose cycles operations of kind k join: contractions join vertices, removals faces
use Rattle.std.specs.Prelude.{List, ◌≡◌, ℕ, ◌%◌, ◌<◌, length}
use Rattle.permutations.specs.Choice.{pick}
use Rattle.permutations.specs.Map.{Map, Good, face}
use Rattle.darts.specs.Map.{live, successor}
use Rattle.darts.specs.Operation.{Kind, contraction, removal}

abbrev pub map_of : ℕ → List ℕ → List ℕ → Map
map_of D t past = record { live = live D past; next = λ x. pick (live D past x) (successor t x) x }

pub record Standing (D : ℕ) (t past : List ℕ) : Type 0 where
  pub even : D % 2 ≡ 0
  pub size : length t ≡ D
  pub inside : (x : ℕ) → x < D → successor t x < D
  pub good : Good D (map_of D t past)

abbrev pub cycles_of : Kind → Map → ℕ → ℕ
cycles_of contraction m = m.next
cycles_of removal m = face m
