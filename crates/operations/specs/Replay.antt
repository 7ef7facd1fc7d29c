-- The history replayed on the forest, first operation first. k is 0 for removals, with a forest of faces, and 1 for contractions, with one of vertices.
--   rejoin k R h            == the roots R, once the operation h has joined those of its darts, if it is of kind k
--   rejoined k R hs         == the same for the operations hs, one after another
--   replayed k R hs         == each operation of kind k finds two roots at its turn
--   Numbered D n w          == the n history numbers are of darts
--   Replayed D n k w w' r   == the n operations are replayed on the forest's part: r says whether each found two roots, and then all are joined
use Rattle.std.specs.Prelude.{Bool, true, not, ◌||◌, ◌&&◌, List, [], ◌∷◌, ◌≡◌, ℕ, ◌+◌, ◌*◌, ◌/◌, ◌%◌, ◌≤◌, ◌<◌, eqb, get_or}
use Rattle.permutations.specs.Partner.{partner}
use Rattle.std.specs.Prelude.{if◌then◌else◌}
use Rattle.forest.specs.Forest.{Falls}
use Rattle.slices.specs.Part.{part}
use Rattle.area.specs.Area.{forest_in}
use Rattle.operations.specs.Trees.{Outside, rooted, merged}

unfoldable pub rejoin : ℕ → (ℕ → ℕ) → ℕ → ℕ → ℕ
rejoin k R h = if eqb (h % 2) k then merged R (h / 2) (partner (h / 2)) else R

unfoldable pub rejoined : ℕ → (ℕ → ℕ) → List ℕ → ℕ → ℕ
rejoined k R [] = R
rejoined k R (h ∷ hs) = rejoined k (rejoin k R h) hs

unfoldable pub replayed : ℕ → (ℕ → ℕ) → List ℕ → Bool
replayed k R [] = true
replayed k R (h ∷ hs) =
    (not (eqb (h % 2) k) || not (eqb (R (h / 2)) (R (partner (h / 2)))))
    && replayed k (rejoin k R h) hs

pub record Numbered (D n : ℕ) (w : List ℕ) : Type 0 where
  pub fits : n ≤ D
  pub each : (i : ℕ) → i < n → get_or w (3 * D + i) 0 < 2 * D

pub record Replayed (D n k : ℕ) (w w' : List ℕ) (r : Bool) : Type 0 where
  pub outside : Outside D w w'
  pub falls : Falls (forest_in D w')
  pub answer : r ≡ replayed k (rooted D w) (part (3 * D) (3 * D + n) w)
  pub roots : r ≡ true → rooted D w' ≡ rejoined k (rooted D w) (part (3 * D) (3 * D + n) w)
