-- The work area of D darts: four parts of D numbers each.
--   map      0 to D      the successor of each dart
--   before   D to 2D     the dart before each survivor; D for a dart that is gone, D + 1 while it is not known
--   forest   2D to 3D    a union-find, of vertices while contractions are judged and of faces while removals are
--   history  3D to 4D    the history numbers
--
--   prev D w x        == the dart before x
--   there D w x       == x survives
--   stamp D w i       == the history number at place i
--   table_in D w       == the table that the map's part holds
--   past_in D n w      == the past of n operations, the last one first
--   forest_in D w      == the forest's part
--   around k w x      == the dart after x round its vertex (k = 1, for contractions) or round its face (k = 0, for removals)
--   Room D w          == D is a number of darts, and the four parts fit
--   bound D w a x     == a leads to x
--   Tried             == a test's answer, and the work area after it
--   tried_if b w v     == the answer b, and v where it is yes, w where it is no
use Rattle.std.specs.Prelude.{Bool, true, false, List, reverse, ◌≡◌, ℕ, ◌+◌, ◌*◌, ◌%◌, ◌≤◌, ◌<◌, eqb, ltb, get_or, length, set, take}
use Rattle.permutations.specs.Partner.{partner}
use Rattle.std.specs.Prelude.{if◌then◌else◌}
use Rattle.darts.specs.Map.{successor}
use Rattle.slices.specs.Part.{part}

unfoldable pub prev : ℕ → List ℕ → ℕ → ℕ
prev D w x = get_or w (D + x) 0

unfoldable pub there : ℕ → List ℕ → ℕ → Bool
there D w x = ltb (prev D w x) D

unfoldable pub stamp : ℕ → List ℕ → ℕ → ℕ
stamp D w i = get_or w (3 * D + i) 0

abbrev pub table_in : ℕ → List ℕ → List ℕ
table_in D w = take D w

abbrev pub past_in : ℕ → ℕ → List ℕ → List ℕ
past_in D n w = reverse (part (3 * D) (3 * D + n) w)

abbrev pub forest_in : ℕ → List ℕ → List ℕ
forest_in D w = part (2 * D) (3 * D) w

unfoldable pub around : ℕ → List ℕ → ℕ → ℕ
around k w x = if eqb k 0 then successor w (partner x) else successor w x

pub record Room (D : ℕ) (w : List ℕ) : Type 0 where
  pub even : D % 2 ≡ 0
  pub some : 0 < D
  pub small : D ≤ 65536
  pub fits : 4 * D ≤ length w

-- a leads to x, and a is the dart before x
unfoldable pub bound : ℕ → List ℕ → ℕ → ℕ → List ℕ
bound D w a x = set (set w a x) (D + x) a

pub record Tried : Type 0 where
  pub fine : Bool
  pub work : List ℕ

abbrev pub tried : Bool → List ℕ → Tried
tried b w = record { fine = b; work = w }

abbrev pub tried_if : Bool → List ℕ → List ℕ → Tried
tried_if b w v = if b then tried true v else tried false w
