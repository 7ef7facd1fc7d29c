-- The map (document 01, "The map"). There are D darts, 0 to D-1; the table t has D numbers. The past is the history, the last operation first.
--   successor t d        == the dart after d round its vertex
--   face_next t d         == the dart after d round its face
--   same_vertex D t x y   == x and y are in one cycle of successors
--   same_face D t x y     == x and y are in one cycle of face-nexts
--   same_piece D t x y    == partner and successor steps join x and y
--   gone past d          == an operation of the past took the edge of d
--   survives past d      == none did
--   live D past d        == d is a dart, and it survives
--   before D t past x    == the dart before x
--   Verdict              == what the permutation test says: the table permutes the darts, or two culprits
--   permutation_test D t  == the permutation test of t
--   passed v             == no culprits
use Rattle.std.specs.Prelude.{Bool, true, false, ◌||◌, ◌&&◌, not, List, [], ◌∷◌, ℕ, zero, suc, ◌/◌, eqb, leb, ltb, get_or}
use Rattle.permutations.specs.Partner.{partner}
use Rattle.permutations.specs.Cycle.{meets_in}
use Rattle.std.specs.Prelude.{if◌then◌else◌}

-- "The table gives each dart its successor."
unfoldable pub successor : List ℕ → ℕ → ℕ
successor t d = get_or t d 0

-- "The face-next of d is the successor of its partner (003, phi)."
unfoldable pub face_next : List ℕ → ℕ → ℕ
face_next t d = successor t (partner d)

-- "Its cycles are the vertices.": D steps lead all round
unfoldable pub same_vertex : ℕ → List ℕ → ℕ → ℕ → Bool
same_vertex D t x y = meets_in (successor t) D x y

-- "Its cycles are the faces."
unfoldable pub same_face : ℕ → List ℕ → ℕ → ℕ → Bool
same_face D t x y = meets_in (face_next t) D x y

-- "Two darts are in one piece when partner and successor steps join them.": D steps lead everywhere
unfoldable pub same_piece : ℕ → List ℕ → ℕ → ℕ → Bool
same_piece zero t x y = eqb x y
same_piece (suc n) t x y = eqb x y || (same_piece n t (partner x) y || same_piece n t (successor t x) y)

-- the edge of d is in the past: a history number is 2p or 2p+1, and p is on edge p / 2
unfoldable pub gone : List ℕ → ℕ → Bool
gone [] d = false
gone (h ∷ past) d = eqb (h / 4) (d / 2) || gone past d

unfoldable pub survives : List ℕ → ℕ → Bool
survives past d = not (gone past d)

unfoldable pub live : ℕ → List ℕ → ℕ → Bool
live D past d = ltb d D && survives past d

-- the highest of the first n darts that survives and leads to x; 0 where none does
unfoldable pub before_in : ℕ → List ℕ → List ℕ → ℕ → ℕ
before_in zero t past x = 0
before_in (suc n) t past x = if survives past n && eqb (successor t n) x then n else before_in n t past x

-- "'The dart before x' is always the one surviving dart that leads to x; gone darts keep old entries and do not count."
unfoldable pub before : ℕ → List ℕ → List ℕ → ℕ → ℕ
before D t past x = before_in D t past x

-- one of the darts below d has the successor x
unfoldable pub repeats : List ℕ → ℕ → ℕ → Bool
repeats t zero x = false
repeats t (suc d) x = eqb (successor t d) x || repeats t d x

-- "The permutation test shall also say which lower dart already has that successor, or that the successor is out of range": the second culprit
-- beside d, "D where the value was out of range". No dart of a base is gone.
unfoldable pub culprit : ℕ → List ℕ → ℕ → ℕ
culprit D t d = if leb D (successor t d) then D else before_in d t [] (successor t d)

-- the table permutes the darts; or a dart keeps it from that, and the second culprit
pub data Verdict : Type 0 where
  permutes : Verdict
  culprits : ℕ → ℕ → Verdict

-- of the n darts from d on, the "lowest dart whose successor is D or more, or repeats a lower dart's" decides
unfoldable pub test_from : ℕ → List ℕ → ℕ → ℕ → Verdict
test_from D t zero d = permutes
test_from D t (suc n) d =
    if leb D (successor t d) || repeats t d (successor t d) then culprits d (culprit D t d) else test_from D t n (suc d)

-- "In a base the table is a permutation of all darts."
unfoldable pub permutation_test : ℕ → List ℕ → Verdict
permutation_test D t = test_from D t D 0

abbrev pub passed : Verdict → Bool
passed permutes = true
passed (culprits d c) = false
