-- Where each edge ends (document 02, request Four): "for each edge, the level and kind of its end". An end is one number, 2L for an edge removed at
-- level L, 2L+1 for one contracted there, as history numbers are 2p and 2p+1; 0 and 1 mean that the edge survives.
--   level_of v          == the level of the end v; its kind is kind_of v, as a history number's
--   end_of ends d       == the end of the edge of dart d
--   ends_by k v         == an edge whose end is v is gone by level k
--   gone_by k ends d    == d is gone by level k
--   done_by k ends      == the operations done by level k: as many as edges are gone by then
--   top ends           == the highest level among the ends
--   first_at L ends     == the first end of level L; 0 where there is none
--   in_use ends n       == levels 1 to n are all in use
--   one_kind ends vs    == each of the ends vs that has a level has the kind of its level
--   shaped ends        == the levels are in the form of a pyramid's
--   ending_from k e ends == the edges that end by kind k, by rising number; the first end is that of edge e
--   ending k ends      == the same from edge 0 on
use Rattle.std.specs.Prelude.{Bool, true, ◌&&◌, ◌||◌, List, [], ◌∷◌, ℕ, zero, suc, ◌/◌, eqb, leb, ltb, get_or}
use Rattle.std.specs.Prelude.{if◌then◌else◌}
use Rattle.darts.specs.Operation.{Kind, kind_of}
use Rattle.darts.specs.Tests.{same_kind}

unfoldable pub level_of : ℕ → ℕ
level_of v = v / 2

-- "The ends are lent as D/2 places"
unfoldable pub end_of : List ℕ → ℕ → ℕ
end_of ends d = get_or ends (d / 2) 0

-- "level 0 meaning that the edge survives (its kind is not looked at)"
unfoldable pub ends_by : ℕ → ℕ → Bool
ends_by k v = leb 1 (level_of v) && leb (level_of v) k

-- "gone by level k"
unfoldable pub gone_by : ℕ → List ℕ → ℕ → Bool
gone_by k ends d = ends_by k (end_of ends d)

-- "the operations done by level k": each takes one edge
unfoldable pub done_by : ℕ → List ℕ → ℕ
done_by k [] = 0
done_by k (v ∷ ends) = if ends_by k v then suc (done_by k ends) else done_by k ends

-- "the top is the highest level there"
unfoldable pub top : List ℕ → ℕ
top [] = 0
top (v ∷ ends) = if ltb (top ends) (level_of v) then level_of v else top ends

unfoldable pub first_at : ℕ → List ℕ → ℕ
first_at L [] = 0
first_at L (v ∷ ends) = if eqb (level_of v) L then v else first_at L ends

-- "It adds one level.": a kernel does, and an empty one is refused, so that no level lacks an edge
unfoldable pub in_use : List ℕ → ℕ → Bool
in_use ends zero = true
in_use ends (suc n) = leb 1 (first_at (suc n) ends) && in_use ends n

-- "A kernel is a list of edges of one kind": the ends vs have the kind of the first end of their level
unfoldable pub one_kind : List ℕ → List ℕ → Bool
one_kind ends [] = true
one_kind ends (v ∷ vs) = (eqb (level_of v) 0 || eqb v (first_at (level_of v) ends)) && one_kind ends vs

-- "There are at most 64 kernels over the base."
unfoldable pub shaped : List ℕ → Bool
shaped ends = leb (top ends) 64 && (in_use ends (top ends) && one_kind ends ends)

unfoldable pub ending_from : Kind → ℕ → List ℕ → List ℕ
ending_from k e [] = []
ending_from k e (v ∷ ends) =
    if leb 1 (level_of v) && same_kind k (kind_of v) then e ∷ ending_from k (suc e) ends else ending_from k (suc e) ends

unfoldable pub ending : Kind → List ℕ → List ℕ
ending k ends = ending_from k 0 ends
