-- Lookups worked by hand: what the call leaves, refusals too, as one table under one claim; and levels of either form.
--   Row      == one call, and all that it leaves
--   right r  == the definitions give what the row says
--   table    == the rows
--   worked   == all of them are right
--   done     == the operations that K12's ends tell by each level
--   levels   == up to 64 levels, and no more; none left out; one kind each
use Rattle.std.specs.Prelude.{Bool, true, ◌&&◌, not, List, [], ◌∷◌, map, ◌≡◌, refl, ℕ, ◌*◌, eqb, replicate}
use Rattle.slices.specs.Over.{over}
use Rattle.permutations.specs.Partner.{partner}
use Rattle.permutations.specs.Cycle.{meets_in}
use Rattle.permutations.specs.Live.{any, has}
use Rattle.darts.specs.Map.{successor, face_next, same_vertex, same_face, gone, survives, before_in, before, repeats, culprit, test_from, permutation_test}
use Rattle.darts.specs.Operation.{contraction, removal, turned, lead, whole_edge, remove, contract, operate, number, kind_of}
use Rattle.darts.specs.Kernel.{shared, judge, rising, pass_from, pass}
use Rattle.darts.specs.Tests.{same_kind}
use Rattle.darts.specs.OneByOne.{one_by_one}
use Rattle.darts.specs.Pyramid.{dart_count, same_numbers}
use Rattle.darts.specs.Calls.{room, fitting, cleared, work_after}
use Rattle.darts.specs.Worked.{answers}
use Rattle.ends.specs.Ends.{level_of, end_of, ends_by, gone_by, done_by, top, first_at, in_use, one_kind, shaped, ending_from, ending}
use Rattle.ends.specs.Walk.{onward_by, onward, walk_from, walk}
use Rattle.ends.specs.Comes.{end_in, ends_so, operations, accepted, comes}
use Rattle.ends.specs.Lookup.{Looked, judged, successor_at}

pub data Row : Type 0 where
  -- the lent table and ends, how many numbers of work area, all 7; then D, the level, the dart; then the number, the place, the dart found, the
  -- gone darts passed, and how many zeros are written over the first ones of the work area
  looks : List ℕ → List ℕ → ℕ → ℕ → ℕ → ℕ → ℕ → ℕ → ℕ → ℕ → ℕ → Row

abbrev leaves : List ℕ → List ℕ → ℕ → ℕ → ℕ → ℕ → ℕ → ℕ → Looked → Bool
leaves t h w n p d c z l =
    answers n p l.answer
    && (eqb l.found.dart d
    && (eqb l.found.passed c
    && (same_numbers l.table t
    && (same_numbers l.ends h && same_numbers l.work (over (replicate z 0) (replicate w 7))))))

abbrev right : Row → Bool
right (looks t h w D k x n p d c z) = leaves t h w n p d c z (successor_at D k x t h (replicate w 7))

abbrev all_right : List Row → Bool
all_right [] = true
all_right (r ∷ rs) = right r && all_right rs

-- map T, and a number that is not looked at
abbrev T : List ℕ
T = 5 ∷ 2 ∷ 1 ∷ 4 ∷ 6 ∷ 0 ∷ 3 ∷ 7 ∷ 9 ∷ []

-- K12: edges 0 and 1 contracted at level 1, edge 2 removed at level 2, edge 3 survives; and a number that is not looked at
abbrev K12 : List ℕ
K12 = 3 ∷ 3 ∷ 4 ∷ 0 ∷ 131 ∷ []

-- two parallel edges
abbrev parallel : List ℕ
parallel = 2 ∷ 3 ∷ 0 ∷ 1 ∷ []

-- a path of two edges
abbrev path : List ℕ
path = 2 ∷ 1 ∷ 0 ∷ 3 ∷ []

abbrev pub table : List Row
table =
    -- K12's darts 6 and 7 at levels 0, 1 and 2: dart 6 passes 3 and 1, and then 3, 1, 5, 0, 2, 4, twice the three operations
    looks T K12 33 8 0 6 0 0 3 0 32
    ∷ looks T K12 33 8 1 6 0 0 5 2 32
    ∷ looks T K12 33 8 2 6 0 0 6 6 32
    ∷ looks T K12 33 8 0 7 0 0 7 0 32
    ∷ looks T K12 33 8 1 7 0 0 7 0 32
    ∷ looks T K12 33 8 2 7 0 0 7 0 32
    ∷ looks T K12 33 8 1 4 0 0 6 0 32
    ∷ looks T K12 33 8 1 5 0 0 4 2 32
    -- "8 for a dart gone by then", "7 for a dart of D or more", "12 for k": the top is 2
    ∷ looks T K12 33 8 2 4 8 0 0 0 32
    ∷ looks T K12 33 8 1 3 8 0 0 0 32
    ∷ looks T K12 33 8 2 8 7 0 0 0 32
    ∷ looks T K12 33 8 3 6 12 2 0 0 32
    -- in this order: 12 before 7, and before 8; without an end the base is the top
    ∷ looks T K12 33 8 3 8 12 2 0 0 32
    ∷ looks T K12 33 8 3 4 12 2 0 0 32
    ∷ looks T (0 ∷ 1 ∷ 0 ∷ 1 ∷ []) 33 8 1 6 12 0 0 0 32
    ∷ looks T (0 ∷ 1 ∷ 0 ∷ 1 ∷ []) 33 8 0 6 0 0 3 0 32
    -- "its kind is not looked at" where an edge survives
    ∷ looks T (3 ∷ 3 ∷ 4 ∷ 1 ∷ []) 33 8 2 6 0 0 6 6 32
    -- 4: a gap in the levels, before 12, before 7 and before 8; two kinds in one level, and in two; level 65
    ∷ looks T (5 ∷ 5 ∷ 0 ∷ 0 ∷ []) 33 8 0 6 4 0 0 0 32
    ∷ looks T (5 ∷ 5 ∷ 0 ∷ 0 ∷ []) 33 8 3 6 4 0 0 0 32
    ∷ looks T (5 ∷ 5 ∷ 0 ∷ 0 ∷ []) 33 8 0 8 4 0 0 0 32
    ∷ looks T (5 ∷ 5 ∷ 0 ∷ 0 ∷ []) 33 8 2 0 4 0 0 0 32
    ∷ looks T (3 ∷ 2 ∷ 0 ∷ 0 ∷ []) 33 8 0 6 4 0 0 0 32
    ∷ looks T (3 ∷ 4 ∷ 0 ∷ 0 ∷ []) 33 8 0 6 0 0 3 0 32
    ∷ looks T (3 ∷ 3 ∷ 131 ∷ 0 ∷ []) 33 8 9 6 4 0 0 0 32
    -- both parallel edges contracted, in one level and in two; either alone
    ∷ looks parallel (3 ∷ 3 ∷ []) 17 4 0 0 4 0 0 0 16
    ∷ looks parallel (3 ∷ 5 ∷ []) 17 4 0 0 4 0 0 0 16
    ∷ looks parallel (3 ∷ 0 ∷ []) 17 4 1 2 0 0 3 1 16
    ∷ looks parallel (0 ∷ 3 ∷ []) 17 4 1 1 0 0 0 1 16
    -- one of them removed, the other contracted: a piece used up; so is a path
    ∷ looks parallel (3 ∷ 4 ∷ []) 17 4 0 0 4 0 0 0 16
    ∷ looks path (3 ∷ 3 ∷ []) 17 4 0 0 4 0 0 0 16
    ∷ looks path (3 ∷ 0 ∷ []) 17 4 1 2 0 0 2 2 16
    -- a removal with one face on both sides
    ∷ looks path (2 ∷ 0 ∷ []) 17 4 0 2 4 0 0 0 16
    -- the table is no permutation: one successor twice, one out of range
    ∷ looks (2 ∷ 1 ∷ 0 ∷ 1 ∷ []) (0 ∷ 0 ∷ []) 17 4 0 0 4 0 0 0 16
    ∷ looks (2 ∷ 1 ∷ 0 ∷ 4 ∷ []) (0 ∷ 0 ∷ []) 17 4 0 0 4 0 0 0 16
    -- 1, then 2: table, ends, work area; they write nothing
    ∷ looks T K12 33 7 0 6 1 0 0 0 0
    ∷ looks [] [] 0 0 0 6 1 0 0 0 0
    ∷ looks parallel (3 ∷ 3 ∷ []) 17 6 0 0 2 0 0 0 0
    ∷ looks T (3 ∷ 3 ∷ 4 ∷ []) 33 8 9 9 2 0 0 0 0
    ∷ looks T K12 31 8 9 9 2 0 0 0 0
    ∷ looks T K12 32 8 2 6 0 0 6 6 32
    ∷ []

pub worked : all_right table ≡ true
unfolding partner meets_in successor face_next same_vertex same_face gone survives before_in before repeats culprit test_from permutation_test turned lead whole_edge remove contract operate number kind_of shared judge pass_from pass same_kind one_by_one dart_count same_numbers room fitting over cleared work_after level_of end_of ends_by gone_by top first_at in_use one_kind shaped ending_from ending onward_by onward walk_from walk operations accepted comes judged successor_at
worked = refl

-- n levels, each with one edge removed
abbrev removed_at : ℕ → List ℕ
removed_at n = map (λ L. 2 * L) (rising 1 n)

-- "There are at most 64 kernels over the base.": 64 levels in use, 65 in use; one left out; two kinds in the last
pub levels : (shaped (removed_at 64) && (not (shaped (removed_at 65)) && (not (shaped (2 ∷ 6 ∷ [])) && not (shaped (3 ∷ 4 ∷ 5 ∷ []))))) ≡ true
unfolding shaped top rising level_of in_use first_at one_kind
levels = refl

-- the ends that K12's kernels give
pub k12_ends : map (end_in 1 (record { kind = contraction; edges = 0 ∷ 1 ∷ [] } ∷ record { kind = removal; edges = 2 ∷ [] } ∷ [])) (rising 0 4) ≡ (3 ∷ 3 ∷ 4 ∷ 0 ∷ [])
unfolding rising end_in has any number
k12_ends = refl

-- an edge that survives may have either number, one that ends has its own
pub either : (ends_so 0 1 && (ends_so 1 0 && (ends_so 4 4 && (not (ends_so 2 3) && (not (ends_so 2 0) && not (ends_so 1 4)))))) ≡ true
unfolding ends_so level_of
either = refl

-- "the operations done by level k", level by level up to one above the top
pub done : map (λ k. done_by k (3 ∷ 3 ∷ 4 ∷ 1 ∷ [])) (rising 0 4) ≡ (0 ∷ 2 ∷ 3 ∷ 3 ∷ [])
unfolding rising done_by ends_by level_of
done = refl
