-- For each test a table and a history that it refuses, and K7's pyramid, which passes: one list of rows under one claim.
-- The history hs is given first operation first.
--   state_of t hs ends == the state of this table, history and level ends
--   refusing s t hs   == the numbers of the tests that refuse
--   Row               == a table, a history, the level ends, and the tests that refuse them
--   rows, right       == the rows, and what is claimed of each
use mathlib.Core.Bool.{Bool, true, false, ◌||◌, ◌&&◌, not, beq}
use mathlib.Core.List.{List, [], ◌∷◌, ◌++◌, reverse}
use mathlib.Core.Path.{◌≡◌, refl}
use Prim.Native.Nat.{ℕ, zero, suc, ◌-◌, ◌*◌, ◌%◌}
use lib.Dec.{eqb, ltb}
use lib.ListN.{length, replicate}
use Rattle.permutations.specs.Partner.{partner}
use Rattle.permutations.specs.Map.{mate, face}
use Rattle.permutations.specs.Labels.{merge}
use Rattle.std.proofs.Common.{if◌then◌else◌}
use Rattle.darts.specs.Map.{successor, gone, survives, before_in, before, repeats, culprit, test_from, permutation_test, passed}
use Rattle.darts.specs.Operation.{Kind, contraction, removal, kind_of, lead_of, put_back, undo_one, undone}
use Rattle.darts.specs.State.{State}
use Rattle.darts.specs.Pyramid.{dart_count, same_numbers}
use Rattle.laws.proofs.bridge.Standing.{live}
use Rattle.darts.specs.Tests.{numbered, led, links, blamed, links_from, survivors_test, near, fits, backs, same_kind, relabel, relabelled, parted, replays, of_kind, one_kind, rises, zeros, shaped, tested}
use Rattle.laws.proofs.bridge.Walks.{lowest_met}
use Rattle.laws.proofs.tests.TestsDecide.{base_of}
use Rattle.laws.proofs.tests.TopLabels.{walked}

-- ---- one test at a time

abbrev each_number : (ℕ → List ℕ → Bool) → List ℕ → Bool
each_number f [] = true
each_number f (h ∷ past) = f h past && each_number f past

abbrev each_dart : (ℕ → Bool) → ℕ → Bool
each_dart f zero = true
each_dart f (suc x) = f x && each_dart f x

-- a test of each operation of kind k that writes one entry (or two), once the later ones are undone; it sees the survivors, p, r and s
abbrev each_back : Kind → Bool → ((ℕ → Bool) → ℕ → ℕ → ℕ → Bool) → ℕ → List ℕ → List ℕ → Bool
each_back k single f D t [] = true
each_back k single f D t (h ∷ past) =
    let p : ℕ = lead_of h in
    let r : ℕ = successor t p in
    let s : ℕ = successor t (partner p) in
    let asked : Bool = same_kind k (kind_of h) && beq (eqb (near k r s) (partner p)) single in
    (not asked || f (live D (h ∷ past)) p r s) && each_back k single f D (undo_one D t h past) past

-- labels have to be right only for a base; where the undone table is none, each dart has its own
abbrev labels : Kind → State → List ℕ → List ℕ → ℕ → ℕ
labels k s t past =
    if passed (permutation_test s.darts (base_of s t past)) then walked k s t past else (λ x. x)

abbrev numbers_of : ℕ → List Bool → List ℕ
numbers_of n [] = []
numbers_of n (b ∷ bs) = if b then numbers_of (suc n) bs else n ∷ numbers_of (suc n) bs

-- the seventeen tests in their order
abbrev refusing : State → List ℕ → List ℕ → List ℕ
refusing s t hs =
    let D : ℕ = s.darts in
    let past : List ℕ = reverse hs in
    numbers_of 1 (
    each_number (λ h past. ltb h (2 * D)) past  -- 1
    ∷ each_number (λ h past. not (gone past (lead_of h))) past  -- 2
    ∷ each_dart (λ x. ltb (successor t x) D) D  -- 3
    ∷ each_dart (λ x. gone past x || survives past (successor t x)) D  -- 4
    ∷ each_dart (λ x. gone past x || not (led t past x (successor t x))) D  -- 5
    ∷ each_back removal true (λ now p r s. now s) D t past  -- 6
    ∷ each_back removal false (λ now p r s. eqb (p % 2) 0) D t past  -- 7
    ∷ each_back removal false (λ now p r s. now r) D t past  -- 8
    ∷ each_back removal false (λ now p r s. now s) D t past  -- 9
    ∷ each_back removal false (λ now p r s. not (eqb r s)) D t past  -- 10
    ∷ each_back contraction true (λ now p r s. now r) D t past  -- 11
    ∷ each_back contraction false (λ now p r s. eqb (p % 2) 0) D t past  -- 12
    ∷ each_back contraction false (λ now p r s. now r) D t past  -- 13
    ∷ each_back contraction false (λ now p r s. now s) D t past  -- 14
    ∷ each_back contraction false (λ now p r s. not (eqb r s)) D t past  -- 15
    ∷ replays contraction (labels contraction s t past) hs  -- 16
    ∷ replays removal (labels removal s t past) hs  -- 17
    ∷ []
    )

-- ---- the rows

-- a table, a history, the level ends, and the tests that refuse them
pub data Row : Type 0 where
  row : List ℕ → List ℕ → List ℕ → List ℕ → Row

abbrev state_of : List ℕ → List ℕ → List ℕ → State
state_of t hs ends =
    let l : ℕ = length ends in
    record { darts = length t; operations = length hs; levels = l; ends = ends ++ replicate (64 - l) 0; vertices = 0; faces = 0 }

abbrev is_none : List ℕ → Bool
is_none [] = true
is_none (n ∷ ns) = false

-- the shape is fine, exactly the named tests refuse, and all tests together say so
abbrev right : Row → Bool
right (row t hs ends refused) =
    let s : State = state_of t hs ends in
    let past : List ℕ = reverse hs in
    shaped s hs && same_numbers (refusing s t hs) refused
    && beq (tested (labels contraction s t past) (labels removal s t past) s t past) (is_none refused)

abbrev all_right : List Row → Bool
all_right [] = true
all_right (r ∷ rs) = right r && all_right rs

abbrev pub rows : List Row
rows =
    -- a number of 2D or more has no entries to read, and those read as 0: tests 5 and 10 refuse it, too
    row (0 ∷ 0 ∷ []) (4 ∷ []) (1 ∷ []) (1 ∷ 5 ∷ 10 ∷ [])
    ∷ row (0 ∷ 1 ∷ 0 ∷ 1 ∷ 4 ∷ 1 ∷ 0 ∷ 6 ∷ []) (11 ∷ 14 ∷ 5 ∷ 4 ∷ []) (1 ∷ 2 ∷ 3 ∷ 4 ∷ []) (2 ∷ [])
    ∷ row (0 ∷ 2 ∷ []) [] [] (3 ∷ [])
    ∷ row (0 ∷ 2 ∷ 1 ∷ 0 ∷ []) (4 ∷ []) (1 ∷ []) (4 ∷ [])
    ∷ row (1 ∷ 1 ∷ 0 ∷ 1 ∷ []) (4 ∷ []) (1 ∷ []) (5 ∷ [])
    ∷ row (0 ∷ 0 ∷ []) (2 ∷ []) (1 ∷ []) (6 ∷ [])
    ∷ row (2 ∷ 3 ∷ 2 ∷ 3 ∷ []) (2 ∷ []) (1 ∷ []) (7 ∷ [])
    ∷ row (0 ∷ 1 ∷ 2 ∷ 1 ∷ []) (4 ∷ []) (1 ∷ []) (8 ∷ [])
    ∷ row (0 ∷ 1 ∷ 0 ∷ 2 ∷ []) (4 ∷ []) (1 ∷ []) (9 ∷ [])
    ∷ row (2 ∷ 2 ∷ 2 ∷ 3 ∷ []) (0 ∷ []) (1 ∷ []) (10 ∷ [])
    ∷ row (0 ∷ 1 ∷ []) (1 ∷ []) (1 ∷ []) (11 ∷ [])
    ∷ row (2 ∷ 3 ∷ 3 ∷ 2 ∷ []) (3 ∷ []) (1 ∷ []) (12 ∷ [])
    ∷ row (0 ∷ 1 ∷ 2 ∷ 0 ∷ []) (5 ∷ []) (1 ∷ []) (13 ∷ [])
    ∷ row (2 ∷ 0 ∷ 2 ∷ 3 ∷ []) (1 ∷ []) (1 ∷ []) (14 ∷ [])
    ∷ row (2 ∷ 2 ∷ 2 ∷ 3 ∷ []) (1 ∷ []) (1 ∷ []) (15 ∷ [])
    ∷ row (2 ∷ 3 ∷ 2 ∷ 3 ∷ []) (1 ∷ []) (1 ∷ []) (16 ∷ [])
    ∷ row (2 ∷ 3 ∷ 3 ∷ 2 ∷ []) (0 ∷ []) (1 ∷ []) (17 ∷ [])
    -- K7 passes
    ∷ row (5 ∷ 2 ∷ 5 ∷ 4 ∷ 6 ∷ 4 ∷ 6 ∷ 7 ∷ []) (1 ∷ 5 ∷ 10 ∷ []) (2 ∷ 3 ∷ []) []
    ∷ []

pub rows_right : all_right rows ≡ true
unfolding partner mate face merge successor gone survives before_in before repeats culprit test_from permutation_test kind_of lead_of put_back undo_one undone dart_count same_numbers live numbered led links blamed links_from survivors_test near fits backs same_kind relabel relabelled parted replays of_kind one_kind rises zeros shaped tested lowest_met
rows_right = refl
