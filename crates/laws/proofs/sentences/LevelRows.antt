-- "There are at most 64 kernels over the base.", met by computation: a star of 65 pending edges, 64 of which are contracted, one to a level.
--   star, ones                == its base, and the kernels
--   full, table, history      == what 64 of them give; below, table_below, history_below what 63 give
--   star_built                == they do, by computation
--   LevelRows                 == what calls on it answer
use mathlib.Core.List.{List, [], ◌∷◌, ◌++◌, map, reverse}
use mathlib.Core.Path.{◌≡◌, refl, ap}
use Prim.Native.Nat.{ℕ, zero, suc, ◌+◌, ◌*◌}
use lib.Dec.{T, lit≤}
use lib.ListN.{replicate}
use Rattle.permutations.specs.Partner.{partner}
use Rattle.permutations.specs.Cycle.{meets_in}
use Rattle.darts.specs.Answers.{Answer, answered}
use Rattle.darts.specs.Map.{successor, face_next, same_vertex, gone, survives, before_in, before, repeats, culprit, test_from, permutation_test}
use Rattle.darts.specs.Operation.{contraction, removal, turned, lead, whole_edge, contract, operate, number, kind_of, lead_of, edge_of, put_back, undo_one, undone}
use Rattle.darts.specs.Kernel.{shared, judge, rising, pass_from, pass, run}
use Rattle.darts.specs.State.{State, gives, base_state, raised, levelled, reduce}
use Rattle.darts.specs.Levels.{sweep, end_below, lowered, undo_level}
use Rattle.darts.specs.Counts.{never_below, lowest, cycles, surviving, counts_of}
use Rattle.darts.specs.Pyramid.{Kernel, Pyramid, dart_count, build}
use Rattle.darts.specs.File.{file_of}
use Rattle.darts.specs.Calls.{After, room, table_of, past_of, hands_back, on_state, reduce_by, sweep_by, read}
use Rattle.laws.proofs.runs.Pyramids.{built_pyramid}
use Rattle.laws.proofs.calls.Judging.{Lent, on_lent}
use Rattle.laws.proofs.file.WriteRead.{write_read}
use Rattle.laws.proofs.chained.Steps.{Step}
use Rattle.laws.proofs.chained.Begins.{read_left, read_accepts}

-- the even dart of each edge leads to the next edge's, the odd one, alone at its vertex, to itself: n edges from e on
abbrev rays : ℕ → ℕ → List ℕ
rays zero e = []
rays (suc n) e = (2 * e + 2) ∷ (2 * e + 1) ∷ rays n (suc e)

abbrev star : List ℕ
star = rays 64 0 ++ (0 ∷ 129 ∷ [])

abbrev ones : ℕ → ℕ → List Kernel
ones zero e = []
ones (suc n) e = record { kind = contraction; edges = e ∷ [] } ∷ ones n (suc e)

abbrev full : State
full = record { darts = 130; operations = 64; levels = 64; ends = rising 1 64; vertices = 2; faces = 1 }

-- the last edge survives, each of its darts alone at its vertex
abbrev table : List ℕ
table = rays 64 0 ++ (128 ∷ 129 ∷ [])

-- "2p+1 for a contraction", p = 2e
abbrev history : List ℕ
history = map (λ e. 4 * e + 1) (rising 0 64)

-- 63 of them
abbrev below : State
below = record { darts = 130; operations = 63; levels = 63; ends = rising 1 63 ++ (0 ∷ []); vertices = 3; faces = 1 }

abbrev table_below : List ℕ
table_below = rays 64 0 ++ (126 ∷ 129 ∷ [])

abbrev history_below : List ℕ
history_below = map (λ e. 4 * e + 1) (rising 0 63)

star_built : build (base_state 130 star) star [] (ones 64 0) ≡ gives full table (reverse history)
unfolding partner meets_in successor face_next same_vertex gone survives before_in before turned lead whole_edge contract operate number shared judge rising pass_from pass run raised levelled reduce build never_below lowest cycles surviving counts_of
star_built = refl

-- ---- lent with room

abbrev lent_history : List ℕ
lent_history = history ++ (9 ∷ [])

abbrev work : List ℕ
work = replicate 520 9

star_pyramid : Pyramid full table (reverse history)
unfolding dart_count successor repeats culprit test_from permutation_test
star_pyramid = built_pyramid 130 star tt refl refl (ones 64 0) star_built

full_lent : Lent full table lent_history work
unfolding table_of past_of rising
full_lent = record { pyramid = star_pyramid; lengths = record { table = lit≤ tt; history = lit≤ tt; work = lit≤ tt } }

-- what a call leaves of it is what its step gives, by computation
abbrev answering : Step → Answer
answering f = (on_state f full table lent_history work).answer

answers_by : (f : Step) → answering f ≡ (hands_back full table lent_history work (f full table (reverse history))).answer
unfolding table_of past_of rising
answers_by f = ap (λ (a : After). a.answer) (on_lent full table lent_history work f full_lent)

-- ---- "6, 5, then the kernel's first failing edge"

record LevelRows : Type 0 where
  -- 6 before 11, 5 and 7
  whole : (reduce_by contraction (64 ∷ []) full table lent_history work).answer ≡ answered 6 0
  empty : (reduce_by removal [] full table lent_history work).answer ≡ answered 6 0
  outside : (reduce_by removal (65 ∷ []) full table lent_history work).answer ≡ answered 6 0
  -- also where no edge would be taken
  swept : (sweep_by full table lent_history work).answer ≡ answered 6 0
  -- undone once, 63 levels are in use, and a 64th is done again
  undone : undo_level full table (reverse history) ≡ gives below table_below (reverse history_below)
  again : reduce contraction (63 ∷ []) below table_below (reverse history_below) ≡ gives full table (reverse history)
  -- the file of 64 levels is read
  file : (read (file_of full table (reverse history)) (replicate 130 9) (replicate 65 9) work).answer ≡ answered 0 0

abbrev file : List ℕ
file = file_of full table (reverse history)

has_room : T (room 130 65 520 130)
unfolding room
has_room = tt

read_full : (read file (replicate 130 9) (replicate 65 9) work).answer ≡ answered 0 0
read_full =
    let reads = (write_read star_pyramid (room 130 65 520) has_room).reads in
    (read_left file (replicate 130 9) (replicate 65 9) work (read_accepts file (replicate 130 9) (replicate 65 9) work reads)).left.answer

level_rows : LevelRows
unfolding partner meets_in successor face_next same_vertex gone survives before_in before turned lead whole_edge contract operate number kind_of lead_of edge_of put_back undo_one undone shared judge rising pass_from pass run raised levelled reduce sweep end_below lowered undo_level hands_back reduce_by sweep_by never_below lowest cycles surviving counts_of
level_rows = record {
  whole = answers_by (reduce contraction (64 ∷ []));
  empty = answers_by (reduce removal []);
  outside = answers_by (reduce removal (65 ∷ []));
  swept = answers_by sweep;
  undone = refl;
  again = refl;
  file = read_full;
}
