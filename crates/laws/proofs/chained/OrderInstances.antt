-- Demand 3, at document 01's map T: K5 and its sweep, against the same operations in another order and cut, from a base that was started and from one that was
-- read.
--   swept_k5         == what K5 and then the sweep leave, from start on
--   other           == their operations the other way round, each in a level of its own
--   base_file, asked == the file of the base T, and what read leaves of it
use mathlib.Core.List.Permᴰ
use mathlib.Core.List.{List, [], ◌∷◌, ◌++◌}
use mathlib.Core.Path.{◌≡◌, refl, ap, subst₂}
use Prim.Native.Nat.{ℕ}
use lib.Dec.{lit≤}
use lib.ListN.{take, replicate}
use Rattle.permutations.specs.Partner.{partner}
use Rattle.permutations.specs.Cycle.{meets_in}
use Rattle.darts.specs.Answers.{Answer}
use Rattle.darts.specs.Map.{successor, face_next, same_vertex, same_face, gone, survives, before_in, before, repeats, culprit, test_from, permutation_test}
use Rattle.darts.specs.Operation.{contraction, removal, turned, lead, whole_edge, remove, contract, operate, number, kind_of, lead_of, edge_of, put_back, undo_one, undone}
use Rattle.darts.specs.Kernel.{Operation, stands, shared, judge, rising, pass_from, pass, run}
use Rattle.darts.specs.State.{raised, levelled, reduce}
use Rattle.darts.specs.Levels.{empty_loop, takes, swept_from, swept, sweep, end_below, lowered, undo_level}
use Rattle.darts.specs.Counts.{never_below, lowest, cycles, counts_of}
use Rattle.darts.specs.Pyramid.{Kernel, dart_count, build, kernel_of, cut, kernels_of, same_numbers, same_state, is_exactly, is_pyramid}
use Rattle.darts.specs.OneByOne.{one_by_one, operations_of, NoneEmpty}
use Rattle.darts.specs.Text.{bytes}
use Rattle.darts.specs.File.{kind_word}
use Rattle.darts.specs.Scan.{byte_at, word, is_digit, number_on, number_at, field}
use Rattle.darts.specs.Read.{flag_at, opening, kernel_of_kind, kernel_at, kernels_at, pairs_at, end_at, body, from_flag, ends_from, total, file_state, numbers_from, history_from, file_history, closed, opened, read_file}
use Rattle.darts.specs.Calls.{After, room, fitting, table_of, past_of, cleared, work_after, judged, begins, start, hands_back, on_state, reduce_by, sweep_by, undo_by, read_into, read}
use Rattle.slices.specs.Over.{over}
use Rattle.laws.proofs.runs.Taking.{taken}
use Rattle.laws.proofs.chained.OnLent.{Call, by_kernel, by_sweep, by_undo, to_level, call_on}
use Rattle.laws.proofs.chained.Begins.{read_left}
use Rattle.laws.proofs.chained.Based.{Based, start_based, read_based}
use Rattle.laws.proofs.chained.Chains.{calls, AllDone}
use Rattle.laws.proofs.chained.AnyOrder.{kernels, kernel, sweeping, operations_by, operations_in, EndsAs, EndsAlike, based_told, kernels_rise, list_by_calls, history_by_calls, any_order_of_calls, again_by_calls, both_by_calls}
use Rattle.laws.proofs.chained.Instances.{triangle, numbers, area, contracting, removing, begun, K6, K7, elsewhere, k7_accepted, k7_undone, k5_swept}
use Rattle.laws.proofs.chained.FileInstances.{area as fileArea, k12, read_k12, k12_read}

abbrev contracted : ℕ → Operation
contracted e = record { kind = contraction; edge = e }

abbrev removed : ℕ → Operation
removed e = record { kind = removal; edge = e }

abbrev then_sweep : List Call
then_sweep = by_kernel (contracting (0 ∷ 1 ∷ [])) ∷ by_sweep ∷ []

abbrev swept_k5 : After
swept_k5 = calls then_sweep begun

abbrev other : List Kernel
other = removing (2 ∷ []) ∷ contracting (1 ∷ []) ∷ contracting (0 ∷ []) ∷ []

other_some : NoneEmpty other
other_some = (lit≤ tt, (lit≤ tt, (lit≤ tt, tt)))

-- ---- the two bases

begun_based : Based 8 (take 8 triangle) begun
begun_based = start_based 8 triangle numbers area k7_accepted.0.0

abbrev base_file : List ℕ
base_file = bytes "numbers=0\ndarts=8\nlevels=0\npair=5 2\npair=1 4\npair=6 0\npair=3 7\n"

abbrev asked : After
asked = read base_file (replicate 9 9) (replicate 5 9) area

asked_read : (asked.answer.number ≡ 0) × ((asked.state.levels ≡ 0) × ((asked.state.darts ≡ 8) × (take asked.state.darts asked.table ≡ take 8 triangle)))
unfolding partner meets_in successor face_next same_vertex same_face gone survives before_in before repeats culprit test_from permutation_test turned lead whole_edge remove contract operate number kind_of lead_of edge_of put_back undo_one undone shared judge pass_from pass run raised levelled reduce dart_count build kernel_of cut kernels_of same_numbers same_state is_exactly is_pyramid room over cleared byte_at word is_digit number_on number_at field flag_at opening kernel_of_kind kernel_at kernels_at pairs_at end_at body from_flag ends_from total file_state numbers_from history_from file_history closed opened read_file read_into read kind_word never_below lowest cycles counts_of
asked_read = (refl, (refl, (refl, refl)))

asked_based : Based 8 (take 8 triangle) asked
asked_based =
    subst₂ (λ D b. Based D b asked) asked_read.1.1.0 asked_read.1.1.1
    (read_based base_file (replicate 9 9) (replicate 5 9) area asked_read.0 asked_read.1.0)

-- ---- K5 and its sweep, from start on; the other order, from what was read

swept_done : AllDone then_sweep begun
swept_done = (k7_accepted.0.0, (k7_accepted.0.1.0, rw k5_swept k7_accepted.0.1.1))

swept_operations : operations_by then_sweep begun ≡ contracted 0 ∷ contracted 1 ∷ removed 2 ∷ []
unfolding partner meets_in successor face_next same_vertex same_face gone survives before_in before repeats culprit test_from permutation_test turned lead whole_edge remove contract operate number kind_of lead_of edge_of put_back undo_one undone shared judge rising pass_from pass run raised levelled reduce empty_loop takes dart_count build kernel_of cut kernels_of same_numbers same_state is_exactly is_pyramid room fitting table_of past_of over cleared work_after judged begins start hands_back on_state reduce_by never_below lowest cycles counts_of taken
swept_operations = refl

swept_alike : EndsAlike 8 swept_k5 (kernels other) asked
swept_alike =
    any_order_of_calls asked_based other other_some (lit≤ tt) begun_based then_sweep swept_done (kernel, (sweeping, tt))
    (rw swept_operations (Permᴰ.reverse (operations_of other)))

-- and back: what those leave, against K7 from start on
other_alike : EndsAlike 8 (calls (kernels other) asked) (kernels K7) begun
other_alike =
    any_order_of_calls begun_based K7 (lit≤ tt, (lit≤ tt, tt)) (lit≤ tt) asked_based (kernels other) swept_alike.accepted (kernels_rise other)
    (Permᴰ.reverse (operations_of K7))

-- K12: "level=2 darts=2 vertices=2 faces=1", whichever way it came
swept_ends : ((calls (kernels other) asked).state.vertices ≡ 2) × ((calls (kernels other) asked).state.faces ≡ 1)
unfolding partner meets_in successor face_next same_vertex same_face gone survives before_in before repeats culprit test_from permutation_test turned lead whole_edge remove contract operate number kind_of lead_of edge_of put_back undo_one undone shared judge pass_from pass run raised levelled reduce dart_count build kernel_of cut kernels_of same_numbers same_state is_exactly is_pyramid room fitting table_of past_of over cleared work_after judged begins start hands_back on_state reduce_by never_below lowest cycles counts_of
swept_ends = (rw k5_swept at swept_alike.vertices, rw k5_swept at swept_alike.faces)

-- ---- K6 and its sweep, on other slices

abbrev reversed_sweep : List Call
reversed_sweep = by_kernel (contracting (1 ∷ 0 ∷ [])) ∷ by_sweep ∷ []

reversed_done : AllDone reversed_sweep elsewhere × (operations_in (calls reversed_sweep elsewhere) ≡ contracted 1 ∷ contracted 0 ∷ removed 2 ∷ [])
unfolding partner meets_in successor face_next same_vertex same_face gone survives before_in before repeats culprit test_from permutation_test turned lead whole_edge remove contract operate number kind_of lead_of edge_of put_back undo_one undone shared judge pass_from pass run raised levelled reduce dart_count build kernel_of cut kernels_of same_numbers same_state is_exactly is_pyramid room over cleared never_below lowest cycles counts_of rising empty_loop takes fitting table_of past_of work_after judged begins start hands_back on_state reduce_by swept_from swept sweep sweep_by
reversed_done = ((refl, (refl, refl)), refl)

reversed_alike : EndsAlike 8 swept_k5 reversed_sweep elsewhere
reversed_alike =
    both_by_calls begun_based (start_based 8 (take 8 triangle) (replicate 4 0) (replicate 32 7) reversed_done.0.0) then_sweep reversed_sweep swept_done reversed_done.0
    (rw (based_told begun_based then_sweep (kernel, (sweeping, tt)) swept_done, swept_operations, reversed_done.1) (Permᴰ.swap refl refl))

-- ---- a list of mixed kinds

mixed : one_by_one 8 (take 8 triangle) [] (contracted 1 ∷ removed 2 ∷ contracted 0 ∷ []) ≡ stands (0 ∷ 6 ∷ 1 ∷ 4 ∷ 6 ∷ 0 ∷ 6 ∷ 7 ∷ []) (3 ∷ 8 ∷ 5 ∷ [])
unfolding partner meets_in successor face_next same_vertex same_face gone survives before_in before turned lead whole_edge remove contract operate number shared judge pass_from pass one_by_one
mixed = refl

mixed_ends : EndsAs 8 (0 ∷ 6 ∷ 1 ∷ 4 ∷ 6 ∷ 0 ∷ 6 ∷ 7 ∷ []) (3 ∷ 8 ∷ 5 ∷ []) (kernels other) asked
mixed_ends = list_by_calls asked_based other other_some (lit≤ tt) _ mixed (Permᴰ.swap refl refl)

-- ---- K7 undone: its history tells K5, and so K6 ends alike

undone_done : AllDone (kernels K7 ++ (by_undo ∷ [])) begun
undone_done = (k7_accepted.0.0, (k7_accepted.0.1.0, (k7_accepted.0.1.1, ap (λ (a : Answer). a.number) k7_undone.answer)))

undone_told : operations_in (calls (kernels K7 ++ (by_undo ∷ [])) begun) ≡ contracted 0 ∷ contracted 1 ∷ []
unfolding partner meets_in successor face_next same_vertex same_face gone survives before_in before repeats culprit test_from permutation_test turned lead whole_edge remove contract operate number kind_of lead_of edge_of put_back undo_one undone shared judge pass_from pass run raised levelled reduce end_below lowered undo_level dart_count build kernel_of cut kernels_of same_numbers same_state is_exactly is_pyramid room fitting table_of past_of over cleared work_after judged begins start hands_back on_state reduce_by undo_by never_below lowest cycles counts_of
undone_told = refl

undone_alike : EndsAlike 8 (calls (kernels K7 ++ (by_undo ∷ [])) begun) (kernels K6) asked
undone_alike =
    history_by_calls asked_based K6 (lit≤ tt, (lit≤ tt, tt)) (lit≤ tt) begun_based (kernels K7 ++ (by_undo ∷ [])) undone_done
    (rw undone_told (Permᴰ.swap refl refl))

-- ---- K12 read, unfolded to level 0, and its operations done again the other way round

k12_tells : operations_in read_k12 ≡ contracted 0 ∷ contracted 1 ∷ removed 2 ∷ []
unfolding partner meets_in successor face_next same_vertex same_face gone survives before_in before repeats culprit test_from permutation_test turned lead whole_edge remove contract operate number kind_of lead_of edge_of put_back undo_one undone shared judge pass_from pass run raised levelled reduce dart_count build kernel_of cut kernels_of same_numbers same_state is_exactly is_pyramid room fitting table_of past_of over cleared work_after judged byte_at word is_digit number_on number_at field flag_at opening kernel_of_kind kernel_at kernels_at pairs_at end_at body from_flag ends_from total file_state numbers_from history_from file_history closed opened read_file read_into read kind_word never_below lowest cycles counts_of
k12_tells = refl

k12_again : EndsAlike read_k12.state.darts read_k12 (kernels other) (call_on (to_level 0) read_k12)
k12_again =
    again_by_calls read_k12 (read_left k12 (replicate 9 9) (replicate 5 9) fileArea k12_read.0).left.lent other other_some (lit≤ tt)
    (rw k12_tells (Permᴰ.reverse (operations_of other)))
