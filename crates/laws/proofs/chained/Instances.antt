-- The laws of chained calls at the worked examples K5, K6, K7 and K12 of document 01: what they ask for can be met, and what they say is what the
-- definitions compute. The slices are longer than 8 darts want, and hold rubbish there.
--   triangle, numbers, area == the lent table, history and work area: T, and one number more in each
--   begun                   == what start leaves of them; k5 and k7 what the kernels of K5 and K7 leave after it
--   elsewhere               == what start leaves of the same base on slices that just fit
use mathlib.Core.List.Permᴰ
use mathlib.Core.List.{List, [], ◌∷◌, ◌++◌}
use mathlib.Core.Path.{◌≡◌, refl}
use Prim.Native.Nat.{ℕ, ◌-◌, ◌<◌}
use lib.Dec.{lit≤}
use lib.ListN.{take, replicate}
use Rattle.permutations.specs.Partner.{partner}
use Rattle.permutations.specs.Cycle.{meets_in}
use Rattle.darts.specs.Answers.{answered, done}
use Rattle.darts.specs.Map.{successor, face_next, same_vertex, same_face, gone, survives, before_in, before, repeats, culprit, test_from, permutation_test}
use Rattle.darts.specs.Operation.{contraction, removal, turned, lead, whole_edge, remove, contract, operate, number, kind_of, lead_of, edge_of, put_back, undo_one, undone}
use Rattle.darts.specs.Kernel.{shared, judge, rising, pass_from, pass, run}
use Rattle.darts.specs.State.{base_state, raised, levelled, reduce}
use Rattle.darts.specs.Levels.{empty_loop, takes, swept_from, swept, sweep, end_below, lowered, undo_level, undo_levels, unfold_to}
use Rattle.darts.specs.Counts.{never_below, lowest, cycles, counts_of}
use Rattle.darts.specs.Pyramid.{Kernel, dart_count, build, kernel_of, cut, kernels_of, same_numbers, same_state, is_exactly, is_pyramid}
use Rattle.darts.specs.Calls.{After, leaves, room, fitting, table_of, past_of, cleared, work_after, judged, begins, start, hands_back, on_state, reduce_by, sweep_by, undo_by, unfold_by}
use Rattle.slices.specs.Over.{over}
use Rattle.laws.proofs.calls.Judging.{Lent}
use Rattle.laws.proofs.chained.OnLent.{by_kernel, by_sweep, to_level, call_on, called_left}
use Rattle.laws.proofs.chained.Undo.{Returned, undoing, reduce_then_undo, sweep_then_undo, unfold_to_top, unfold_above}
use Rattle.laws.proofs.chained.Unfold.{undos_by, unfold_undos}
use Rattle.laws.proofs.chained.Chains.{calls, AllDone, start_then_unfold}
use Rattle.laws.proofs.chained.AnyOrder.{kernels, EndsAlike, any_order_by_calls}

abbrev pub triangle : List ℕ
triangle = 5 ∷ 2 ∷ 1 ∷ 4 ∷ 6 ∷ 0 ∷ 3 ∷ 7 ∷ 99 ∷ []

abbrev pub numbers : List ℕ
numbers = 91 ∷ 92 ∷ 93 ∷ 94 ∷ 95 ∷ []

abbrev pub area : List ℕ
area = replicate 33 9

abbrev pub contracting : List ℕ → Kernel
contracting es = record { kind = contraction; edges = es }

abbrev pub removing : List ℕ → Kernel
removing es = record { kind = removal; edges = es }

abbrev pub begun : After
begun = start 8 triangle numbers area

abbrev K5 : List Kernel
K5 = contracting (0 ∷ 1 ∷ []) ∷ []

-- the operations of K6, in two levels
abbrev pub K6 : List Kernel
K6 = contracting (1 ∷ []) ∷ contracting (0 ∷ []) ∷ []

abbrev pub K7 : List Kernel
K7 = contracting (0 ∷ 1 ∷ []) ∷ removing (2 ∷ []) ∷ []

abbrev k5 : After
k5 = calls (kernels K5) begun

abbrev k7 : After
k7 = calls (kernels K7) begun

-- K7 is accepted, from start on, and its top is between 0 and 3
pub k7_accepted : AllDone (kernels K7) begun × ((0 < k7.state.levels) × (k7.state.levels < 3))
unfolding partner meets_in successor face_next same_vertex same_face gone survives before_in before repeats culprit test_from permutation_test turned lead whole_edge remove contract operate number kind_of lead_of edge_of put_back undo_one undone shared judge pass_from pass run raised levelled reduce end_below lowered undo_level undo_levels unfold_to dart_count build kernel_of cut kernels_of same_numbers same_state is_exactly is_pyramid room fitting table_of past_of over cleared work_after judged begins start hands_back on_state reduce_by undo_by unfold_by never_below lowest cycles counts_of
k7_accepted = ((refl, (refl, refl)), (lit≤ tt, lit≤ tt))

-- ---- K7 undone, and unfolded

pub k7_undone : Returned (answered 0 0) k5.state k5.table k7.history k5.work (undoing k7)
k7_undone = reduce_then_undo k5.state k5.table k5.history k5.work removal (2 ∷ []) k7_accepted.0.1.1

k7_unfolded : call_on (to_level 0) k7 ≡ undos_by (k7.state.levels - 0) (leaves done k7.state k7.table k7.history k7.work)
k7_unfolded = unfold_undos k7.state k7.table k7.history k7.work 0 k7_accepted.1.0

k7_lent : Lent k7.state k7.table k7.history k7.work
k7_lent = (called_left (by_kernel (removing (2 ∷ []))) k5.state k5.table k5.history k5.work k7_accepted.0.1.1).left.lent

k7_top : Returned (answered 0 0) k7.state k7.table k7.history k7.work (call_on (to_level k7.state.levels) k7)
k7_top = unfold_to_top k7.state k7.table k7.history k7.work k7_lent

k7_above : Returned (answered 12 k7.state.levels) k7.state k7.table k7.history k7.work (call_on (to_level 3) k7)
k7_above = unfold_above k7.state k7.table k7.history k7.work k7_lent 3 k7_accepted.1.1

-- back to the table that was started from
k7_base : Returned (answered 0 0) (base_state 8 (take 8 triangle)) triangle k7.history area (call_on (to_level 0) k7)
k7_base = start_then_unfold 8 triangle numbers area (kernels K7) k7_accepted.0

-- "an empty loop (r = q or s = p)": the sweep of K5 takes edge 2, and leaves what K7 leaves
pub k5_swept : call_on by_sweep k5 ≡ k7
unfolding partner meets_in successor face_next same_vertex same_face gone survives before_in before repeats culprit test_from permutation_test turned lead whole_edge remove contract operate number kind_of lead_of edge_of put_back undo_one undone shared judge pass_from pass run raised levelled reduce empty_loop takes rising swept_from swept sweep end_below lowered undo_level undo_levels unfold_to dart_count build kernel_of cut kernels_of same_numbers same_state is_exactly is_pyramid room fitting table_of past_of over cleared work_after judged begins start hands_back on_state reduce_by sweep_by undo_by unfold_by never_below lowest cycles counts_of
k5_swept = refl

k5_sweep_undone : Returned (answered 0 0) k5.state k5.table (call_on by_sweep k5).history k5.work (undoing (call_on by_sweep k5))
k5_sweep_undone = sweep_then_undo k5.state k5.table k5.history k5.work (rw k5_swept k7_accepted.0.1.1)

-- by computation: undone once, it is the table of K5, and the history still has the number 10 of the removal; twice, it is T
k7_computed : ((undoing k7).table ≡ 5 ∷ 2 ∷ 5 ∷ 4 ∷ 6 ∷ 4 ∷ 5 ∷ 7 ∷ 99 ∷ []) × (((undoing k7).history ≡ 1 ∷ 5 ∷ 10 ∷ 94 ∷ 95 ∷ [])
    × (undos_by 2 k7 ≡ leaves done (base_state 8 (take 8 triangle)) triangle (1 ∷ 5 ∷ 10 ∷ 94 ∷ 95 ∷ []) (replicate 32 0 ++ (9 ∷ []))))
unfolding partner meets_in successor face_next same_vertex same_face gone survives before_in before repeats culprit test_from permutation_test turned lead whole_edge remove contract operate number kind_of lead_of edge_of put_back undo_one undone shared judge pass_from pass run raised levelled reduce end_below lowered undo_level undo_levels unfold_to dart_count build kernel_of cut kernels_of same_numbers same_state is_exactly is_pyramid room fitting table_of past_of over cleared work_after judged begins start hands_back on_state reduce_by undo_by unfold_by never_below lowest cycles counts_of
k7_computed = (refl, (refl, refl))

-- ---- K5 and K6: "Survivors 4 to 7 agree with K5."

abbrev pub elsewhere : After
elsewhere = start 8 (take 8 triangle) (replicate 4 0) (replicate 32 7)

k6_alike : EndsAlike 8 k5 (kernels K6) elsewhere
k6_alike =
    any_order_by_calls 8 triangle numbers area K5 K6 (k7_accepted.0.0, k7_accepted.0.1.0) (Permᴰ.swap refl refl) (lit≤ tt, (lit≤ tt, tt))
    (lit≤ tt) (take 8 triangle) (replicate 4 0) (replicate 32 7) refl (record { table = lit≤ tt; history = lit≤ tt; work = lit≤ tt })

k6_computed : ((calls (kernels K6) elsewhere).table ≡ 5 ∷ 4 ∷ 1 ∷ 4 ∷ 6 ∷ 4 ∷ 5 ∷ 7 ∷ []) × (k5.table ≡ 5 ∷ 2 ∷ 5 ∷ 4 ∷ 6 ∷ 4 ∷ 5 ∷ 7 ∷ 99 ∷ [])
unfolding partner meets_in successor face_next same_vertex same_face gone survives before_in before repeats culprit test_from permutation_test turned lead whole_edge remove contract operate number kind_of lead_of edge_of put_back undo_one undone shared judge pass_from pass run raised levelled reduce end_below lowered undo_level undo_levels unfold_to dart_count build kernel_of cut kernels_of same_numbers same_state is_exactly is_pyramid room fitting table_of past_of over cleared work_after judged begins start hands_back on_state reduce_by undo_by unfold_by never_below lowest cycles counts_of
k6_computed = (refl, refl)
