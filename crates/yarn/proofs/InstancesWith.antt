-- The laws of chained calls with sheets at map T of document 01, with records at its places, and its worked examples K5 and K7: what they ask for can be
-- met, and what they say is what the definitions compute. Slices and sheets are longer than 8 darts want, and hold rubbish there.
--   triangle, numbers, area, records == what is lent: T, history, work area, and both sheets; one vertex is not measured
--   begun           == what start leaves of them; k5 and k7 what the kernels of K5 and K7 leave after it
--   round           == K5, a sweep, undo, K7's kernel, and down one level
--   wrong           == the state of K5 with a vertex too many
use mathlib.Core.List.{List, [], ◌∷◌, reverse}
use mathlib.Core.Path.{◌≡◌, refl}
use Prim.Native.Nat.{ℕ, ◌-◌, ◌/◌, ◌<◌}
use native.Mathlib.Omega.{arith}
use lib.Dec.{lit≤}
use lib.Ieee as Ieee
use lib.ListN.{take, replicate}
use Rattle.permutations.specs.Partner.{partner}
use Rattle.permutations.specs.Cycle.{meets_in}
use Rattle.darts.specs.Answers.{done, no_pyramid}
use Rattle.darts.specs.Map.{successor, face_next, same_vertex, same_face, gone, survives, before_in, before, repeats, culprit, test_from, permutation_test}
use Rattle.darts.specs.Operation.{contraction, removal, turned, lead, whole_edge, remove, contract, operate, number, kind_of, lead_of, edge_of, put_back, undo_one, undone}
use Rattle.darts.specs.Kernel.{shared, judge, rising, pass_from, pass, run}
use Rattle.darts.specs.State.{State, counted, raised, levelled, reduce}
use Rattle.darts.specs.Levels.{empty_loop, takes, swept_from, swept, sweep, end_below, lowered, undo_level, undo_levels, unfold_to}
use Rattle.darts.specs.Counts.{never_below, lowest as lowestIn, cycles, counts_of}
use Rattle.darts.specs.Pyramid.{Kernel, dart_count, build, kernel_of, cut, kernels_of, same_numbers, same_state, is_exactly, is_pyramid}
use Rattle.darts.specs.Calls.{leaves, room, fitting as fittingPlain, table_of, past_of, cleared, work_after, begins, hands_back}
use Rattle.slices.specs.Over.{over}
use Rattle.laws.proofs.chained.OnLent.{Call, by_kernel, by_sweep, by_undo, to_level}
use Rattle.laws.proofs.chained.AnyOrder.{kernels}
use Rattle.laws.proofs.sentences.Edges.{takes_iff}
use Rattle.laws.proofs.sentences.Sweep.{Passed, begins as passBegins, skips, adds}
use Rattle.sheets.specs.Records.{same_integer, same_metres, same_yarn, same_zone, at}
use Rattle.sheets.specs.Sheets.{Sheets, low_into, high_of, merged, returned, merged_by, returned_by, last_into, sound, kept_sound, kept_right, sheet_right, right as rightSheets}
use Rattle.yarn.specs.Places.{lowest_from, lowest, is_place, joins, zoned, merge_by, merges_of, merges, places_after, zone_of}
use Rattle.yarn.specs.Given.{given}
use Rattle.yarn.specs.Totals.{summed, total}
use Rattle.yarn.specs.Rows.{unmeasured, half, rubbish, sheets}
use Rattle.yarn.specs.Calls.{Costed, costed, fitting, fitting_of, base_of, judged, unfit_from, first_unfit, begins_with, start_with, carried, carried_to, sheets_after, on_sheets, reduce_with, sweep_with, undo_with, unfold_with}
use Rattle.yarn.proofs.CalledWith.{past_by}
use Rattle.yarn.proofs.ChainedWith.{call_with, calls_with, AllDone}
use Rattle.yarn.proofs.UndoWith.{ReturnedWith, undoing_with, reduce_then_undo, sweep_then_undo}
use Rattle.yarn.proofs.UnfoldWith.{undos_with, unfold_undos}
use Rattle.yarn.proofs.StartWith.{start_total}
use Rattle.yarn.proofs.GroundWith.{Free, BaseWith, start_then_unfold}
use Rattle.yarn.proofs.sentences.Lengths.{fits}
use Rattle.yarn.proofs.sentences.Numbers.{Wrong, undo_wrong}
use Rattle.yarn.proofs.sentences.Sweep.{sweep_kernel}

abbrev pub triangle : List ℕ
triangle = 5 ∷ 2 ∷ 1 ∷ 4 ∷ 6 ∷ 0 ∷ 3 ∷ 7 ∷ 99 ∷ []

abbrev pub numbers : List ℕ
numbers = 91 ∷ 92 ∷ 93 ∷ 94 ∷ 95 ∷ []

abbrev pub area : List ℕ
area = replicate 33 9

abbrev pub records : Sheets
records = sheets (half 1) (unmeasured 2) (half 3) (half 4) []

abbrev pub contracting : List ℕ → Kernel
contracting es = record { kind = contraction; edges = es }

abbrev pub removing : List ℕ → Kernel
removing es = record { kind = removal; edges = es }

abbrev pub begun : Costed
begun = start_with 8 triangle numbers area records

abbrev pub K5 : List Kernel
K5 = contracting (0 ∷ 1 ∷ []) ∷ []

abbrev pub K7 : List Kernel
K7 = contracting (0 ∷ 1 ∷ []) ∷ removing (2 ∷ []) ∷ []

abbrev pub k5 : Costed
k5 = calls_with (kernels K5) begun

abbrev pub k7 : Costed
k7 = calls_with (kernels K7) begun

-- K7 is accepted, from start on, and it has levels above the base
pub k7_accepted : (begun.plain.answer.number ≡ 0) × (AllDone (kernels K7) begun × (0 < k7.plain.state.levels))
unfolding partner meets_in successor face_next same_vertex same_face gone survives before_in before repeats culprit test_from permutation_test turned lead whole_edge remove contract operate number kind_of lead_of edge_of put_back undo_one undone shared judge pass_from pass run raised levelled reduce empty_loop takes rising swept_from swept sweep end_below lowered undo_level undo_levels unfold_to dart_count build kernel_of cut kernels_of same_numbers same_state is_exactly is_pyramid room fittingPlain table_of past_of over cleared work_after begins hands_back same_integer same_metres same_yarn same_zone low_into high_of merged returned merged_by returned_by last_into sound kept_sound kept_right sheet_right rightSheets lowest_from lowest is_place joins zoned merge_by merges_of merges given fitting fitting_of base_of judged unfit_from first_unfit begins_with start_with carried carried_to sheets_after on_sheets reduce_with sweep_with undo_with unfold_with Ieee.le Ieee.add never_below lowestIn cycles counts_of
k7_accepted = (refl, ((refl, (refl, tt)), lit≤ tt))

-- ---- K5 and K7 undone

k5_undone : ReturnedWith begun.plain.state begun.plain.table begun.plain.history begun.plain.work begun.sheets k5 (undoing_with k5)
k5_undone =
    reduce_then_undo contraction (0 ∷ 1 ∷ []) begun.plain.state begun.plain.table begun.plain.history begun.plain.work begun.sheets
    k7_accepted.1.0.0

k7_undone : ReturnedWith k5.plain.state k5.plain.table k5.plain.history k5.plain.work k5.sheets k7 (undoing_with k7)
k7_undone =
    reduce_then_undo removal (2 ∷ []) k5.plain.state k5.plain.table k5.plain.history k5.plain.work k5.sheets k7_accepted.1.0.1.0

-- by computation: the sheet is the one that was lent; of the second sheet the two places of K5's contractions hold what was kept
k5_computed : ((undoing_with k5).sheets.sheet ≡ records.sheet)
    × ((undoing_with k5).sheets.kept ≡ half 1 ∷ unmeasured 3 ∷ rubbish ∷ rubbish ∷ rubbish ∷ [])
unfolding partner meets_in successor face_next same_vertex same_face gone survives before_in before repeats culprit test_from permutation_test turned lead whole_edge remove contract operate number kind_of lead_of edge_of put_back undo_one undone shared judge pass_from pass run raised levelled reduce empty_loop takes rising swept_from swept sweep end_below lowered undo_level undo_levels unfold_to dart_count build kernel_of cut kernels_of same_numbers same_state is_exactly is_pyramid room fittingPlain table_of past_of over cleared work_after begins hands_back same_integer same_metres same_yarn same_zone low_into high_of merged returned merged_by returned_by last_into sound kept_sound kept_right sheet_right rightSheets lowest_from lowest is_place joins zoned merge_by merges_of merges given fitting fitting_of base_of judged unfit_from first_unfit begins_with start_with carried carried_to sheets_after on_sheets reduce_with sweep_with undo_with unfold_with Ieee.le Ieee.add never_below lowestIn cycles counts_of
k5_computed = (refl, refl)

-- ---- the sweep

-- "an empty loop (r = q or s = p)": the sweep of K5 takes edge 2, and leaves what K7 leaves
pub k5_swept : call_with by_sweep k5 ≡ k7
unfolding partner meets_in successor face_next same_vertex same_face gone survives before_in before repeats culprit test_from permutation_test turned lead whole_edge remove contract operate number kind_of lead_of edge_of put_back undo_one undone shared judge pass_from pass run raised levelled reduce empty_loop takes rising swept_from swept sweep end_below lowered undo_level undo_levels unfold_to dart_count build kernel_of cut kernels_of same_numbers same_state is_exactly is_pyramid room fittingPlain table_of past_of over cleared work_after begins hands_back same_integer same_metres same_yarn same_zone low_into high_of merged returned merged_by returned_by last_into sound kept_sound kept_right sheet_right rightSheets lowest_from lowest is_place joins zoned merge_by merges_of merges given fitting fitting_of base_of judged unfit_from first_unfit begins_with start_with carried carried_to sheets_after on_sheets reduce_with sweep_with undo_with unfold_with Ieee.le Ieee.add never_below lowestIn cycles counts_of
k5_swept = refl

-- its pass skips edges 0 and 1, which are gone, takes edge 2, and skips edge 3, which is no loop
k5_passes : Passed k5.plain.state.darts (table_of k5.plain.state k5.plain.table) (past_by k5) (k5.plain.state.darts / 2) (2 ∷ [])
    (5 ∷ 2 ∷ 5 ∷ 4 ∷ 6 ∷ 4 ∷ 6 ∷ 7 ∷ []) (10 ∷ 5 ∷ 1 ∷ [])
unfolding partner meets_in successor face_next same_vertex same_face gone survives before_in before repeats culprit test_from permutation_test turned lead whole_edge remove contract operate number kind_of lead_of edge_of put_back undo_one undone shared judge pass_from pass run raised levelled reduce empty_loop takes rising swept_from swept sweep end_below lowered undo_level undo_levels unfold_to dart_count build kernel_of cut kernels_of same_numbers same_state is_exactly is_pyramid room fittingPlain table_of past_of over cleared work_after begins hands_back same_integer same_metres same_yarn same_zone low_into high_of merged returned merged_by returned_by last_into sound kept_sound kept_right sheet_right rightSheets lowest_from lowest is_place joins zoned merge_by merges_of merges given fitting fitting_of base_of judged unfit_from first_unfit begins_with start_with carried carried_to sheets_after on_sheets reduce_with sweep_with undo_with unfold_with Ieee.le Ieee.add never_below lowestIn cycles counts_of
k5_passes = skips (adds (skips (skips passBegins (takes_iff _ _ 0).1) (takes_iff _ _ 1).1) ((takes_iff _ _ 2).0 tt)) (takes_iff _ _ 3).1

k5_kernel : call_with by_sweep k5 ≡ call_with (by_kernel (removing (2 ∷ []))) k5
k5_kernel = sweep_kernel k5.plain.state k5.plain.table k5.plain.history k5.plain.work k5.sheets k5_passes

k5_sweep_undone : ReturnedWith k5.plain.state k5.plain.table k5.plain.history k5.plain.work k5.sheets (call_with by_sweep k5)
    (undoing_with (call_with by_sweep k5))
k5_sweep_undone =
    sweep_then_undo k5.plain.state k5.plain.table k5.plain.history k5.plain.work k5.sheets (rw k5_swept k7_accepted.1.0.1.0)

-- ---- unfolded

k7_unfolded : call_with (to_level 0) k7
    ≡ undos_with (k7.plain.state.levels - 0) (costed (leaves done k7.plain.state k7.plain.table k7.plain.history k7.plain.work) k7.sheets)
k7_unfolded = unfold_undos 0 k7.plain.state k7.plain.table k7.plain.history k7.plain.work k7.sheets k7_accepted.1.1

-- back to what was started from
k7_base : BaseWith 8 triangle numbers area records (kernels K7) (call_with (to_level 0) k7)
k7_base = start_then_unfold 8 triangle numbers area records (kernels K7) k7_accepted.0 k7_accepted.1.0

-- K5, a sweep, undo, K7's removal, and down one level
abbrev pub round : List Call
round = by_kernel (contracting (0 ∷ 1 ∷ [])) ∷ by_sweep ∷ by_undo ∷ by_kernel (removing (2 ∷ [])) ∷ to_level 1 ∷ []

-- at the place of the removal, and past every count, no call keeps a record
pub round_accepted : AllDone round begun × (Free 8 (take 8 triangle) 2 round begun × Free 8 (take 8 triangle) 3 round begun)
unfolding partner meets_in successor face_next same_vertex same_face gone survives before_in before repeats culprit test_from permutation_test turned lead whole_edge remove contract operate number kind_of lead_of edge_of put_back undo_one undone shared judge pass_from pass run raised levelled reduce empty_loop takes rising swept_from swept sweep end_below lowered undo_level undo_levels unfold_to dart_count build kernel_of cut kernels_of same_numbers same_state is_exactly is_pyramid room fittingPlain table_of past_of over cleared work_after begins hands_back same_integer same_metres same_yarn same_zone low_into high_of merged returned merged_by returned_by last_into sound kept_sound kept_right sheet_right rightSheets lowest_from lowest is_place joins zoned merge_by merges_of merges given fitting fitting_of base_of judged unfit_from first_unfit begins_with start_with carried carried_to sheets_after on_sheets reduce_with sweep_with undo_with unfold_with Ieee.le Ieee.add never_below lowestIn cycles counts_of
round_accepted = (
  (refl, (refl, (refl, (refl, (refl, tt))))),
  (
    ((λ l k. refl), ((λ l k. refl), ((λ l k. refl), ((λ l k. refl), ((λ l k. refl), tt))))),
    ((λ l k. refl), ((λ l k. refl), ((λ l k. refl), ((λ l k. refl), ((λ l k. refl), tt))))),
  ),
)

round_base : BaseWith 8 triangle numbers area records round (call_with (to_level 0) (calls_with round begun))
round_base = start_then_unfold 8 triangle numbers area records round k7_accepted.0 round_accepted.0

round_kept : (at (call_with (to_level 0) (calls_with round begun)).sheets.kept 2 ≡ rubbish)
    × (at (call_with (to_level 0) (calls_with round begun)).sheets.kept 3 ≡ rubbish)
round_kept = (round_base.kept 2 round_accepted.1.0, round_base.kept 3 round_accepted.1.1)

-- ---- "The total of stitches at any level equals the base's."

k7_total : total 8 (zone_of 8 (take 8 triangle) (reverse (past_by k7))) k7.sheets ≡ total 8 (lowest 8 (take 8 triangle)) records
k7_total = start_total 8 triangle numbers area records (kernels K7) k7_accepted.0 k7_accepted.1.0

-- by computation: 1 + 2 + 3 + 4
k7_computed : total 8 (zone_of 8 (take 8 triangle) (reverse (past_by k7))) k7.sheets ≡ 10
unfolding partner meets_in successor face_next same_vertex same_face gone survives before_in before repeats culprit test_from permutation_test turned lead whole_edge remove contract operate number kind_of lead_of edge_of put_back undo_one undone shared judge pass_from pass run raised levelled reduce empty_loop takes rising swept_from swept sweep end_below lowered undo_level undo_levels unfold_to dart_count build kernel_of cut kernels_of same_numbers same_state is_exactly is_pyramid room fittingPlain table_of past_of over cleared work_after begins hands_back same_integer same_metres same_yarn same_zone low_into high_of merged returned merged_by returned_by last_into sound kept_sound kept_right sheet_right rightSheets lowest_from lowest is_place joins zoned merge_by merges_of merges given fitting fitting_of base_of judged unfit_from first_unfit begins_with start_with carried carried_to sheets_after on_sheets reduce_with sweep_with undo_with unfold_with Ieee.le Ieee.add never_below lowestIn cycles counts_of places_after zone_of summed total
k7_computed = refl

-- ---- "a state whose numbers differ from the cycles is no pyramid": K5 with 3 vertices instead of 2

abbrev wrong : State
wrong = record { darts = 8; operations = 2; levels = 1; ends = over (2 ∷ []) (replicate 64 0); vertices = 3; faces = 2 }

k5_wrong : Wrong wrong k5.plain.table k5.plain.history
unfolding partner meets_in successor face_next same_vertex same_face gone survives before_in before repeats culprit test_from permutation_test turned lead whole_edge remove contract operate number kind_of lead_of edge_of put_back undo_one undone shared judge pass_from pass run raised levelled reduce empty_loop takes rising swept_from swept sweep end_below lowered undo_level undo_levels unfold_to dart_count build kernel_of cut kernels_of same_numbers same_state is_exactly is_pyramid room fittingPlain table_of past_of over cleared work_after begins hands_back same_integer same_metres same_yarn same_zone low_into high_of merged returned merged_by returned_by last_into sound kept_sound kept_right sheet_right rightSheets lowest_from lowest is_place joins zoned merge_by merges_of merges given fitting fitting_of base_of judged unfit_from first_unfit begins_with start_with carried carried_to sheets_after on_sheets reduce_with sweep_with undo_with unfold_with Ieee.le Ieee.add never_below lowestIn cycles counts_of
k5_wrong N = let z : ◌≡◌ {A = ℕ} 3 2 = N.vertices in omega arith

-- all else is as K5 left it
k5_otherwise : k5.plain.state ≡ counted wrong (table_of wrong k5.plain.table) (past_of wrong k5.plain.history)
unfolding partner meets_in successor face_next same_vertex same_face gone survives before_in before repeats culprit test_from permutation_test turned lead whole_edge remove contract operate number kind_of lead_of edge_of put_back undo_one undone shared judge pass_from pass run raised levelled reduce empty_loop takes rising swept_from swept sweep end_below lowered undo_level undo_levels unfold_to dart_count build kernel_of cut kernels_of same_numbers same_state is_exactly is_pyramid room fittingPlain table_of past_of over cleared work_after begins hands_back same_integer same_metres same_yarn same_zone low_into high_of merged returned merged_by returned_by last_into sound kept_sound kept_right sheet_right rightSheets lowest_from lowest is_place joins zoned merge_by merges_of merges given fitting fitting_of base_of judged unfit_from first_unfit begins_with start_with carried carried_to sheets_after on_sheets reduce_with sweep_with undo_with unfold_with Ieee.le Ieee.add never_below lowestIn cycles counts_of
k5_otherwise = refl

k5_fits : (fitting_of 8 k5.plain.table k5.plain.history k5.plain.work k5.sheets).number ≡ 0
unfolding partner meets_in successor face_next same_vertex same_face gone survives before_in before repeats culprit test_from permutation_test turned lead whole_edge remove contract operate number kind_of lead_of edge_of put_back undo_one undone shared judge pass_from pass run raised levelled reduce empty_loop takes rising swept_from swept sweep end_below lowered undo_level undo_levels unfold_to dart_count build kernel_of cut kernels_of same_numbers same_state is_exactly is_pyramid room fittingPlain table_of past_of over cleared work_after begins hands_back same_integer same_metres same_yarn same_zone low_into high_of merged returned merged_by returned_by last_into sound kept_sound kept_right sheet_right rightSheets lowest_from lowest is_place joins zoned merge_by merges_of merges given fitting fitting_of base_of judged unfit_from first_unfit begins_with start_with carried carried_to sheets_after on_sheets reduce_with sweep_with undo_with unfold_with Ieee.le Ieee.add never_below lowestIn cycles counts_of
k5_fits = refl

k5_refused : undo_with wrong k5.plain.table k5.plain.history k5.plain.work k5.sheets
    ≡ costed (leaves no_pyramid wrong k5.plain.table k5.plain.history (cleared 8 k5.plain.work)) k5.sheets
k5_refused =
    undo_wrong wrong k5.plain.table k5.plain.history k5.plain.work k5.sheets
    (fits 8 k5.plain.table k5.plain.history k5.plain.work k5.sheets k5_fits) k5_wrong
