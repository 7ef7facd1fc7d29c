-- Demand 3 with sheets at document 01's map T with records at its places: K5 and its sweep, against the same operations in another order and cut, from another
-- start, on slices and sheets that just fit.
--   others, elsewhere == sheets with the same base records, and what start leaves of T with them
--   then_sweep         == K5 and then the sweep, from the first start on
--   other             == their operations the other way round, each in a level of its own
use mathlib.Core.Bool.{true, false}
use mathlib.Core.List.Permᴰ
use mathlib.Core.List.{List, [], ◌∷◌}
use mathlib.Core.Path.{◌≡◌, refl}
use Prim.Native.Nat.{ℕ, zero, suc, ◌/◌, ◌<◌}
use native.Mathlib.Omega.{arith}
use lib.Dec.{T, lit≤}
use lib.Ieee as Ieee
use lib.ListN.{take, replicate}
use Rattle.permutations.specs.Partner.{partner}
use Rattle.permutations.specs.Cycle.{meets_in}
use Rattle.darts.specs.Map.{successor, face_next, same_vertex, same_face, gone, survives, before_in, before, repeats, culprit, test_from, permutation_test}
use Rattle.darts.specs.Operation.{contraction, removal, turned, lead, whole_edge, remove, contract, operate, number, kind_of, lead_of, edge_of, put_back, undo_one, undone}
use Rattle.darts.specs.Kernel.{Operation, stands, shared, judge, rising, pass_from, pass, run}
use Rattle.darts.specs.State.{raised, levelled, reduce}
use Rattle.darts.specs.Levels.{empty_loop, takes, swept_from, swept as sweptOf, sweep, end_below, lowered, undo_level, undo_levels, unfold_to}
use Rattle.darts.specs.Counts.{never_below, lowest as lowestIn, cycles, counts_of}
use Rattle.darts.specs.Pyramid.{Kernel, dart_count, build, kernel_of, cut, kernels_of, same_numbers, same_state, is_exactly, is_pyramid}
use Rattle.darts.specs.Calls.{judged as judgedIn, start, on_state, reduce_by, room, fitting as fittingPlain, table_of, past_of, cleared, work_after, begins, hands_back}
use Rattle.darts.specs.OneByOne.{one_by_one, operations_of, NoneEmpty}
use Rattle.slices.specs.Over.{over}
use Rattle.laws.proofs.runs.Taking.{taken}
use Rattle.laws.proofs.chained.OnLent.{Call, by_kernel, by_sweep, to_level}
use Rattle.laws.proofs.chained.AnyOrder.{kernels, kernel, sweeping, operations_by, operations_in}
use Rattle.sheets.specs.Records.{same_integer, same_metres, same_yarn, same_zone, measured, at}
use Rattle.sheets.specs.Sheets.{Sheets, low_into, high_of, merged, returned, merged_by, returned_by, last_into, sound, kept_sound, kept_right, sheet_right, right as rightSheets}
use Rattle.yarn.specs.Places.{lowest_from, lowest, is_place, joins, zoned, merge_by, merges_of, merges}
use Rattle.yarn.specs.Given.{Looked, given}
use Rattle.yarn.specs.Rows.{unmeasured, half}
use Rattle.yarn.specs.Totals.{stitches_at, measured_at}
use Rattle.yarn.specs.Calls.{Costed, fitting, fitting_of, base_of, judged, unfit_from, first_unfit, begins_with, start_with, carried, carried_to, sheets_after, on_sheets, reduce_with, sweep_with, undo_with, unfold_with}
use Rattle.yarn.proofs.Redone.{Long}
use Rattle.yarn.proofs.ChainedWith.{call_with, calls_with}
use Rattle.yarn.proofs.StartWith.{Begun, start_begun}
use Rattle.yarn.proofs.AnyOrderWith.{BasedWith, begun_based, unfolded_based, EndsAs, EndsAlike, list_by_calls, history_by_calls, any_order_of_calls, list_from_start, any_order_by_calls}
use Rattle.yarn.proofs.InstancesWith.{triangle, numbers, area, records, contracting, removing, begun, K5, k7_accepted, k5_swept, round, round_accepted}

-- ---- two starts

abbrev others : Sheets
others = record { sheet = half 1 ∷ unmeasured 2 ∷ half 0 ∷ half 3 ∷ half 0 ∷ half 0 ∷ half 0 ∷ half 4 ∷ []; kept = replicate 4 (half 0) }

abbrev elsewhere : Costed
elsewhere = start_with 8 (take 8 triangle) (replicate 4 0) (replicate 32 7) others

elsewhere_accepted : elsewhere.plain.answer.number ≡ 0
unfolding partner meets_in successor face_next same_vertex same_face gone survives before_in before repeats culprit test_from permutation_test turned lead whole_edge remove contract operate number kind_of lead_of edge_of put_back undo_one undone shared judge pass_from pass run raised levelled reduce empty_loop takes rising swept_from sweptOf sweep end_below lowered undo_level undo_levels unfold_to dart_count build kernel_of cut kernels_of same_numbers same_state is_exactly is_pyramid room fittingPlain table_of past_of over cleared work_after begins hands_back same_integer same_metres same_yarn same_zone low_into high_of merged returned merged_by returned_by last_into sound kept_sound kept_right sheet_right rightSheets lowest_from lowest is_place joins zoned merge_by merges_of merges given fitting fitting_of base_of judged unfit_from first_unfit begins_with start_with carried carried_to sheets_after on_sheets reduce_with sweep_with undo_with unfold_with Ieee.le Ieee.add never_below lowestIn cycles counts_of
elsewhere_accepted = refl

-- "(the others are not looked at)"
same_record : (x : ℕ) → x < 8 → T (is_place 8 (take 8 triangle) x) → at records.sheet x ≡ at others.sheet x
unfolding is_place lowest lowest_from same_vertex meets_in successor
same_record zero d p = refl
same_record (suc zero) d p = refl
same_record (suc (suc zero)) d p = absurd p
same_record (suc (suc (suc zero))) d p = refl
same_record (suc (suc (suc (suc zero)))) d p = absurd p
same_record (suc (suc (suc (suc (suc zero))))) d p = absurd p
same_record (suc (suc (suc (suc (suc (suc zero)))))) d p = absurd p
same_record (suc (suc (suc (suc (suc (suc (suc zero))))))) d p = refl
same_record (suc (suc (suc (suc (suc (suc (suc (suc x)))))))) d p = absurd (omega arith)

same_records : Looked 8 (take 8 triangle) [] records others
same_records = record { sheet = same_record; kept = λ t h k. absurd (omega arith) }

begun_begun : Begun 8 triangle numbers area records begun
begun_begun = start_begun 8 triangle numbers area records k7_accepted.0

elsewhere_begun : Begun 8 (take 8 triangle) (replicate 4 0) (replicate 32 7) others elsewhere
elsewhere_begun = start_begun 8 (take 8 triangle) (replicate 4 0) (replicate 32 7) others elsewhere_accepted

begun_with : BasedWith 8 (take 8 triangle) records begun
begun_with = begun_based begun_begun refl (record { sheet = λ x d p. refl; kept = λ t h k. refl })

elsewhere_with : BasedWith 8 (take 8 triangle) records elsewhere
elsewhere_with = begun_based elsewhere_begun refl same_records

long : Long 8 (8 / 2) records
long = record { sheet = lit≤ tt; kept = lit≤ tt }

-- ---- K5 and K6: "Survivors 4 to 7 agree with K5."

-- the operations of K6, in two levels
abbrev K6 : List Kernel
K6 = contracting (1 ∷ []) ∷ contracting (0 ∷ []) ∷ []

k6_alike : EndsAlike 8 (take 8 triangle) (calls_with (kernels K5) begun) (kernels K6) elsewhere
k6_alike =
    any_order_by_calls begun_begun elsewhere_begun refl same_records K5 K6 (k7_accepted.1.0.0, tt) (Permᴰ.swap refl refl) (lit≤ tt, (lit≤ tt, tt))
    (lit≤ tt)

-- by computation: the zone at place 0 has 1 + 2 + 3 stitches and is not measured, the one at place 7 has 4 and is; metres of K5 and K6 need not agree
k6_computed : (stitches_at (calls_with (kernels K6) elsewhere).sheets 0 ≡ 6) × ((measured_at (calls_with (kernels K6) elsewhere).sheets 0 ≡ false)
    × ((stitches_at (calls_with (kernels K6) elsewhere).sheets 7 ≡ 4) × (measured_at (calls_with (kernels K6) elsewhere).sheets 7 ≡ true)))
unfolding partner meets_in successor face_next same_vertex same_face gone survives before_in before repeats culprit test_from permutation_test turned lead whole_edge remove contract operate number kind_of lead_of edge_of put_back undo_one undone shared judge pass_from pass run raised levelled reduce empty_loop takes rising swept_from sweptOf sweep end_below lowered undo_level undo_levels unfold_to dart_count build kernel_of cut kernels_of same_numbers same_state is_exactly is_pyramid room fittingPlain table_of past_of over cleared work_after begins hands_back same_integer same_metres same_yarn same_zone low_into high_of merged returned merged_by returned_by last_into sound kept_sound kept_right sheet_right rightSheets lowest_from lowest is_place joins zoned merge_by merges_of merges given fitting fitting_of base_of judged unfit_from first_unfit begins_with start_with carried carried_to sheets_after on_sheets reduce_with sweep_with undo_with unfold_with Ieee.le Ieee.add never_below lowestIn cycles counts_of measured
k6_computed = (refl, (refl, (refl, refl)))

-- ---- K5 and its sweep, from the first start on; the other order, from the other start

abbrev contracted : ℕ → Operation
contracted e = record { kind = contraction; edge = e }

abbrev removed : ℕ → Operation
removed e = record { kind = removal; edge = e }

abbrev then_sweep : List Call
then_sweep = by_kernel (contracting (0 ∷ 1 ∷ [])) ∷ by_sweep ∷ []

abbrev other : List Kernel
other = removing (2 ∷ []) ∷ contracting (1 ∷ []) ∷ contracting (0 ∷ []) ∷ []

other_some : NoneEmpty other
other_some = (lit≤ tt, (lit≤ tt, (lit≤ tt, tt)))

swept_operations : operations_by then_sweep begun.plain ≡ contracted 0 ∷ contracted 1 ∷ removed 2 ∷ []
unfolding partner meets_in successor face_next same_vertex same_face gone survives before_in before repeats culprit test_from permutation_test turned lead whole_edge remove contract operate number kind_of lead_of edge_of put_back undo_one undone shared judge pass_from pass run raised levelled reduce empty_loop takes rising swept_from sweptOf sweep end_below lowered undo_level undo_levels unfold_to dart_count build kernel_of cut kernels_of same_numbers same_state is_exactly is_pyramid room fittingPlain table_of past_of over cleared work_after begins hands_back same_integer same_metres same_yarn same_zone low_into high_of merged returned merged_by returned_by last_into sound kept_sound kept_right sheet_right rightSheets lowest_from lowest is_place joins zoned merge_by merges_of merges given fitting fitting_of base_of judged unfit_from first_unfit begins_with start_with carried carried_to sheets_after on_sheets reduce_with sweep_with undo_with unfold_with Ieee.le Ieee.add never_below lowestIn cycles counts_of start on_state reduce_by taken judgedIn
swept_operations = refl

swept_alike : EndsAlike 8 (take 8 triangle) (calls_with then_sweep begun) (kernels other) elsewhere
swept_alike =
    any_order_of_calls long elsewhere_with other other_some (lit≤ tt) begun_with then_sweep
    (k7_accepted.1.0.0, (rw k5_swept k7_accepted.1.0.1.0, tt)) (kernel, (sweeping, tt))
    (rw swept_operations (Permᴰ.reverse (operations_of other)))

-- ---- a list of mixed kinds

mixed : one_by_one 8 (take 8 triangle) [] (contracted 1 ∷ removed 2 ∷ contracted 0 ∷ []) ≡ stands (0 ∷ 6 ∷ 1 ∷ 4 ∷ 6 ∷ 0 ∷ 6 ∷ 7 ∷ []) (3 ∷ 8 ∷ 5 ∷ [])
unfolding partner meets_in successor face_next same_vertex same_face gone survives before_in before turned lead whole_edge remove contract operate number shared judge pass_from pass one_by_one
mixed = refl

mixed_ends : EndsAs 8 (take 8 triangle) records (0 ∷ 6 ∷ 1 ∷ 4 ∷ 6 ∷ 0 ∷ 6 ∷ 7 ∷ []) (3 ∷ 8 ∷ 5 ∷ []) (kernels other) elsewhere
mixed_ends = list_by_calls long elsewhere_with other other_some (lit≤ tt) _ mixed (Permᴰ.swap refl refl)

mixed_from_start : EndsAs 8 (take 8 triangle) records (0 ∷ 6 ∷ 1 ∷ 4 ∷ 6 ∷ 0 ∷ 6 ∷ 7 ∷ []) (3 ∷ 8 ∷ 5 ∷ []) (kernels other) begun
mixed_from_start =
    list_from_start 8 triangle numbers area records k7_accepted.0 _ mixed other (Permᴰ.swap refl refl) other_some (lit≤ tt)

-- ---- what a history tells: K5, a sweep, undo, K7's removal, and down one level leave the operations of K5

round_told : operations_in (calls_with round begun).plain ≡ contracted 0 ∷ contracted 1 ∷ []
unfolding partner meets_in successor face_next same_vertex same_face gone survives before_in before repeats culprit test_from permutation_test turned lead whole_edge remove contract operate number kind_of lead_of edge_of put_back undo_one undone shared judge pass_from pass run raised levelled reduce empty_loop takes rising swept_from sweptOf sweep end_below lowered undo_level undo_levels unfold_to dart_count build kernel_of cut kernels_of same_numbers same_state is_exactly is_pyramid room fittingPlain table_of past_of over cleared work_after begins hands_back same_integer same_metres same_yarn same_zone low_into high_of merged returned merged_by returned_by last_into sound kept_sound kept_right sheet_right rightSheets lowest_from lowest is_place joins zoned merge_by merges_of merges given fitting fitting_of base_of judged unfit_from first_unfit begins_with start_with carried carried_to sheets_after on_sheets reduce_with sweep_with undo_with unfold_with Ieee.le Ieee.add never_below lowestIn cycles counts_of
round_told = refl

round_alike : EndsAlike 8 (take 8 triangle) (calls_with round begun) (kernels K6) elsewhere
round_alike =
    history_by_calls long elsewhere_with K6 (lit≤ tt, (lit≤ tt, tt)) (lit≤ tt) begun_with round round_accepted.0
    (rw round_told (Permᴰ.swap refl refl))

-- and unfold to level 0 leaves a base with its records again, from which K7's operations end as they do elsewhere
round_based : BasedWith 8 (take 8 triangle) records (call_with (to_level 0) (calls_with round begun))
round_based = unfolded_based 8 triangle numbers area records round k7_accepted.0 round_accepted.0

mixed_again : EndsAs 8 (take 8 triangle) records (0 ∷ 6 ∷ 1 ∷ 4 ∷ 6 ∷ 0 ∷ 6 ∷ 7 ∷ []) (3 ∷ 8 ∷ 5 ∷ []) (kernels other)
    (call_with (to_level 0) (calls_with round begun))
mixed_again = list_by_calls long round_based other other_some (lit≤ tt) _ mixed (Permᴰ.swap refl refl)
