-- A place for each vertex, at K1 and K5 of document 01: what the law asks for can be met, and what it says is what the definitions compute.
--   started, K5      == T started with records of 1, 2, 3 and 4 stitches; the kernel "contract 0, 1"
--   started_done, k5_done == both answer 0
--   k5_places        == the law there: two places, one for each of the two vertices
--   four_then_two    == T has four places, and two of them are left
use mathlib.Core.List.{List, [], ◌∷◌}
use mathlib.Core.Path.{◌≡◌, refl}
use lib.ListN.{replicate}
use lib.Ieee as Ieee
use Rattle.slices.specs.Over.{over}
use Rattle.permutations.specs.Partner.{partner}
use Rattle.permutations.specs.Cycle.{meets_in}
use Rattle.darts.specs.Map.{successor, face_next, same_vertex, gone, survives, before_in, before, repeats, culprit, test_from, permutation_test}
use Rattle.darts.specs.Operation.{contraction, turned, lead, whole_edge, contract, operate, number, kind_of, lead_of, edge_of, put_back, undo_one, undone}
use Rattle.darts.specs.Kernel.{shared, judge, pass_from, pass, run}
use Rattle.darts.specs.State.{raised, levelled, reduce}
use Rattle.darts.specs.Counts.{never_below, lowest as lowestIn, cycles, counts_of}
use Rattle.darts.specs.Pyramid.{dart_count, build, kernel_of, cut, kernels_of, same_numbers, same_state, is_exactly, is_pyramid}
use Rattle.darts.specs.Calls.{room, fitting as fittingPlain, table_of, past_of, cleared, work_after, begins, hands_back}
use Rattle.laws.proofs.claims.Instances.{triangle, k5_table, k5_past}
use Rattle.laws.proofs.chained.OnLent.{Call, by_kernel}
use Rattle.sheets.specs.Records.{same_integer, same_metres, same_yarn, same_zone}
use Rattle.sheets.specs.Sheets.{low_into, high_of, merged, merged_by, last_into, sound, kept_sound, kept_right, sheet_right, right as rightSheets}
use Rattle.yarn.specs.Places.{lowest_from, lowest, is_place, joins, zoned, places_after, zone_of, merge_by, merges_of, merges}
use Rattle.yarn.specs.Given.{given}
use Rattle.yarn.specs.Totals.{summed}
use Rattle.yarn.specs.Calls.{Costed, fitting, fitting_of, base_of, judged, unfit_from, first_unfit, begins_with, start_with}
use Rattle.yarn.specs.Calls.{carried, carried_to, sheets_after, on_sheets, reduce_with}
use Rattle.yarn.specs.OnT.{S0}
use Rattle.yarn.proofs.ChainedWith.{AllDone}
use Rattle.yarn.proofs.PlacesCounted.{places, PlaceEach, start_places}

abbrev started : Costed
started = start_with 8 triangle (replicate 4 9) (replicate 32 9) S0

abbrev K5 : List Call
K5 = by_kernel (record { kind = contraction; edges = 0 ∷ 1 ∷ [] }) ∷ []

started_done : started.plain.answer.number ≡ 0
unfolding partner meets_in successor face_next same_vertex gone survives before_in before repeats culprit test_from permutation_test turned lead whole_edge contract operate number kind_of lead_of edge_of put_back undo_one undone shared judge pass_from pass run raised levelled reduce dart_count build kernel_of cut kernels_of same_numbers same_state is_exactly is_pyramid room fittingPlain table_of past_of over cleared work_after begins hands_back same_integer same_metres same_yarn same_zone low_into high_of merged merged_by last_into sound kept_sound kept_right sheet_right rightSheets lowest_from lowest is_place joins zoned merge_by merges_of merges given fitting fitting_of base_of judged unfit_from first_unfit begins_with start_with carried carried_to sheets_after on_sheets reduce_with Ieee.le Ieee.add never_below lowestIn cycles counts_of
started_done = refl

k5_done : AllDone K5 started
unfolding partner meets_in successor face_next same_vertex gone survives before_in before repeats culprit test_from permutation_test turned lead whole_edge contract operate number kind_of lead_of edge_of put_back undo_one undone shared judge pass_from pass run raised levelled reduce dart_count build kernel_of cut kernels_of same_numbers same_state is_exactly is_pyramid room fittingPlain table_of past_of over cleared work_after begins hands_back same_integer same_metres same_yarn same_zone low_into high_of merged merged_by last_into sound kept_sound kept_right sheet_right rightSheets lowest_from lowest is_place joins zoned merge_by merges_of merges given fitting fitting_of base_of judged unfit_from first_unfit begins_with start_with carried carried_to sheets_after on_sheets reduce_with Ieee.le Ieee.add never_below lowestIn cycles counts_of
k5_done = (refl, tt)

pub k5_places : PlaceEach 8 (zone_of 8 triangle (1 ∷ 5 ∷ [])) k5_table k5_past 2
unfolding partner meets_in successor face_next same_vertex gone survives before_in before repeats culprit test_from permutation_test turned lead whole_edge contract operate number kind_of lead_of edge_of put_back undo_one undone shared judge pass_from pass run raised levelled reduce dart_count build kernel_of cut kernels_of same_numbers same_state is_exactly is_pyramid room fittingPlain table_of past_of over cleared work_after begins hands_back same_integer same_metres same_yarn same_zone low_into high_of merged merged_by last_into sound kept_sound kept_right sheet_right rightSheets lowest_from lowest is_place joins zoned merge_by merges_of merges given fitting fitting_of base_of judged unfit_from first_unfit begins_with start_with carried carried_to sheets_after on_sheets reduce_with Ieee.le Ieee.add never_below lowestIn cycles counts_of
k5_places = start_places 8 triangle (replicate 4 9) (replicate 32 9) S0 K5 started_done k5_done

pub four_then_two : (places 8 (lowest 8 triangle) ≡ 4) × (places 8 (zone_of 8 triangle (1 ∷ 5 ∷ [])) ≡ 2)
unfolding meets_in successor same_vertex kind_of edge_of lowest_from lowest joins zoned places_after zone_of summed
four_then_two = (refl, refl)
