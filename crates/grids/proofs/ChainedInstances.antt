-- Demand 3 at the plan of two codes of `Worked`: its areas, one more contraction and a sweep, against the same operations the other way round from a start with
-- the plan's table.
--   planned, begun   == what the two calls on the plan leave
--   onwards          == the calls from there on
--   other            == all the operations, the last one first, in three levels
--   started          == what a start with the plan's table leaves
--   areas_alike      == they end alike
--   base_alike       == and so they do from the first call on, with the first kernel as one like any other
use mathlib.Core.List.Permᴰ
use mathlib.Core.List.{List, [], ◌∷◌}
use mathlib.Core.Path.{◌≡◌, refl}
use Prim.Native.Nat.{ℕ}
use native.Mathlib.Omega.{arith}
use lib.Dec.{lit≤}
use lib.ListN.{replicate}
use Rattle.slices.specs.Over.{over}
use Rattle.permutations.specs.Partner.{partner}
use Rattle.permutations.specs.Cycle.{meets_in}
use Rattle.darts.specs.Map.{successor, face_next, same_vertex, same_face, gone, survives, before_in, before, repeats, culprit, test_from, permutation_test}
use Rattle.darts.specs.Operation.{contraction, removal, turned, lead, whole_edge, remove, contract, operate, number, kind_of, lead_of, edge_of, put_back, undo_one, undone}
use Rattle.darts.specs.Kernel.{Operation, shared, judge, rising, pass_from, pass, run}
use Rattle.darts.specs.State.{raised, levelled, reduce}
use Rattle.darts.specs.Levels.{empty_loop, takes, swept_from, swept, sweep}
use Rattle.darts.specs.Counts.{never_below, lowest, cycles, counts_of}
use Rattle.darts.specs.Pyramid.{Kernel, dart_count, build, kernel_of, cut, kernels_of, same_numbers, same_state, is_exactly, is_pyramid}
use Rattle.darts.specs.OneByOne.{operations_of, NoneEmpty}
use Rattle.darts.specs.Calls.{After, room, fitting, table_of, past_of, cleared, work_after, judged, hands_back, on_state, reduce_by, sweep_by, start}
use Rattle.laws.proofs.runs.Taking.{taken}
use Rattle.laws.proofs.chained.OnLent.{Call, by_kernel, by_sweep}
use Rattle.laws.proofs.chained.Based.{Based}
use Rattle.laws.proofs.chained.Chains.{calls, AllDone}
use Rattle.laws.proofs.chained.AnyOrder.{kernels, kernel, sweeping, operations_by, operations_in, EndsAlike}
use Rattle.grids.specs.Grid.{Grid, flat, sized, cells, cell, along, right_edge, up_edge, left_edge, down_edge, edges}
use Rattle.grids.specs.Base.{round_of, rounds, has, next_or, next_in, place_of, cell_of, successor_on, base_table}
use Rattle.grids.specs.Plans.{code_at, one_code, takes_first, first_kernel, fitting_plan, begun as begunBy, on_plan, plan_base, plan_areas}
use Rattle.grids.specs.Worked.{two_codes}
use Rattle.grids.proofs.Limits.{Limits}
use Rattle.grids.proofs.Chained.{table_based, plan_any_order, areas_any_order}

abbrev grid : Grid
grid = flat 3 2

within : Limits grid
within = record {
  some_wale = omega arith;
  two_round = λ z. absurd z;
  most_wales = omega arith;
  some_course = omega arith;
  most_courses = omega arith;
  two_cells = omega arith;
}

abbrev planned : After
planned = plan_base grid two_codes (replicate 14 9) (replicate 7 9) (replicate 56 9)

abbrev begun : After
begun = plan_areas grid two_codes (replicate 14 9) (replicate 7 9) (replicate 56 9)

abbrev contracting : List ℕ → Kernel
contracting es = record { kind = contraction; edges = es }

abbrev onwards : List Call
onwards = by_kernel (contracting (1 ∷ [])) ∷ by_sweep ∷ []

abbrev other : List Kernel
other = record { kind = removal; edges = 2 ∷ [] } ∷ contracting (1 ∷ 6 ∷ []) ∷ contracting (4 ∷ 3 ∷ 0 ∷ []) ∷ []

other_some : NoneEmpty other
other_some = (lit≤ tt, (lit≤ tt, (lit≤ tt, tt)))

abbrev contracted : ℕ → Operation
contracted e = record { kind = contraction; edge = e }

abbrev removed : ℕ → Operation
removed e = record { kind = removal; edge = e }

-- the plan's table, and numbers that are not looked at
abbrev entries : List ℕ
entries = 8 ∷ 2 ∷ 10 ∷ 12 ∷ 9 ∷ 11 ∷ 5 ∷ 13 ∷ 0 ∷ 4 ∷ 1 ∷ 6 ∷ 3 ∷ 7 ∷ 99 ∷ []

abbrev started : After
started = start 14 entries (replicate 8 8) (replicate 57 7)

started_based : Based 14 (base_table grid) started
unfolding rising cells cell along right_edge up_edge left_edge down_edge edges round_of rounds has next_or next_in place_of cell_of successor_on base_table
started_based = table_based grid within entries (replicate 8 8) (replicate 57 7) refl (record { table = lit≤ tt; history = lit≤ tt; work = lit≤ tt })

-- all the operations, first to last
abbrev told : List Operation
told = contracted 0 ∷ contracted 3 ∷ contracted 4 ∷ contracted 6 ∷ contracted 1 ∷ removed 2 ∷ []

begun_told : AllDone onwards begun × (operations_in (calls onwards begun) ≡ told)
unfolding partner meets_in successor face_next same_vertex same_face gone survives before_in before repeats culprit test_from permutation_test turned lead whole_edge remove contract operate number kind_of lead_of edge_of put_back undo_one undone shared judge rising pass_from pass run raised levelled reduce empty_loop takes swept_from swept sweep dart_count build kernel_of cut kernels_of same_numbers same_state is_exactly is_pyramid room fitting table_of past_of over cleared work_after judged hands_back on_state reduce_by sweep_by never_below lowest cycles counts_of taken sized cells cell along right_edge up_edge left_edge down_edge edges round_of rounds has next_or next_in place_of cell_of successor_on base_table code_at one_code takes_first first_kernel fitting_plan begunBy on_plan plan_base plan_areas
begun_told = ((refl, (refl, refl)), refl)

-- from the first call on, the first kernel is one like any other
abbrev whole : List Call
whole = by_kernel (contracting (0 ∷ 3 ∷ 4 ∷ 6 ∷ [])) ∷ onwards

planned_told : AllDone whole planned × (operations_by whole planned ≡ told)
unfolding partner meets_in successor face_next same_vertex same_face gone survives before_in before repeats culprit test_from permutation_test turned lead whole_edge remove contract operate number kind_of lead_of edge_of put_back undo_one undone shared judge rising pass_from pass run raised levelled reduce empty_loop takes swept_from swept sweep dart_count build kernel_of cut kernels_of same_numbers same_state is_exactly is_pyramid room fitting table_of past_of over cleared work_after judged hands_back on_state reduce_by sweep_by never_below lowest cycles counts_of taken sized cells cell along right_edge up_edge left_edge down_edge edges round_of rounds has next_or next_in place_of cell_of successor_on base_table code_at one_code takes_first first_kernel fitting_plan begunBy on_plan plan_base plan_areas
planned_told = ((refl, (refl, (refl, refl))), refl)

pub areas_alike : EndsAlike 14 (calls onwards begun) (kernels other) started
unfolding edges along
areas_alike =
    areas_any_order grid started_based other other_some (lit≤ tt) two_codes (replicate 14 9) (replicate 7 9) (replicate 56 9) onwards begun_told.0
    (rw begun_told.1 (Permᴰ.reverse (operations_of other)))

pub base_alike : EndsAlike 14 (calls whole planned) (kernels other) started
unfolding edges along
base_alike =
    plan_any_order grid started_based other other_some (lit≤ tt) two_codes (replicate 14 9) (replicate 7 9) (replicate 56 9) whole planned_told.0
    (kernel, (kernel, (sweeping, tt))) (rw planned_told.1 (Permᴰ.reverse (operations_of other)))
