-- K1, K3, K5, K7, K8, K10 and K11, and both culprits and the stored numbers of document 02, computed by the definitions.
--   T, k3, k5, k7                     == the tables of map T
--   repeats_one, out_of_range, alone  == those of two darts, in a table that goes on behind them
--   repeats_first, out_of_range_first == those of four darts, with both faults
--   nothing, h3, h5, h7               == the histories
--   zones                             == the kernel of K5
--   computed                          == the rows, in the program's order
--   from                              == what holds of what the definitions leave holds of what a run left
use mathlib.Core.List.{List, [], ◌∷◌}
use mathlib.Core.Path.{◌≡◌, refl, ap, ◌∙◌}
use Prim.Native.Nat.{ℕ}
use Rattle.permutations.specs.Partner.{partner}
use Rattle.permutations.specs.Cycle.{meets_in}
use Rattle.darts.specs.Map.{successor, face_next, same_vertex, same_face, gone, survives, before_in, before, repeats, culprit, test_from, permutation_test}
use Rattle.darts.specs.Operation.{turned, lead, whole_edge, remove, contract, operate, number, kind_of, lead_of, edge_of, put_back, undo_one, undone as undoneOf, contraction, removal}
use Rattle.darts.specs.Kernel.{shared, judge, rising, pass_from, pass, run}
use Rattle.darts.specs.State.{raised, levelled, reduce}
use Rattle.darts.specs.Levels.{empty_loop, takes, swept_from, swept as sweptOf, sweep, end_below, lowered, undo_level, undo_levels, unfold_to}
use Rattle.darts.specs.Pyramid.{dart_count, build, kernel_of, cut, kernels_of, same_numbers, same_state, is_exactly, is_pyramid}
use Rattle.darts.specs.Calls.{After, room, fitting, table_of, past_of, cleared, work_after, judged, begins, start, hands_back, on_state, reduce_by, sweep_by, undo_by, unfold_by}
use Rattle.darts.specs.Counts.{never_below, lowest, cycles, surviving, counts_of}
use Rattle.slices.specs.Over.{over}
use Rattle.worked.specs.Chain.{started, reduced, swept, undone, unfolded, stored, Left, left_of, left_is}

abbrev T : List ℕ
T = 5 ∷ 2 ∷ 1 ∷ 4 ∷ 6 ∷ 0 ∷ 3 ∷ 7 ∷ []

abbrev k3 : List ℕ
k3 = 5 ∷ 2 ∷ 1 ∷ 4 ∷ 3 ∷ 0 ∷ 3 ∷ 7 ∷ []

abbrev k5 : List ℕ
k5 = 5 ∷ 2 ∷ 5 ∷ 4 ∷ 6 ∷ 4 ∷ 5 ∷ 7 ∷ []

abbrev k7 : List ℕ
k7 = 5 ∷ 2 ∷ 5 ∷ 4 ∷ 6 ∷ 4 ∷ 6 ∷ 7 ∷ []

abbrev repeats_one : List ℕ
repeats_one = 1 ∷ 1 ∷ 9 ∷ 9 ∷ 9 ∷ 9 ∷ 9 ∷ 9 ∷ []

abbrev out_of_range : List ℕ
out_of_range = 0 ∷ 2 ∷ 9 ∷ 9 ∷ 9 ∷ 9 ∷ 9 ∷ 9 ∷ []

abbrev alone : List ℕ
alone = 1 ∷ 0 ∷ 9 ∷ 9 ∷ 9 ∷ 9 ∷ 9 ∷ 9 ∷ []

abbrev repeats_first : List ℕ
repeats_first = 2 ∷ 0 ∷ 0 ∷ 9 ∷ 9 ∷ 9 ∷ 9 ∷ 9 ∷ []

abbrev out_of_range_first : List ℕ
out_of_range_first = 2 ∷ 9 ∷ 2 ∷ 0 ∷ 9 ∷ 9 ∷ 9 ∷ 9 ∷ []

abbrev nothing : List ℕ
nothing = 0 ∷ 0 ∷ 0 ∷ 0 ∷ []

abbrev h3 : List ℕ
h3 = 13 ∷ 0 ∷ 0 ∷ 0 ∷ []

abbrev h5 : List ℕ
h5 = 1 ∷ 5 ∷ 0 ∷ 0 ∷ []

abbrev h7 : List ℕ
h7 = 1 ∷ 5 ∷ 10 ∷ 0 ∷ []

abbrev zones : After
zones = reduced contraction (0 ∷ 1 ∷ []) (started 8 T)

pub computed :
    (left_of (started 8 T) ≡ left_is (0, 0, 0) T nothing (4, 2))
    × (left_of (reduced contraction (3 ∷ []) (started 8 T)) ≡ left_is (0, 0, 0) k3 h3 (3, 2))
    × (left_of zones ≡ left_is (0, 0, 0) k5 h5 (2, 2))
    × (left_of (reduced removal (0 ∷ 0 ∷ []) (started 8 T)) ≡ left_is (8, 1, 0) T nothing (4, 2))
    × (left_of (reduced contraction (2 ∷ []) zones) ≡ left_is (9, 0, 0) k5 h5 (2, 2))
    × (left_of (reduced removal (2 ∷ []) zones) ≡ left_is (0, 0, 0) k7 h7 (2, 1))
    × (left_of (swept zones) ≡ left_is (0, 0, 0) k7 h7 (2, 1))
    × (left_of (undone (swept zones)) ≡ left_is (0, 0, 0) k5 h7 (2, 2))
    × (left_of (reduced contraction (3 ∷ []) (swept zones)) ≡ left_is (11, 0, 0) k7 h7 (2, 1))
    × (left_of (reduced removal (3 ∷ []) (swept zones)) ≡ left_is (10, 0, 0) k7 h7 (2, 1))
    × (left_of (started 2 repeats_one) ≡ left_is (3, 1, 0) repeats_one nothing (0, 0))
    × (left_of (started 2 out_of_range) ≡ left_is (3, 1, 2) out_of_range nothing (0, 0))
    × (left_of (started 2 alone) ≡ left_is (0, 0, 0) alone nothing (1, 2))
    × (left_of (reduced removal (0 ∷ []) (started 2 alone)) ≡ left_is (11, 0, 0) alone nothing (1, 2))
    × (left_of (started 4 repeats_first) ≡ left_is (3, 2, 1) repeats_first nothing (0, 0))
    × (left_of (started 4 out_of_range_first) ≡ left_is (3, 1, 4) out_of_range_first nothing (0, 0))
    × (left_of (unfolded 0 (swept zones)) ≡ left_is (0, 0, 0) T h7 (4, 2))
    × (left_of (swept (stored 2 2 zones)) ≡ left_is (0, 0, 0) k7 h7 (2, 1))
    × (left_of (reduced contraction (3 ∷ []) (stored 5 2 (started 8 T))) ≡ left_is (4, 0, 0) T nothing (5, 2))
    × (left_of (swept (stored 5 2 (started 8 T))) ≡ left_is (4, 0, 0) T nothing (5, 2))
    × (left_of (undone (stored 3 1 zones)) ≡ left_is (4, 0, 0) k5 h5 (3, 1))
    × (left_of (unfolded 0 (stored 3 1 zones)) ≡ left_is (4, 0, 0) k5 h5 (3, 1))
unfolding partner meets_in successor face_next same_vertex same_face gone survives before_in before repeats culprit test_from permutation_test turned lead whole_edge remove contract operate number kind_of lead_of edge_of put_back undo_one undoneOf shared judge pass_from pass run raised levelled reduce empty_loop takes rising swept_from sweptOf sweep end_below lowered undo_level undo_levels dart_count build kernel_of cut kernels_of same_numbers same_state is_exactly is_pyramid room fitting table_of past_of over cleared work_after judged begins start hands_back on_state reduce_by sweep_by undo_by never_below lowest cycles surviving counts_of unfold_to unfold_by
computed = (refl, refl, refl, refl, refl, refl, refl, refl, refl, refl, refl, refl, refl, refl, refl, refl, refl, refl, refl, refl, refl, refl)

pub from : {a b : After} {l : Left} → a ≡ b → left_of b ≡ l → left_of a ≡ l
from e k = ap left_of e ∙ k

-- the zones of K5, of a start and a kernel
pub zones_left : {a b : After} → a ≡ reduced contraction (0 ∷ 1 ∷ []) b → b ≡ started 8 T → a ≡ zones
zones_left e f = e ∙ ap (reduced contraction (0 ∷ 1 ∷ [])) f
