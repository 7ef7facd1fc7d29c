-- The laws of the stored numbers at document 01's map T, and at a map whose Euler number is below zero.
--   triangle, numbers, area == T, and a history and a work area that just fit
--   too_many                 == the state of T with one vertex too many
--   two_holes                == a map of one vertex, four edges and one face
use mathlib.Core.List.{List, [], ◌∷◌}
use mathlib.Core.Logic.{inl}
use mathlib.Core.Path.{◌≡◌, refl}
use Prim.Native.Nat.{ℕ}
use native.Mathlib.Omega.{arith}
use lib.Dec.{lit≤}
use lib.IntN.{negsuc}
use lib.ListN.{replicate}
use Rattle.permutations.specs.Partner.{partner}
use Rattle.permutations.specs.Cycle.{meets_in}
use Rattle.darts.specs.Answers.{no_pyramid, too_short}
use Rattle.darts.specs.Map.{successor, face_next, same_vertex, same_face, gone, survives, before_in, before, repeats, culprit, test_from, permutation_test}
use Rattle.darts.specs.Operation.{contraction, turned, lead, whole_edge, remove, contract, operate, number, kind_of, lead_of, edge_of, put_back, undo_one, undone}
use Rattle.darts.specs.Kernel.{shared, judge, pass_from, pass, run}
use Rattle.darts.specs.State.{State, base_state, raised, levelled, reduce}
use Rattle.darts.specs.Counts.{never_below, lowest, cycles, surviving, counts_of}
use Rattle.darts.specs.Pyramid.{dart_count, build, kernel_of, cut, kernels_of, same_numbers, same_state, is_exactly, is_pyramid}
use Rattle.darts.specs.Calls.{After, leaves, room, fitting, table_of, past_of, cleared, work_after, judged, hands_back, on_state, reduce_by, counts}
use Rattle.slices.specs.Over.{over}
use Rattle.laws.proofs.claims.NumbersTaken.{Takes}
use Rattle.laws.proofs.chained.OnLent.{by_kernel, by_undo, called}
use Rattle.laws.proofs.sentences.Numbers.{Right, called_right, reduce_takes, differ_called, unfit_called, edges_left, Euler, counts_euler}

abbrev triangle : List ℕ
triangle = 5 ∷ 2 ∷ 1 ∷ 4 ∷ 6 ∷ 0 ∷ 3 ∷ 7 ∷ []

abbrev numbers : List ℕ
numbers = replicate 4 9

abbrev area : List ℕ
area = replicate 32 9

-- ---- K3: "Contract 3"

abbrev k3 : After
k3 = reduce_by contraction (3 ∷ []) (base_state 8 triangle) triangle numbers area

k3_done : k3.answer.number ≡ 0
unfolding partner meets_in successor face_next same_vertex same_face gone survives before_in before repeats culprit test_from permutation_test turned lead whole_edge remove contract operate number kind_of lead_of edge_of put_back undo_one undone shared judge pass_from pass run raised levelled reduce dart_count build kernel_of cut kernels_of same_numbers same_state is_exactly is_pyramid room fitting table_of past_of over cleared work_after judged hands_back on_state reduce_by never_below lowest cycles counts_of
k3_done = refl

k3_right : Right k3
k3_right = called_right (base_state 8 triangle) triangle numbers area (by_kernel (record { kind = contraction; edges = 3 ∷ [] })) k3_done

k3_takes : Takes contraction 1 (base_state 8 triangle).vertices (base_state 8 triangle).faces k3.state.vertices k3.state.faces
k3_takes = reduce_takes (base_state 8 triangle) triangle numbers area contraction (3 ∷ []) k3_done

-- ---- one vertex too many, and a history too short

abbrev too_many : State
too_many = record { darts = 8; operations = 0; levels = 0; ends = replicate 64 0; vertices = 5; faces = 2 }

too_many_refused : called by_undo too_many triangle numbers area ≡ leaves no_pyramid too_many triangle numbers (cleared 8 area)
unfolding partner meets_in successor face_next gone survives never_below lowest cycles counts_of table_of past_of
too_many_refused =
    differ_called too_many triangle numbers area (record { even = refl; some = lit≤ tt; small = lit≤ tt })
    (record { table = lit≤ tt; history = lit≤ tt; work = lit≤ tt }) (inl (λ e. omega arith)) by_undo

too_many_short : called by_undo too_many triangle (replicate 3 9) area ≡ leaves too_short too_many triangle (replicate 3 9) area
unfolding dart_count room fitting
too_many_short = unfit_called too_many triangle (replicate 3 9) area (λ e. omega arith) by_undo

-- ---- "a signed number that may fall below zero"

abbrev two_holes : List ℕ
two_holes = 2 ∷ 3 ∷ 1 ∷ 4 ∷ 6 ∷ 7 ∷ 5 ∷ 0 ∷ []

below_zero : ((counts (base_state 8 two_holes) two_holes numbers area).answer.number ≡ 0)
    × ((counts (base_state 8 two_holes) two_holes numbers area).counts.euler ≡ negsuc 1)
unfolding partner meets_in successor face_next gone survives before_in before repeats culprit test_from permutation_test kind_of lead_of edge_of put_back undo_one undone dart_count build kernel_of cut kernels_of same_numbers same_state is_exactly is_pyramid room fitting table_of past_of judged counts never_below lowest cycles surviving counts_of
below_zero = (refl, refl)

-- and four edges
two_holes_euler : Euler 4 (counts (base_state 8 two_holes) two_holes numbers area).counts
unfolding gone survives past_of edges_left
two_holes_euler = counts_euler (base_state 8 two_holes) two_holes numbers area below_zero.0
