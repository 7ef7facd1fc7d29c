-- The claims at the worked examples K5, K6 and K7 of document 01: what they ask for can be met, and what they say is what the definitions compute.
--   triangle                    == the base T, "a triangle with one pending edge"
--   contracting es, removing es == the kernel that contracts es, that removes es
--   contracted e, removed e     == the operation that contracts e, that removes e
--   k5_state, k5_table, k5_past == what K5 ends with; k6 and k7 likewise
use mathlib.Core.List.Permᴰ
use mathlib.Core.List.{List, [], ◌∷◌, map}
use mathlib.Core.Path.{◌≡◌, refl, sym, ◌∙◌}
use Prim.Native.Nat.{ℕ, ◌<◌}
use lib.Dec.{T, lit≤}
use lib.ListN.{replicate}
use Rattle.permutations.specs.Partner.{partner}
use Rattle.permutations.specs.Cycle.{meets_in}
use Rattle.darts.specs.Answers.{one_face}
use Rattle.darts.specs.Map.{successor, face_next, same_vertex, same_face, gone, survives, before_in, before, repeats, culprit, permutes, test_from, permutation_test}
use Rattle.darts.specs.Operation.{contraction, removal, turned, lead, whole_edge, remove, contract, operate, number, kind_of, lead_of, edge_of, put_back, undo_one, undone}
use Rattle.darts.specs.Kernel.{Operation, stands, stops, shared, judge, rising, pass_from, pass, run}
use Rattle.darts.specs.State.{State, base_state, gives, raised, levelled, reduce}
use Rattle.darts.specs.Levels.{empty_loop, takes, swept_from, swept, sweep, end_below, lowered, undo_level}
use Rattle.darts.specs.Counts.{never_below, lowest, cycles, counts_of}
use Rattle.darts.specs.Pyramid.{Kernel, Pyramid, dart_count, build, kernel_of, cut, kernels_of, same_numbers, same_state, is_exactly, is_pyramid}
use Rattle.darts.specs.OneByOne.{one_by_one}
use Rattle.laws.proofs.runs.Results.{same_result}
use Rattle.laws.proofs.runs.Pyramids.{built_pyramid, reduce_pyramid, sweep_pyramid}
use Rattle.laws.proofs.runs.Undo.{undo_returns}
use Rattle.laws.proofs.claims.Decided.{base_undone, pyramid_decided}
use Rattle.laws.proofs.claims.AnyOrder.{Agrees, ListAgrees, other_order, any_order, any_cut, pyramid_order}

abbrev pub triangle : List ℕ
triangle = 5 ∷ 2 ∷ 1 ∷ 4 ∷ 6 ∷ 0 ∷ 3 ∷ 7 ∷ []

abbrev state_of : ℕ → ℕ → List ℕ → ℕ → ℕ → State
state_of n l ends v f = record { darts = 8; operations = n; levels = l; ends = ends; vertices = v; faces = f }

abbrev contracting : List ℕ → Kernel
contracting es = record { kind = contraction; edges = es }

abbrev removing : List ℕ → Kernel
removing es = record { kind = removal; edges = es }

-- ---- K5 and K6: contract 0, 1 against contract 1, 0

abbrev pub k5_table : List ℕ
k5_table = 5 ∷ 2 ∷ 5 ∷ 4 ∷ 6 ∷ 4 ∷ 5 ∷ 7 ∷ []

abbrev pub k5_state : State
k5_state = state_of 2 1 (2 ∷ replicate 63 0) 2 2

abbrev pub k5_past : List ℕ
k5_past = 5 ∷ 1 ∷ []

abbrev k6_table : List ℕ
k6_table = 5 ∷ 4 ∷ 1 ∷ 4 ∷ 6 ∷ 4 ∷ 5 ∷ 7 ∷ []

pub triangle_base : permutation_test 8 triangle ≡ permutes
unfolding successor repeats culprit test_from permutation_test
triangle_base = refl

pub eight_darts : T (dart_count 8)
unfolding dart_count
eight_darts = tt

k5_built : build (base_state 8 triangle) triangle [] (contracting (0 ∷ 1 ∷ []) ∷ []) ≡ gives k5_state k5_table k5_past
unfolding partner meets_in successor same_vertex gone survives before_in before turned lead whole_edge contract operate number shared judge pass_from pass run raised levelled reduce build face_next never_below lowest cycles counts_of
k5_built = refl

k6_built : build (base_state 8 triangle) triangle [] (contracting (1 ∷ 0 ∷ []) ∷ []) ≡ gives k5_state k6_table (1 ∷ 5 ∷ [])
unfolding partner meets_in successor same_vertex gone survives before_in before turned lead whole_edge contract operate number shared judge pass_from pass run raised levelled reduce build face_next never_below lowest cycles counts_of
k6_built = refl

-- the claim, at K5's kernel in K6's order
k6_agrees : Agrees 8 k5_table k5_past (build (base_state 8 triangle) triangle [] (contracting (1 ∷ 0 ∷ []) ∷ []))
k6_agrees =
    any_cut 8 triangle eight_darts refl triangle_base (contracting (0 ∷ 1 ∷ []) ∷ []) (contracting (1 ∷ 0 ∷ []) ∷ []) k5_built
    (Permᴰ.swap refl refl) (lit≤ tt, tt) (lit≤ tt)

-- the claim, at K5's operations in two levels
two_levels_agree : Agrees 8 k5_table k5_past (build (base_state 8 triangle) triangle [] (contracting (1 ∷ []) ∷ contracting (0 ∷ []) ∷ []))
two_levels_agree =
    any_cut 8 triangle eight_darts refl triangle_base (contracting (0 ∷ 1 ∷ []) ∷ []) (contracting (1 ∷ []) ∷ contracting (0 ∷ []) ∷ []) k5_built
    (Permᴰ.swap refl refl) (lit≤ tt, (lit≤ tt, tt)) (lit≤ tt)

-- so every survivor of K5 has the same successor in K6
k6_successors : (d : ℕ) → d < 8 → T (survives k5_past d) → successor k6_table d ≡ successor k5_table d
k6_successors =
    same_result (λ s u new. (d : ℕ) → d < 8 → T (survives k5_past d) → successor u d ≡ successor k5_table d) (sym k6_agrees.accepted ∙ k6_built)
    k6_agrees.alike.successors

-- "Survivors 4 to 7 agree with K5."
k6_computed : map (successor k6_table) (4 ∷ 5 ∷ 6 ∷ 7 ∷ []) ≡ map (successor k5_table) (4 ∷ 5 ∷ 6 ∷ 7 ∷ [])
unfolding successor
k6_computed = refl

-- ---- operations one by one, kinds mixed as they come

abbrev contracted : ℕ → Operation
contracted e = record { kind = contraction; edge = e }

abbrev removed : ℕ → Operation
removed e = record { kind = removal; edge = e }

-- K3, and then K4's removal
abbrev mixed_table : List ℕ
mixed_table = 5 ∷ 2 ∷ 2 ∷ 4 ∷ 3 ∷ 5 ∷ 3 ∷ 7 ∷ []

mixed_stands : one_by_one 8 triangle [] (contracted 3 ∷ removed 0 ∷ []) ≡ stands mixed_table (0 ∷ 13 ∷ [])
unfolding partner meets_in successor face_next same_vertex same_face gone survives before_in before turned lead whole_edge remove contract operate number shared judge pass_from pass one_by_one
mixed_stands = refl

-- the claim, at the other order, and the same by computation
mixed_agrees : ListAgrees 8 mixed_table (0 ∷ 13 ∷ []) (one_by_one 8 triangle [] (removed 0 ∷ contracted 3 ∷ []))
mixed_agrees =
    other_order 8 triangle eight_darts refl triangle_base (contracted 3 ∷ removed 0 ∷ []) mixed_stands (removed 0 ∷ contracted 3 ∷ [])
    (Permᴰ.swap refl refl)

mixed_computed : one_by_one 8 triangle [] (removed 0 ∷ contracted 3 ∷ []) ≡ stands mixed_table (13 ∷ 0 ∷ [])
unfolding partner meets_in successor face_next same_vertex same_face gone survives before_in before turned lead whole_edge remove contract operate number shared judge pass_from pass one_by_one
mixed_computed = refl

-- "each judged on the map as it stands at its turn": after K4's removal the next one is refused, at its place
mixed_stops : one_by_one 8 triangle [] (contracted 3 ∷ removed 0 ∷ removed 1 ∷ []) ≡ stops (one_face 2)
unfolding partner meets_in successor face_next same_vertex same_face gone survives before_in before turned lead whole_edge remove contract operate number shared judge pass_from pass one_by_one
mixed_stops = refl

-- ---- K7: after K5, remove 2

abbrev pub k7_table : List ℕ
k7_table = 5 ∷ 2 ∷ 5 ∷ 4 ∷ 6 ∷ 4 ∷ 6 ∷ 7 ∷ []

abbrev k7_state : State
k7_state = state_of 3 2 (2 ∷ 3 ∷ replicate 62 0) 2 1

abbrev k7_past : List ℕ
k7_past = 10 ∷ 5 ∷ 1 ∷ []

pub k5_pyramid : Pyramid k5_state k5_table k5_past
k5_pyramid = built_pyramid 8 triangle eight_darts refl triangle_base (contracting (0 ∷ 1 ∷ []) ∷ []) k5_built

k7_reduced : reduce removal (2 ∷ []) k5_state k5_table k5_past ≡ gives k7_state k7_table k7_past
unfolding partner meets_in successor face_next same_face gone survives before_in before turned lead whole_edge remove operate number shared judge pass_from pass run raised levelled reduce never_below lowest cycles counts_of
k7_reduced = refl

-- the claim, at K7's operations one by one with the removal between the two contractions; here the last contraction turns round
between_stands : one_by_one 8 triangle [] (contracted 0 ∷ removed 2 ∷ contracted 1 ∷ []) ≡ stands (5 ∷ 2 ∷ 2 ∷ 6 ∷ 6 ∷ 2 ∷ 6 ∷ 7 ∷ []) (7 ∷ 8 ∷ 1 ∷ [])
unfolding partner meets_in successor face_next same_vertex same_face gone survives before_in before turned lead whole_edge remove contract operate number shared judge pass_from pass one_by_one
between_stands = refl

k7_agrees : Agrees 8 (5 ∷ 2 ∷ 2 ∷ 6 ∷ 6 ∷ 2 ∷ 6 ∷ 7 ∷ []) (7 ∷ 8 ∷ 1 ∷ []) (build (base_state 8 triangle) triangle [] (contracting (0 ∷ 1 ∷ []) ∷ removing (2 ∷ []) ∷ []))
k7_agrees =
    any_order 8 triangle eight_darts refl triangle_base (contracted 0 ∷ removed 2 ∷ contracted 1 ∷ []) between_stands
    (contracting (0 ∷ 1 ∷ []) ∷ removing (2 ∷ []) ∷ []) (Permᴰ.cons refl (Permᴰ.swap refl refl)) (lit≤ tt, (lit≤ tt, tt)) (lit≤ tt)

-- the claim, at K7's pyramid, whose top level the sweep makes too; its operations from the last to the first, in two levels
k7_swept : sweep k5_state k5_table k5_past ≡ gives k7_state k7_table k7_past
unfolding partner meets_in successor face_next same_face gone survives before_in before turned lead whole_edge remove operate number shared judge raised levelled empty_loop takes rising swept_from swept sweep never_below lowest cycles counts_of
k7_swept = refl

k7_pyramid : Pyramid k7_state k7_table k7_past
k7_pyramid = sweep_pyramid k5_pyramid k7_swept

k7_base : k7_pyramid.base ≡ triangle
unfolding partner successor gone survives before_in before kind_of lead_of put_back undo_one undone
k7_base = sym (base_undone k7_pyramid)

swept_agrees : Agrees 8 k7_table k7_past (build (base_state 8 triangle) triangle [] (removing (2 ∷ []) ∷ contracting (1 ∷ 0 ∷ []) ∷ []))
unfolding kind_of edge_of
swept_agrees =
    rw k7_base at (pyramid_order k7_pyramid (removing (2 ∷ []) ∷ contracting (1 ∷ 0 ∷ []) ∷ [])
    (Permᴰ.reverse (removed 2 ∷ contracted 1 ∷ contracted 0 ∷ [])) (lit≤ tt, (lit≤ tt, tt)) (lit≤ tt))

-- the claim, and the same by computation
k7_undone : undo_level k7_state k7_table k7_past ≡ gives k5_state k5_table k5_past
k7_undone = undo_returns k5_pyramid removal (2 ∷ []) k7_reduced

k7_computed : undo_level k7_state k7_table k7_past ≡ gives k5_state k5_table k5_past
unfolding partner successor gone survives before_in before kind_of lead_of put_back undo_one undone end_below lowered undo_level face_next never_below lowest cycles counts_of
k7_computed = refl

-- the decision's yes and no: K7, and K7 with the history number of a removal of edge 3
k7_decided : T (is_pyramid k7_state k7_table k7_past)
k7_decided = (pyramid_decided k7_state k7_table k7_past).1 (reduce_pyramid k5_pyramid removal (2 ∷ []) k7_reduced)

k7_damaged : ¬ Pyramid k7_state k7_table (12 ∷ 5 ∷ 1 ∷ [])
unfolding partner meets_in successor face_next same_vertex same_face gone survives before_in before repeats culprit test_from permutation_test turned lead whole_edge remove contract operate number kind_of lead_of edge_of put_back undo_one undone shared judge pass_from pass run raised levelled reduce dart_count build kernel_of cut kernels_of same_numbers same_state is_exactly is_pyramid never_below lowest cycles counts_of
k7_damaged = (pyramid_decided k7_state k7_table (12 ∷ 5 ∷ 1 ∷ [])).1
