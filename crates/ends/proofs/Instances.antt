-- The claims over the call at K12 of document 01, whose base is map T: what they ask for can be met, and what they say is what the definitions compute.
--   k12              == the pyramid: contract 0, 1, then remove 2
--   base, ends, work == what is lent; the last number of each is not looked at
--   k12_lends        == base and ends are those of the pyramid
--   level_2 and level_1 == the claim there, for dart 6, and the same by computation
--   gone_4, above_3, no_dart == the refusals
--   unfold_1, unfold_3 == the lookup agrees with the call unfold, at level 1 and above the top
--   other, other_kind == the other number for the edge that survives
--   no_pyramid_lem       == ends of two parallel edges, both contracted, come from no pyramid
use mathlib.Core.List.{List, [], ◌∷◌}
use mathlib.Core.Logic.{◌↔◌}
use mathlib.Core.Path.{◌≡◌, refl}
use Prim.Native.Nat.{ℕ, zero, suc, ◌≤◌, ◌<◌}
use native.Mathlib.Omega.{arith}
use lib.Dec.{T, lit≤}
use lib.ListN.{get_or, replicate, take}
use Rattle.slices.specs.Over.{over}
use Rattle.permutations.specs.Partner.{partner}
use Rattle.permutations.specs.Cycle.{meets_in}
use Rattle.permutations.specs.Live.{any, has}
use Rattle.darts.specs.Map.{successor, face_next, same_vertex, same_face, gone, survives, before_in, before, repeats, culprit, test_from, permutation_test}
use Rattle.darts.specs.Operation.{contraction, removal, turned, lead, whole_edge, remove, contract, operate, number, kind_of, lead_of, edge_of, put_back, undo_one, undone}
use Rattle.darts.specs.Kernel.{shared, judge, rising, pass_from, pass, run}
use Rattle.darts.specs.State.{State, base_state, gives, raised, levelled, reduce}
use Rattle.darts.specs.Levels.{end_below, lowered, undo_level, undo_levels, unfold_to}
use Rattle.darts.specs.Counts.{never_below, lowest, cycles, counts_of}
use Rattle.darts.specs.Pyramid.{Kernel, Pyramid, dart_count, build, kernel_of, cut, kernels_of, same_numbers, same_state, is_exactly, is_pyramid}
use Rattle.darts.specs.OneByOne.{one_by_one}
use Rattle.darts.specs.Tests.{same_kind}
use Rattle.darts.specs.Calls.{After, room, fitting, table_of, past_of, cleared, work_after, judged as judgedOn, hands_back, on_state, unfold_by}
use Rattle.laws.proofs.claims.Instances.{triangle, triangle_base, eight_darts, k5_state, k5_table, k5_past, k7_table}
use Rattle.laws.proofs.calls.Judging.{Lent}
use Rattle.laws.proofs.sentences.Order.{Answers}
use Rattle.laws.proofs.sentences.Tops.{unfold_twelve}
use Rattle.ends.specs.Ends.{level_of, end_of, ends_by, gone_by, top, first_at, in_use, one_kind, shaped, ending_from, ending}
use Rattle.ends.specs.Walk.{onward_by, onward, walk_from, walk}
use Rattle.ends.specs.Comes.{end_in, ends_in, ends_so, Comes, operations, accepted, comes}
use Rattle.ends.specs.Lookup.{judged, successor_at}
use Rattle.ends.proofs.LookedAt.{AlikeLooked, successor_looks}
use Rattle.ends.proofs.Call.{Unfolds, Lends, own_ends, pyramid_call, pyramid_gone, pyramid_above, pyramid_outside, call_four}
use Rattle.ends.proofs.ByUnfold.{past_in, Entry, by_unfold}

-- ---- the pyramid

abbrev kernels : List Kernel
kernels = record { kind = contraction; edges = 0 ∷ 1 ∷ [] } ∷ record { kind = removal; edges = 2 ∷ [] } ∷ []

abbrev top_state : State
top_state = record { darts = 8; operations = 3; levels = 2; ends = 2 ∷ 3 ∷ replicate 62 0; vertices = 2; faces = 1 }

abbrev top_past : List ℕ
top_past = 10 ∷ 5 ∷ 1 ∷ []

built : build (base_state 8 triangle) triangle [] kernels ≡ gives top_state k7_table top_past
unfolding partner meets_in successor face_next same_vertex same_face gone survives before_in before turned lead whole_edge remove contract operate number shared judge pass_from pass run raised levelled reduce build never_below lowest cycles counts_of
built = refl

abbrev k12 : Pyramid top_state k7_table top_past
k12 = record { count = eight_darts; base = triangle; size = refl; permutation = triangle_base; kernels = kernels; built = built }

-- ---- what is lent

abbrev base : List ℕ
base = 5 ∷ 2 ∷ 1 ∷ 4 ∷ 6 ∷ 0 ∷ 3 ∷ 7 ∷ 9 ∷ []

abbrev ends : List ℕ
ends = 3 ∷ 3 ∷ 4 ∷ 0 ∷ 131 ∷ []

abbrev work : List ℕ
work = replicate 33 7

k12_ends : take 4 ends ≡ ends_in top_state top_past
unfolding rising end_in has any number kind_of edge_of lead_of kernel_of cut kernels_of ends_in
k12_ends = refl

k12_lends : Lends k12 base ends work
k12_lends = own_ends k12 base ends work refl k12_ends (record { table = lit≤ tt; history = lit≤ tt; work = lit≤ tt })

-- ---- dart 6 at levels 2 and 1

to_2 : unfold_to 2 top_state k7_table top_past ≡ gives top_state k7_table top_past
unfolding unfold_to undo_levels
to_2 = refl

to_1 : unfold_to 1 top_state k7_table top_past ≡ gives k5_state k5_table k5_past
unfolding partner successor gone survives before_in before kind_of lead_of put_back undo_one undone end_below lowered undo_level undo_levels unfold_to face_next never_below lowest cycles counts_of
to_1 = refl

-- the claim, and what it says by computation: as many darts are passed as it allows
level_2 : Unfolds 6 top_state k7_table (successor_at 8 2 6 base ends work)
unfolding survives gone lead_of
level_2 = pyramid_call k12 base ends work k12_lends 2 to_2 6 (lit≤ tt) tt

found_2 : (successor_at 8 2 6 base ends work).found.dart ≡ 6
unfolding successor
found_2 = level_2.dart

passed_2 : (successor_at 8 2 6 base ends work).found.passed ≤ 6
passed_2 = level_2.passed

computed_2 : (successor_at 8 2 6 base ends work).found ≡ record { dart = 6; passed = 6 }
unfolding partner meets_in successor face_next same_vertex same_face gone survives before_in before repeats culprit test_from permutation_test turned lead whole_edge remove contract operate number kind_of shared judge pass_from pass same_kind one_by_one dart_count room fitting level_of end_of ends_by gone_by top first_at in_use one_kind shaped ending_from ending onward_by onward walk_from walk operations accepted comes judged successor_at
computed_2 = refl

level_1 : Unfolds 6 k5_state k5_table (successor_at 8 1 6 base ends work)
unfolding survives gone lead_of
level_1 = pyramid_call k12 base ends work k12_lends 1 to_1 6 (lit≤ tt) tt

found_1 : (successor_at 8 1 6 base ends work).found.dart ≡ 5
unfolding successor
found_1 = level_1.dart

computed_1 : (successor_at 8 1 6 base ends work).found ≡ record { dart = 5; passed = 2 }
unfolding partner meets_in successor face_next same_vertex same_face gone survives before_in before repeats culprit test_from permutation_test turned lead whole_edge remove contract operate number kind_of shared judge pass_from pass same_kind one_by_one dart_count room fitting level_of end_of ends_by gone_by top first_at in_use one_kind shaped ending_from ending onward_by onward walk_from walk operations accepted comes judged successor_at
computed_1 = refl

-- ---- the refusals

gone_4 : Answers (successor_at 8 2 4 base ends work).answer 8 0
unfolding gone lead_of
gone_4 = pyramid_gone k12 base ends work k12_lends 2 to_2 4 (lit≤ tt) tt

above_3 : Answers (successor_at 8 3 6 base ends work).answer 12 2
above_3 = pyramid_above k12 base ends work k12_lends 3 6 (lit≤ tt)

no_dart : Answers (successor_at 8 2 8 base ends work).answer 7 0
no_dart = pyramid_outside k12 base ends work k12_lends 2 8 (lit≤ tt) (lit≤ tt)

-- ---- the call unfold

-- K12 itself, lent; the last number of each is not looked at
abbrev table : List ℕ
table = 5 ∷ 2 ∷ 5 ∷ 4 ∷ 6 ∷ 4 ∷ 6 ∷ 7 ∷ 9 ∷ []

abbrev history : List ℕ
history = 1 ∷ 5 ∷ 10 ∷ 7 ∷ 9 ∷ []

unfoldable k12_lent : Lent top_state table history work
unfolding table_of past_of
k12_lent = record { pyramid = k12; lengths = record { table = lit≤ tt; history = lit≤ tt; work = lit≤ tt } }

lent_lends : Lends k12_lent.pyramid base ends work
unfolding k12_lent table_of past_of
lent_lends = k12_lends

abbrev level1 : After
level1 = unfold_by 1 top_state table history work

level1_done : (level1.answer.number ≡ 0) × T (survives (past_in level1) 6)
unfolding partner meets_in successor face_next same_vertex same_face gone survives before_in before repeats culprit test_from permutation_test turned lead whole_edge remove contract operate number kind_of lead_of edge_of put_back undo_one undone shared judge pass_from pass run raised levelled reduce end_below lowered undo_level undo_levels unfold_to dart_count build kernel_of cut kernels_of same_numbers same_state is_exactly is_pyramid room fitting table_of past_of over cleared work_after judgedOn hands_back on_state unfold_by never_below lowest cycles counts_of
level1_done = (refl, tt)

-- the entry of dart 6 in the table that unfold to level 1 leaves is the dart found
unfold_1 : Entry 6 level1 (successor_at 8 1 6 base ends work)
unfold_1 = (by_unfold k12_lent lent_lends 1 6).found level1_done.0 (lit≤ tt) level1_done.1

-- and above the top both answer 12
unfold_3 : Answers (unfold_by 3 top_state table history work).answer 12 2 × Answers (successor_at 8 3 6 base ends work).answer 12 2
unfold_3 =
    let u = unfold_twelve top_state table history work k12_lent 3 (lit≤ tt) in
    (u, rw u.place at ((by_unfold k12_lent lent_lends 3 6).twelve u.number))

-- ---- what is looked at

abbrev other : List ℕ
other = 3 ∷ 3 ∷ 4 ∷ 1 ∷ []

-- "its kind is not looked at"
told : (e : ℕ) → e < 4 → T (ends_so (get_or ends e 0) (get_or other e 0))
unfolding ends_so level_of
told zero l = tt
told (suc zero) l = tt
told (suc (suc zero)) l = tt
told (suc (suc (suc zero))) l = tt
told (suc (suc (suc (suc e)))) l = absurd (omega arith)

other_kind : AlikeLooked 8 (successor_at 8 2 6 base ends work) (successor_at 8 2 6 triangle other (replicate 32 5))
other_kind = successor_looks (record { table = refl; ends = told; ends_room = here; work_room = (λ l. lit≤ tt, λ l. lit≤ tt) }) 2 6
  where
    here : (4 ≤ 5) ↔ (4 ≤ 4)
    here = (λ l. lit≤ tt, λ l. lit≤ tt)

-- the decision's no, and what it means
abbrev parallel : List ℕ
parallel = 2 ∷ 3 ∷ 0 ∷ 1 ∷ []

four : (successor_at 4 0 0 parallel (3 ∷ 3 ∷ []) (replicate 16 0)).answer.number ≡ 4
unfolding partner meets_in successor face_next same_vertex same_face gone survives before_in before repeats culprit test_from permutation_test turned lead whole_edge remove contract operate number kind_of shared judge pass_from pass same_kind one_by_one dart_count room fitting level_of end_of ends_by gone_by top first_at in_use one_kind shaped ending_from ending onward_by onward walk_from walk operations accepted comes judged successor_at
four = refl

no_pyramid_lem : ¬ (Comes 4 parallel (3 ∷ 3 ∷ []))
no_pyramid_lem = ((call_four 4 0 0 parallel (3 ∷ 3 ∷ []) (replicate 16 0)).0 four).1
