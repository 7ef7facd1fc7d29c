-- Definitions 7 and 8 at the worked examples K3, K4, K5 and K7 of document 01: what the law says there is what the definitions compute.
--   base_pyramid                     == the base T, as a pyramid
--   k3_table, k4_table, k5_first     == the tables after K3, after K4's removal, and after the first contraction of K5
--   k3, k4, k5, k7                   == the definition at that operation, with the dart that plays p
use mathlib.Core.List.{List, [], ◌∷◌}
use mathlib.Core.Path.{◌≡◌, refl}
use Prim.Native.Nat.{ℕ}
use native.Mathlib.Omega.{arith}
use Rattle.permutations.specs.Partner.{partner}
use Rattle.permutations.specs.Cycle.{meets_in}
use Rattle.darts.specs.Map.{successor, face_next, same_vertex, same_face, gone, survives, before_in, before}
use Rattle.darts.specs.Operation.{turned, lead, whole_edge, remove, contract, operate}
use Rattle.darts.specs.Kernel.{shared, judge}
use Rattle.darts.specs.State.{base_state}
use Rattle.darts.specs.Pyramid.{Pyramid, build}
use Rattle.laws.proofs.runs.Pyramids.{built_pyramid}
use Rattle.laws.proofs.bridge.Definitions.{Definition7, Definition8, definition_7, definition_8}
use Rattle.laws.proofs.claims.Instances.{triangle, triangle_base, eight_darts, k5_table, k5_past, k5_pyramid, k7_table}

base_pyramid : Pyramid (base_state 8 triangle) triangle []
unfolding build
base_pyramid = built_pyramid 8 triangle eight_darts refl triangle_base [] refl

-- ---- K3, contract 3: a pending edge, s = q, and one entry is written

abbrev k3_table : List ℕ
k3_table = 5 ∷ 2 ∷ 1 ∷ 4 ∷ 3 ∷ 0 ∷ 3 ∷ 7 ∷ []

k3 : Definition8 (successor triangle) (before 8 triangle []) (successor k3_table) 6
unfolding partner meets_in successor same_vertex gone survives before_in before turned lead whole_edge contract operate shared judge
k3 = definition_8 base_pyramid 3 refl

-- the dart before 6 is 4: it leads to r, the successor of 6
k3_entry : successor k3_table 4 ≡ successor triangle 6
unfolding partner successor gone survives before_in before
k3_entry = k3.eq_9 refl

k3_computed : successor k3_table 4 ≡ successor triangle 6
unfolding successor
k3_computed = refl

-- ---- K4, remove 0: two entries are written

abbrev k4_table : List ℕ
k4_table = 5 ∷ 2 ∷ 2 ∷ 4 ∷ 6 ∷ 5 ∷ 3 ∷ 7 ∷ []

k4 : Definition7 (successor triangle) (before 8 triangle []) (successor k4_table) 0
unfolding partner meets_in successor face_next same_face gone survives before_in before turned lead whole_edge remove operate shared judge
k4 = definition_7 base_pyramid 0 refl

-- the dart before 0 is 5: it leads to r, the successor of 0; the dart before 1 is 2: it leads to s, the successor of 1
k4_entries : (successor k4_table 5 ≡ successor triangle 0) × (successor k4_table 2 ≡ successor triangle 1)
unfolding partner successor gone survives before_in before
k4_entries = (k4.eq_1 (λ e. omega arith), k4.eq_2 (λ e. omega arith))

k4_computed : (successor k4_table 5 ≡ successor triangle 0) × (successor k4_table 2 ≡ successor triangle 1)
unfolding successor
k4_computed = (refl, refl)

-- ---- K5, contract 0: two entries are written, exchanged

abbrev k5_first : List ℕ
k5_first = 5 ∷ 2 ∷ 5 ∷ 4 ∷ 6 ∷ 2 ∷ 3 ∷ 7 ∷ []

k5 : Definition8 (successor triangle) (before 8 triangle []) (successor k5_first) 0
unfolding partner meets_in successor same_vertex gone survives before_in before turned lead whole_edge contract operate shared judge
k5 = definition_8 base_pyramid 0 refl

k5_entries : (successor k5_first 5 ≡ successor triangle 1) × (successor k5_first 2 ≡ successor triangle 0)
unfolding partner successor gone survives before_in before
k5_entries = (k5.eq_7 (λ e. omega arith), k5.eq_8 (λ e. omega arith))

k5_computed : (successor k5_first 5 ≡ successor triangle 1) × (successor k5_first 2 ≡ successor triangle 0)
unfolding successor
k5_computed = (refl, refl)

-- ---- K7, after K5 remove 2: an empty loop from its other side, so 5 plays p, and one entry is written

k7 : Definition7 (successor k5_table) (before 8 k5_table k5_past) (successor k7_table) 5
unfolding partner meets_in successor face_next same_face gone survives before_in before turned lead whole_edge remove operate shared judge
k7 = definition_7 k5_pyramid 2 refl

-- the dart before 5 is 6, for dart 2 is gone: it leads to s, the successor of 4
k7_entry : successor k7_table 6 ≡ successor k5_table 4
unfolding partner successor gone survives before_in before
k7_entry = k7.eq_3 refl

k7_computed : successor k7_table 6 ≡ successor k5_table 4
unfolding successor
k7_computed = refl
