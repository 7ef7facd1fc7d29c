-- The laws at a map: base T of eight darts, a triangle with one pending edge.
--   listed l x  == entry x of the list l, and x itself past its end
--   successors  == the successor of each dart in T
--   befores     == the dart before each
--   triangle    == the map T
--   corner x    == a label for the vertex of x, its lowest dart
--   side x      == a label for the face of x, its lowest dart
--   each t n    == the test t passes for every number below n
use mathlib.Core.Bool.{Bool, true, ◌&&◌, not, false}
use mathlib.Core.List.Permᴰ
use mathlib.Core.List.{List, ◌∷◌, []}
use mathlib.Core.Logic.Iff
use mathlib.Core.Logic.{◌↔◌, inl}
use mathlib.Core.Path.{◌≡◌, refl, subst}
use Prim.Native.Nat.{ℕ, suc, zero, ◌<◌, ◌≤◌, ◌+◌}
use native.Mathlib.Decide.{ℕ_discrete, dec_lt}
use native.Mathlib.Nat.{not-suc-le-zero}
use native.Mathlib.Omega.{arith}
use lib.Dec.{ltb, T, eqb, eqb→eq, nltb→le, not_T, ltb→lt, lt→ltb, T_not}
use lib.ListN.{get_or, length, get_or-eq_default}
use Rattle.permutations.specs.Choice.{and_right, and_left, T-ext, pick, eqb_iff}
use Rattle.permutations.specs.Partner.{partner}
use Rattle.permutations.proofs.PartnerLemmas.{partner_partner, partner_below}
use Rattle.permutations.specs.Perm.{Perm, without}
use Rattle.permutations.specs.Splice.{splice, skip, crossed, swap}
use Rattle.permutations.specs.Cycle.{meets_in, meets_iff}
use Rattle.permutations.specs.Live.{darts, any, off}
use Rattle.permutations.proofs.Classes.{classes}
use Rattle.permutations.proofs.Cycles.{cycles}
use Rattle.permutations.specs.Map.{Map, Good, face, mate, off_edge}
use Rattle.permutations.proofs.Dual.{face_perm}
use Rattle.permutations.proofs.Legal.{Removable, Op, Contract, Remove, AllLegal, run, Whole}
use Rattle.permutations.proofs.Tests.{remove_test, whole_test, remove_iff}
use Rattle.permutations.proofs.Order.{Same, any_order}
use Rattle.permutations.proofs.Euler.{vertices, faces, survivors, total, vertices_run}
use Rattle.permutations.specs.Labels.{Labels, merge}
use Rattle.permutations.proofs.Replay.{Labelled, judge, judge_iff}

abbrev listed : List ℕ → ℕ → ℕ
listed l x = get_or l x x

abbrev successors : List ℕ
successors = 5 ∷ 2 ∷ 1 ∷ 4 ∷ 6 ∷ 0 ∷ 3 ∷ 7 ∷ []

abbrev befores : List ℕ
befores = 5 ∷ 2 ∷ 1 ∷ 6 ∷ 3 ∷ 0 ∷ 4 ∷ 7 ∷ []

abbrev triangle : Map
triangle = record { live = λ x. ltb x 8; next = listed successors }

abbrev corner : ℕ → ℕ
corner = listed (0 ∷ 1 ∷ 1 ∷ 3 ∷ 3 ∷ 0 ∷ 3 ∷ 7 ∷ [])

abbrev side : ℕ → ℕ
side = listed (0 ∷ 1 ∷ 0 ∷ 1 ∷ 0 ∷ 1 ∷ 1 ∷ 1 ∷ [])

each : (ℕ → Bool) → ℕ → Bool
each t zero = true
each t (suc n) = t n && each t n

each_passes : (t : ℕ → Bool) (n x : ℕ) → T (each t n) → x < n → T (t x)
unfolding each
each_passes t zero x h l = absurd (not-suc-le-zero l)
each_passes t (suc n) x h l = go (ℕ_discrete x n) (each_passes t n x (and_right (t n) (each t n) h))
  where
    go : Dec (x ≡ n) → (x < n → T (t x)) → T (t x)
    go (yes e) ih = rw e (and_left (t n) (each t n) h)
    go (no k) ih = ih (omega arith)

-- ---- T is a good map

far : (l : List ℕ) → length l ≡ 8 → (x : ℕ) → 8 ≤ x → listed l x ≡ x
far l e x h = get_or-eq_default l x (omega arith)

-- eight tests say that k undoes l
round_trip : (l k : List ℕ) → length l ≡ 8 → length k ≡ 8 → T (each (λ x. eqb (listed k (listed l x)) x) 8) → (x : ℕ) → listed k (listed l x) ≡ x
round_trip l k e d t x = go (dec_lt x 8)
  where
    go : Dec (x < 8) → listed k (listed l x) ≡ x
    go (yes h) = eqb→eq (listed k (listed l x)) x (each_passes (λ x. eqb (listed k (listed l x)) x) 8 x t h)
    go (no n) = let h : 8 ≤ x = omega arith in rw (far l e x h) (far k d x h)

successor_perm : Perm 8 (listed successors)
unfolding each
successor_perm = record {
  inv = listed befores;
  back = round_trip successors befores refl refl tt;
  forth = round_trip befores successors refl refl tt;
  still = far successors refl;
}

good : Good 8 triangle
good = record {
  perm = successor_perm;
  gone = λ x n. far successors refl x (nltb→le x 8 (not_T (ltb x 8) n));
  pairs = λ x. T-ext (ltb (partner x) 8) (ltb x 8) (λ t. subst (λ y. T (ltb y 8)) (partner_partner x) (below_8 (partner x) t)) (below_8 x);
  small = λ x t. ltb→lt x 8 t;
}
  where
    below_8 : (x : ℕ) → T (ltb x 8) → T (ltb (partner x) 8)
    below_8 x t = lt→ltb (partner x) 8 (partner_below 8 x (ltb→lt x 8 t) refl)

-- ---- its counts (K1), and an edge that may not be removed (K2)

counts : (vertices 8 triangle ≡ 4) × (faces 8 triangle ≡ 2) × (survivors 8 triangle ≡ 8)
unfolding vertices faces survivors cycles classes darts any meets_in face mate partner
counts = (refl, refl, refl)

bridge : ¬ Removable triangle 6
unfolding remove_test whole_test meets_in face mate partner
bridge r = (remove_iff good 6).1 r

-- ---- labels

-- two tests agree
agree : Bool → Bool → Bool
agree a b = pick a b (not b)

agree_iff : (a b : Bool) → T (agree a b) → T a ↔ T b
unfolding agree
agree_iff true b t = (λ s. t, λ s. tt)
agree_iff false b t = (λ s. absurd s, T_not b t)

labels : (f L : ℕ → ℕ) → Perm 8 f → T (each (λ x. each (λ y. agree (eqb (L x) (L y)) (meets_in f 8 x y)) 8) 8) → Labels (λ x. ltb x 8) f L
labels f L π h = record {
  says = λ x y s t.
      let row = each_passes (λ x. each (λ y. agree (eqb (L x) (L y)) (meets_in f 8 x y)) 8) 8 x h (ltb→lt x 8 s) in
      let a = each_passes (λ y. agree (eqb (L x) (L y)) (meets_in f 8 x y)) 8 y row (ltb→lt y 8 t) in
      Iff.trans (Iff.symm (eqb_iff (L x) (L y))) (Iff.trans (agree_iff (eqb (L x) (L y)) (meets_in f 8 x y) a) (Iff.symm (meets_iff π x y)));
}

labelled : Labelled triangle corner side
unfolding each agree meets_in face mate partner
labelled = record { vertex = labels (listed successors) corner successor_perm tt; side = labels (face triangle) side (face_perm good) tt }

-- ---- two contractions and a removal, in two orders (K5 to K8)

abbrev one_way : List Op
one_way = Contract 0 ∷ Contract 2 ∷ Remove 4 ∷ []

abbrev other_way : List Op
other_way = Contract 2 ∷ Contract 0 ∷ Remove 4 ∷ []

all_legal : AllLegal triangle one_way
unfolding judge merge whole_test off_edge off splice skip crossed swap without partner
all_legal = (judge_iff good labelled one_way).0 tt

reordered : Same triangle one_way other_way
reordered = any_order good (Permᴰ.swap refl refl) all_legal

two_fewer : vertices 8 triangle ≡ vertices 8 (run triangle one_way) + 2
unfolding total
two_fewer = vertices_run good one_way all_legal

-- the pending edge is left, and it is a whole piece
left_over : Whole (run triangle one_way) 6
unfolding run splice skip crossed swap without partner
left_over = inl (refl, refl)
