-- The counts of the definitions are the mathematics' own: each cycle counted at its lowest dart is one class of darts that meet.
--   met_lower      == a live dart meets a lower live one exactly where it is not the lowest of its cycle
--   Numbers D m c  == the counts c are the numbers of darts, vertices and faces of the map m
--   counts_numbers == so they are, of every table that stands
--   counts_same    == one map has one set of counts
--   counts_operate == what an operation that may be done takes: two darts, and one vertex by a contraction or one face by a removal
use mathlib.Core.Bool.{Bool, true, false, not}
use mathlib.Core.List.{List, [], ◌∷◌}
use mathlib.Core.Logic.{⊎_elim}
use mathlib.Core.Path.{◌≡◌, refl, sym, ap, ◌∙◌}
use Prim.Native.Nat.{ℕ, zero, suc, ◌+◌, ◌*◌, ◌≤◌, ◌<◌}
use native.Mathlib.Decide.{ℕ_discrete}
use native.Mathlib.Omega.{arith}
use lib.Dec.{T, ltb, not_T, T_not, lt→ltb}
use lib.ListN.{length}
use Rattle.permutations.specs.Choice.{pick, T→true, T-ext, or_cases}
use Rattle.permutations.specs.Cycle.{meets_in, meets_iff, meets_refl, meets_ind}
use Rattle.permutations.specs.Live.{any, has, darts, any_has, has_head, has_tail, has_darts, darts_has}
use Rattle.permutations.proofs.Classes.{classes}
use Rattle.permutations.proofs.Cycles.{cycles as mathCycles}
use Rattle.permutations.specs.Map.{Map, Good, next_live}
use Rattle.permutations.proofs.Dual.{good_dual}
use Rattle.permutations.proofs.Euler.{vertices, faces, survivors, contracted, removed, act_vertices, act_faces, act_survivors}
use Rattle.darts.specs.Map.{successor, face_next, survives}
use Rattle.darts.specs.Operation.{Kind, lead, operate, number}
use Rattle.darts.specs.Kernel.{judge}
use Rattle.darts.specs.Counts.{Counts, counts_from, lowest, cycles, surviving, counts_of}
use Rattle.laws.specs.Standing.{map_of, Standing}
use Rattle.laws.proofs.bridge.Standing.{live, op_of, next_entry}
use Rattle.laws.proofs.bridge.Judged.{face_entry, judge_legal}
use Rattle.laws.proofs.bridge.Operate.{operate_acts, operate_stands}
use Rattle.laws.proofs.bridge.Least.{lowest_least, lowest_same}
use Rattle.laws.proofs.bridge.Walks.{lowest_met, lowest_met_lem, lowest_all}

-- some number of the list passes
any_some : (s : ℕ → Bool) (l : List ℕ) → T (any s l) → (x : ℕ) × T (has l x) × T (s x)
unfolding any
any_some s [] h = absurd h
any_some s (x ∷ l) h = ⊎_elim (λ t. (x, has_head x l, t)) (λ t. let r = any_some s l t in (r.0, has_tail x r.0 l r.1, r.2)) (or_cases (s x) (any s l) h)

module _ {D : ℕ} {m : Map} (G : Good D m) where
  abbrev f : ℕ → ℕ
  f = m.next

  -- A DART COUNTS WHERE IT MEETS NO LOWER ONE
  met_lower : (x : ℕ) → T (m.live x) → any (meets_in f D x) (darts m.live x) ≡ not (lowest f D x)
  met_lower x h = T-ext (any (meets_in f D x) (darts m.live x)) (not (lowest f D x)) lower (λ n. higher (T_not (lowest f D x) n) (ℕ_discrete (lowest_met f D x) x))
    where
      lower : T (any (meets_in f D x) (darts m.live x)) → T (not (lowest f D x))
      lower a =
          let r = any_some (meets_in f D x) (darts m.live x) a in
          let below = (has_darts m.live x r.0 r.1).0 in
          not_T (lowest f D x) (λ t. let least = (lowest_least G.perm x).0 t r.0 ((meets_iff G.perm x r.0).1 r.2) in omega arith)

      higher : ¬ (T (lowest f D x)) → Dec (lowest_met f D x ≡ x) → T (any (meets_in f D x) (darts m.live x))
      higher n (yes e) = absurd (n ((lowest_least G.perm x).1 (λ y k. rw (← e) (lowest_all G.perm k))))
      higher n (no d) =
          let met = lowest_met_lem f D x in
          let lives = meets_ind f (λ z. T (m.live z)) (next_live G) met h in
          let low : lowest_met f D x < x = let l = lowest_all G.perm (meets_refl f x) in omega arith in
          any_has (meets_in f D x) (darts m.live x) (lowest_met f D x) (darts_has m.live x (lowest_met f D x) low lives) ((meets_iff G.perm x (lowest_met f D x)).0 met)

  module _ (past : List ℕ) (g : ℕ → ℕ) (same : (x : ℕ) → x < D → m.live x ≡ survives past x) (agree : (x : ℕ) → T (m.live x) → g x ≡ f x) where
    one_more : (n c : ℕ) → (b : Bool) → m.live n ≡ b → survives past n ≡ b → cycles g D past n ≡ c → classes (meets_in f D) (darts m.live n) ≡ c
        → cycles g D past (suc n) ≡ classes (meets_in f D) (darts m.live (suc n))
    unfolding cycles classes darts
    one_more n c false l s e k = rw (l, s, e, k)
    one_more n c true l s e k =
        let h : T (m.live n) = rw l tt in
        rw (l, s, e, k, met_lower n h, lowest_same (λ y. T (m.live y)) g f agree (next_live G) D n h) (go (lowest f D n))
      where
        go : (b : Bool) → pick b (suc c) c ≡ pick (not b) c (suc c)
        go true = refl
        go false = refl

    cycles_classes : (n : ℕ) → n ≤ D → cycles g D past n ≡ classes (meets_in f D) (darts m.live n)
    unfolding cycles classes darts
    cycles_classes zero h = refl
    cycles_classes (suc n) h = one_more n (classes (meets_in f D) (darts m.live n)) (survives past n) (same n (omega arith)) refl (cycles_classes n (omega arith)) refl

surviving_darts : (live : ℕ → Bool) (past : List ℕ) (n : ℕ) → ((x : ℕ) → x < n → live x ≡ survives past x) → surviving past n ≡ length (darts live n)
unfolding surviving darts
surviving_darts live past zero same = refl
surviving_darts live past (suc n) same = rw (same n (omega arith), surviving_darts live past n (λ x h. same x (omega arith))) (go (survives past n))
  where
    go : (b : Bool) → pick b (suc (length (darts live n))) (length (darts live n)) ≡ length (pick b (n ∷ darts live n) (darts live n))
    go true = refl
    go false = refl

-- ---- the counts of a table

pub record Numbers (D : ℕ) (m : Map) (c : Counts) : Type 0 where
  pub darts_are : c.darts ≡ survivors D m
  pub vertices_are : c.vertices ≡ vertices D m
  pub faces_are : c.faces ≡ faces D m

module _ {D : ℕ} {t past : List ℕ} (S : Standing D t past) where
  abbrev map_of_lem : Map
  map_of_lem = map_of D t past

  alive : (x : ℕ) → x < D → live D past x ≡ survives past x
  unfolding live
  alive x h = rw (T→true (ltb x D) (lt→ltb x D h))

  -- COUNTS TAKEN FROM THE CYCLES ARE THE NUMBERS OF VERTICES AND FACES
  pub counts_numbers : Numbers D map_of_lem (counts_of D t past)
  unfolding counts_of survivors vertices faces mathCycles
  counts_numbers = record {
    darts_are = surviving_darts (live D past) past D alive;
    vertices_are = cycles_classes S.good past (successor t) alive (λ x h. sym (next_entry S x h)) D (omega arith);
    faces_are = cycles_classes (good_dual S.good) past (face_next t) alive (face_entry S) D (omega arith);
  }

pub counts_same : {D : ℕ} {t past u new : List ℕ} → Standing D t past → Standing D u new → map_of D u new ≡ map_of D t past
    → counts_of D u new ≡ counts_of D t past
unfolding counts_of
counts_same {D} S Z same =
    let was = counts_numbers S in
    let is = counts_numbers Z in
    let darts = is.darts_are ∙ ap (survivors D) same ∙ sym was.darts_are in
    let around = is.vertices_are ∙ ap (vertices D) same ∙ sym was.vertices_are in
    let within = is.faces_are ∙ ap (faces D) same ∙ sym was.faces_are in
    λ i. counts_from (darts i) (around i) (within i)

-- ---- an operation

-- a contraction takes one vertex, a removal one face, each two darts
pub record Takes (k : Kind) (e : ℕ) (c d : Counts) : Type 0 where
  pub two_darts : c.darts ≡ d.darts + 2
  pub a_vertex : c.vertices ≡ d.vertices + contracted (op_of k (2 * e))
  pub a_face : c.faces ≡ d.faces + removed (op_of k (2 * e))

pub counts_operate : {D : ℕ} {t past : List ℕ} → Standing D t past → (k : Kind) (e : ℕ) → judge k D t past e ≡ 0
    → Takes k e (counts_of D t past) (counts_of D (operate k D t past e) (number k (lead k t e) ∷ past))
counts_operate {D} {t} {past} S k e fine =
    let legal = (judge_legal S k e).0 fine in
    let was = counts_numbers S in
    let is = counts_numbers (operate_stands S k e fine) in
    let after = operate_acts S k e fine in
    record {
      two_darts = was.darts_are ∙ act_survivors S.good (op_of k (2 * e)) legal.lives ∙ ap (λ n. n + 2) (sym (is.darts_are ∙ ap (survivors D) after));
      a_vertex = was.vertices_are ∙ act_vertices (map_of D t past) S.good (op_of k (2 * e)) legal ∙ ap (λ n. n + contracted (op_of k (2 * e))) (sym (is.vertices_are ∙ ap (vertices D) after));
      a_face = was.faces_are ∙ act_faces (map_of D t past) S.good (op_of k (2 * e)) legal ∙ ap (λ n. n + removed (op_of k (2 * e))) (sym (is.faces_are ∙ ap (faces D) after));
    }
