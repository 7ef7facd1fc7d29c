-- Reduce on a pyramid lent with room: "then 12, 6, 5, then the kernel's first failing edge".
--   run_none, run_done == a run of no edge stands where it began; an edge that may be done at its turn is done
--   run_fails          == a run stops at its first failing edge, with that edge's answer and its place
--   Course             == every kernel's edges are all fine, or one of them is the first that fails
--   reduce_six, reduce_five, reduce_fails, reduce_zero == the answers of reduce, each where no earlier one is given
use mathlib.Core.Bool.{false}
use mathlib.Core.List.{List, [], ◌∷◌, ◌++◌, append-nil, append_assoc, map-append}
use mathlib.Core.Logic.{◌≢◌}
use mathlib.Core.Path.{◌≡◌, refl, ap, ◌∙◌, subst}
use Prim.Native.Nat.{ℕ, ◌+◌, ◌<◌, ◌≤◌}
use native.Mathlib.Decide.{ℕ_discrete}
use native.Mathlib.Omega.{arith}
use lib.Dec.{leb, leb→le, le→leb}
use lib.ListN.{length, length-map}
use Rattle.permutations.specs.Choice.{T→true, not_T→false, eqb_same, eqb_other}
use Rattle.darts.specs.Answers.{answered}
use Rattle.darts.specs.Operation.{Kind, lead, operate, number}
use Rattle.darts.specs.Kernel.{judge, each, stands, stops, pass_from, pass, run}
use Rattle.darts.specs.State.{State, raised, levelled, reduce}
use Rattle.darts.specs.Calls.{table_of, past_of, reduce_by}
use Rattle.laws.proofs.runs.Operations.{none, first, done_on, run_iff, done_join, done_told, told_longer}
use Rattle.laws.proofs.runs.Reduces.{raises_reduce}
use Rattle.laws.proofs.calls.Judging.{Lent, on_refuses, on_gives}
use Rattle.laws.proofs.sentences.Order.{Answers, answers}

-- ---- a run, edge by edge

module _ (k : Kind) (D : ℕ) {u new : List ℕ} (fine t past : List ℕ) (stood : run k D t past fine ≡ stands u new) (e : ℕ) where
  edges_before : (rest : List ℕ) → each k (fine ++ rest) ≡ each k fine ++ each k rest
  edges_before rest = map-append _ fine rest

  -- "done in the listed order, each judged on the map as it stands at its turn"
  pub run_done : judge k D u new e ≡ 0 → run k D t past (fine ++ (e ∷ [])) ≡ stands (operate k D u new e) (number k (lead k u e) ∷ new)
  run_done ok = (run_iff k D t past (fine ++ (e ∷ []))).1 (rw (edges_before (e ∷ [])) (done_join ((run_iff k D t past fine).0 stood) (first ok none)))

  -- "the kernel's first failing edge"
  pub run_fails : judge k D u new e ≢ 0 → (rest : List ℕ) → run k D t past (fine ++ (e ∷ rest)) ≡ stops (answered (judge k D u new e) (length fine))
  unfolding run pass pass_from
  run_fails bad rest =
      let count : length (each k fine) ≡ length fine = length-map fine _ in
      let place : 0 + length (each k fine) ≡ length fine = omega arith in
      rw (edges_before (e ∷ rest)) (done_on 0 (each k fine) (each k (e ∷ rest)) ((run_iff k D t past fine).0 stood) ∙ rw (eqb_other bad, place))

pub run_none : (k : Kind) (D : ℕ) (t past : List ℕ) → run k D t past [] ≡ stands t past
unfolding run pass pass_from
run_none k D t past = refl

-- ---- every kernel is one or the other

pub data Course (k : Kind) (D : ℕ) (t past es : List ℕ) : Type 0 where
  stood : {u new : List ℕ} → run k D t past es ≡ stands u new → Course k D t past es
  failed : (fine : List ℕ) (e : ℕ) (rest : List ℕ) {u new : List ℕ} → es ≡ fine ++ (e ∷ rest) → run k D t past fine ≡ stands u new
      → judge k D u new e ≢ 0 → Course k D t past es

module _ (k : Kind) (D : ℕ) (t past : List ℕ) where
  course_turn : (fine : List ℕ) (e : ℕ) (es : List ℕ) {u new : List ℕ} → run k D t past fine ≡ stands u new → Dec (judge k D u new e ≡ 0)
      → (run k D t past (fine ++ (e ∷ [])) ≡ stands (operate k D u new e) (number k (lead k u e) ∷ new) → Course k D t past ((fine ++ (e ∷ [])) ++ es))
      → Course k D t past (fine ++ (e ∷ es))
  course_turn fine e es r (yes ok) rest = subst (Course k D t past) (append_assoc fine (e ∷ []) es) (rest (run_done k D fine t past r e ok))
  course_turn fine e es r (no bad) rest = failed fine e es refl r bad

  -- edges that are fine, and those that are still to come
  course_on : (fine es : List ℕ) {u new : List ℕ} → run k D t past fine ≡ stands u new → Course k D t past (fine ++ es)
  course_on fine [] r = stood (ap (run k D t past) (append-nil fine) ∙ r)
  course_on fine (e ∷ es) {u} {new} r =
      course_turn fine e es r (ℕ_discrete (judge k D u new e) 0) (λ ok. course_on (fine ++ (e ∷ [])) es ok)

  pub course : (es : List ℕ) → Course k D t past es
  course es = course_on [] es (run_none k D t past)

-- ---- reduce

-- a level is to be had
pub level_free : (n : ℕ) → n < 64 → leb 64 n ≡ false
level_free n h = not_T→false (leb 64 n) (λ l. omega (arith, leb→le 64 n l))

module _ (s : State) (t h w : List ℕ) (L : Lent s t h w) where
  -- 6, "64 levels are in use", whatever the kernel
  pub reduce_six : (k : Kind) (es : List ℕ) → 64 ≤ s.levels → Answers (reduce_by k es s t h w).answer 6 0
  unfolding reduce_by reduce
  reduce_six k es b = answers (on_refuses s t h w (reduce k es) L (rw (T→true (leb 64 s.levels) (le→leb 64 s.levels b))))

  module _ (room : s.levels < 64) where
    -- 5, "the kernel is empty"
    pub reduce_five : (k : Kind) → Answers (reduce_by k [] s t h w).answer 5 0
    unfolding reduce_by reduce levelled
    reduce_five k = answers (on_refuses s t h w (reduce k []) L (rw (level_free s.levels room, run_none k s.darts (table_of s t) (past_of s h), eqb_same {m = length (past_of s h)} refl)))

    -- "then the kernel's first failing edge": its answer, and "place in the kernel, from 0", whatever stands after it
    pub reduce_fails : (k : Kind) (fine : List ℕ) (e : ℕ) (rest : List ℕ) {u new : List ℕ} {n : ℕ}
        → run k s.darts (table_of s t) (past_of s h) fine ≡ stands u new → judge k s.darts u new e ≡ n → n ≢ 0
        → Answers (reduce_by k (fine ++ (e ∷ rest)) s t h w).answer n (length fine)
    unfolding reduce_by reduce levelled
    reduce_fails k fine e rest r j bad =
        let stopped = run_fails k s.darts fine (table_of s t) (past_of s h) r e (rw j bad) rest in
        answers (on_refuses s t h w (reduce k (fine ++ (e ∷ rest))) L (rw (level_free s.levels room, stopped, j)))

    -- 0, "done", where there is an edge and each may be done at its turn
    pub reduce_zero : (k : Kind) (es : List ℕ) {u new : List ℕ} → es ≢ [] → run k s.darts (table_of s t) (past_of s h) es ≡ stands u new
        → Answers (reduce_by k es s t h w).answer 0 0
    unfolding reduce_by
    reduce_zero k es {u} {new} some r =
        let more = told_longer (done_told (each k es) ((run_iff k s.darts (table_of s t) (past_of s h) es).0 r)) in
        answers (on_gives s t h w (reduce k es) L (record {
          state = raised s u new;
          table = u;
          past = new;
          given = raises_reduce s (table_of s t) (past_of s h) k es (record { room = room; stood = r; more = longer es some more; state = refl });
        }))
      where
        longer : (es : List ℕ) → es ≢ [] → length new ≡ length (past_of s h) + length (each k es) → length new ≢ length (past_of s h)
        longer [] some more = absurd (some refl)
        longer (e ∷ es) some more = omega arith
