-- What an accepted call on a state leaves: a pyramid, lent with room, on which the next call can be made.
--   Left D t h w a       == a is done: it leaves a pyramid of D darts, lent with room, and the slices t, h and w past it as they were, the work area cleared
--   Accepted f s t h w a == and it is what the step f gives of the pyramid s, t, h, lent with room
--   Call                 == a call on a state: a kernel, the sweep, undo, unfold; `called` is the call, `step_of` its step
--   call_on c a           == the call c on what a leaves
--   on_accepts           == what its step accepts of a pyramid lent with room, a call accepts
--   on_left, called_left == where a call answers 0, it was so, and what it leaves is accepted
use mathlib.Core.List.{List, reverse, reverse-reverse}
use mathlib.Core.Logic.{◌≢◌}
use mathlib.Core.Path.{◌≡◌, refl, sym, ap, ap₂, ◌∙◌, subst}
use Prim.Native.Nat.{ℕ, ◌*◌}
use native.Mathlib.Omega.{arith}
use lib.ListN.{length, take, drop, replicate, length-reverse}
use Rattle.darts.specs.Answers.{Answer, answered, done}
use Rattle.darts.specs.State.{State, Result, gives, refuses, reduce}
use Rattle.darts.specs.Levels.{sweep, undo_level, unfold_to}
use Rattle.darts.specs.Pyramid.{Kernel, Pyramid}
use Rattle.darts.specs.Calls.{After, leaves, table_of, past_of, cleared, judged, hands_back, on_state, reduce_by, sweep_by, undo_by, unfold_by}
use Rattle.slices.specs.Over.{over}
use Rattle.laws.proofs.tests.Passes.{pyramid_shaped}
use Rattle.laws.proofs.tests.Room.{pyramid_room}
use Rattle.darts.proofs.Fitting.{Lengths}
use Rattle.slices.proofs.Over.{over_front, over_rest, over_length}
use Rattle.laws.proofs.calls.Cleared.{cleared_zero, cleared_rest, cleared_length}
use Rattle.laws.proofs.calls.Judging.{Lent, Judging, uncounted, cramped, other, lent, judging, on_refused, on_lent}
use Rattle.laws.proofs.chained.Steps.{Step, Leads, reduce_leads, sweep_leads, undo_leads, unfold_leads}
use Rattle.laws.proofs.runs.Earnest.{Earnest}

pub record Left (D : ℕ) (t h w : List ℕ) (a : After) : Type 0 where
  pub answer : a.answer ≡ answered 0 0
  pub darts : a.state.darts ≡ D
  pub lent : Lent a.state a.table a.history a.work
  -- "Numbers of a lent table past D are neither read nor written"
  pub table : drop D a.table ≡ drop D t
  -- "nor those of a history past the larger of the operation counts before and after the call"
  pub history : drop a.state.operations a.history ≡ drop a.state.operations h
  -- "After every call except those answered 1 or 2 the work area's first 4D numbers are zero"
  pub zeros : take (4 * D) a.work ≡ replicate (4 * D) 0
  pub work : drop (4 * D) a.work ≡ drop (4 * D) w

pub record Accepted (f : Step) (s : State) (t h w : List ℕ) (a : After) : Type 0 where
  pub before : Lent s t h w
  pub gave : f s (table_of s t) (past_of s h) ≡ gives a.state (table_of a.state a.table) (past_of a.state a.history)
  pub left : Left s.darts t h w a

-- ---- a pyramid over the first numbers of slices with room

abbrev laid : State → List ℕ → List ℕ → List ℕ → List ℕ → List ℕ → After
laid z u new t h w = leaves done z (over u t) (over (reverse new) h) (cleared z.darts w)

module _ {z : State} {u new : List ℕ} (P : Pyramid z u new) where
  table_size : length u ≡ z.darts
  table_size = (pyramid_shaped P).sound.standing.size

  history_size : length (reverse new) ≡ z.operations
  history_size = length-reverse new ∙ sym (pyramid_shaped P).layered.count

  module _ (t h w : List ℕ) (L : Lengths z.darts (length t) (length h) (length w)) where
    pub laid_table : table_of z (laid z u new t h w).table ≡ u
    unfolding table_of
    laid_table = ap (λ (n : ℕ). take n (over u t)) (sym table_size) ∙ over_front u t

    pub laid_past : past_of z (laid z u new t h w).history ≡ new
    unfolding past_of
    laid_past =
        ap (λ (n : ℕ). reverse (take n (over (reverse new) h))) (sym history_size) ∙ ap reverse (over_front (reverse new) h) ∙ reverse-reverse new

    laid_lengths : Lengths z.darts (length (laid z u new t h w).table) (length (laid z u new t h w).history) (length (laid z u new t h w).work)
    laid_lengths =
        let size = table_size in
        let count = length-reverse new in
        let most = pyramid_room P in
        let table = over_length u t (omega arith) in
        let history = over_length (reverse new) h (omega arith) in
        let work = cleared_length z.darts w L.work in
        record { table = omega arith; history = omega arith; work = omega arith }

    pub laid_left : Left z.darts t h w (laid z u new t h w)
    laid_left = record {
      answer = refl;
      darts = refl;
      lent = record { pyramid = rw (laid_table, laid_past) P; lengths = laid_lengths };
      table = ap (λ (n : ℕ). drop n (over u t)) (sym table_size) ∙ over_rest u t ∙ ap (λ (n : ℕ). drop n t) table_size;
      history =
          ap (λ (n : ℕ). drop n (over (reverse new) h)) (sym history_size) ∙ over_rest (reverse new) h ∙ ap (λ (n : ℕ). drop n h) history_size;
      zeros = cleared_zero z.darts w;
      work = cleared_rest z.darts w;
    }

-- ---- a call on a state, by its step

module _ (f : Step) (s : State) (t h w : List ℕ) where
  pub on_gives : Lent s t h w → {z : State} {u new : List ℕ} → f s (table_of s t) (past_of s h) ≡ gives z u new
      → on_state f s t h w ≡ leaves done z (over u t) (over (reverse new) h) (cleared s.darts w)
  unfolding hands_back
  on_gives L e = on_lent s t h w f L ∙ ap (hands_back s t h w) e

  on_refuses : Lent s t h w → {a : Answer} → f s (table_of s t) (past_of s h) ≡ refuses a → (on_state f s t h w).answer ≡ a
  unfolding hands_back
  on_refuses L e = ap (λ (x : After). x.answer) (on_lent s t h w f L ∙ ap (hands_back s t h w) e)

  judged_answer : (judged s t h w).number ≢ 0 → (on_state f s t h w).answer ≡ judged s t h w
  unfolding hands_back
  judged_answer n = ap (λ (x : After). x.answer) (on_refused s t h w f n)

  -- WHAT ITS STEP ACCEPTS OF A PYRAMID LENT WITH ROOM, A CALL ACCEPTS
  pub on_accepts : Lent s t h w → {z : State} {u new : List ℕ} → f s (table_of s t) (past_of s h) ≡ gives z u new → (on_state f s t h w).answer.number ≡ 0
  on_accepts L e = ap (λ (x : After). x.answer.number) (on_gives L e)

  module _ (A : Leads f) where
    given_accepted : Lent s t h w → {z : State} {u new : List ℕ} → f s (table_of s t) (past_of s h) ≡ gives z u new
        → Accepted f s t h w (on_state f s t h w)
    given_accepted L {z} {u} {new} e =
        let same = A.darts e in
        let P = A.pyramid L.pyramid e in
        let room = subst (λ (D : ℕ). Lengths D (length t) (length h) (length w)) (sym same) L.lengths in
        let is : on_state f s t h w ≡ laid z u new t h w =
        on_gives L e ∙ ap (λ (D : ℕ). leaves done z (over u t) (over (reverse new) h) (cleared D w)) (sym same) in
        subst (Accepted f s t h w) (sym is) (record {
          before = L;
          gave = e ∙ sym (ap₂ (gives z) (laid_table P t h w room) (laid_past P t h w room));
          left = subst (λ (D : ℕ). Left D t h w (laid z u new t h w)) same (laid_left P t h w room);
        })

    -- WHERE A CALL ANSWERS 0, IT WAS MADE ON A PYRAMID LENT WITH ROOM, AND ITS STEP GAVE WHAT IS LEFT
    pub on_left : (on_state f s t h w).answer.number ≡ 0 → Accepted f s t h w (on_state f s t h w)
    on_left e = go (judging s t h w)
      where
        unjudged : {a : Answer} → judged s t h w ≡ a → a.number ≢ 0 → Accepted f s t h w (on_state f s t h w)
        unjudged {a} j n =
            let k : (judged s t h w).number ≢ 0 = λ z. n (ap (λ (x : Answer). x.number) (sym j) ∙ z) in
            absurd (k (sym (ap (λ (x : Answer). x.number) (judged_answer k)) ∙ e))

        stepped : Lent s t h w → (r : Result) → Earnest r → f s (table_of s t) (past_of s h) ≡ r → Accepted f s t h w (on_state f s t h w)
        stepped L (gives z u new) T g = given_accepted L g
        stepped L (refuses a) T g = absurd (T (sym (ap (λ (x : Answer). x.number) (on_refuses L g)) ∙ e))

        go : Judging s t h w → Accepted f s t h w (on_state f s t h w)
        go (uncounted n j) = unjudged j (λ z. omega arith)
        go (cramped C n j) = unjudged j (λ z. omega arith)
        go (other C L n j) = unjudged j (λ z. omega arith)
        go (lent L j) = stepped L _ (A.earnest s (table_of s t) (past_of s h)) refl

-- ---- the four calls on a state

pub data Call : Type 0 where
  by_kernel : Kernel → Call
  by_sweep by_undo : Call
  to_level : ℕ → Call

abbrev pub called : Call → State → List ℕ → List ℕ → List ℕ → After
called (by_kernel k) = reduce_by k.kind k.edges
called by_sweep = sweep_by
called by_undo = undo_by
called (to_level k) = unfold_by k

-- the call, on what another one left
abbrev pub call_on : Call → After → After
call_on c a = called c a.state a.table a.history a.work

abbrev pub step_of : Call → Step
step_of (by_kernel k) = reduce k.kind k.edges
step_of by_sweep = sweep
step_of by_undo = undo_level
step_of (to_level k) = unfold_to k

pub leads : (c : Call) → Leads (step_of c)
leads (by_kernel k) = reduce_leads k.kind k.edges
leads by_sweep = sweep_leads
leads by_undo = undo_leads
leads (to_level k) = unfold_leads k

pub called_on : (c : Call) → called c ≡ on_state (step_of c)
unfolding reduce_by sweep_by undo_by unfold_by
called_on (by_kernel k) = refl
called_on by_sweep = refl
called_on by_undo = refl
called_on (to_level k) = refl

module _ (c : Call) (s : State) (t h w : List ℕ) where
  pub called_accepts : Lent s t h w → {z : State} {u new : List ℕ} → step_of c s (table_of s t) (past_of s h) ≡ gives z u new
      → (called c s t h w).answer.number ≡ 0
  called_accepts L e = rw (called_on c) (on_accepts (step_of c) s t h w L e)

  pub called_left : (called c s t h w).answer.number ≡ 0 → Accepted (step_of c) s t h w (called c s t h w)
  called_left = rw (called_on c) (on_left (step_of c) s t h w (leads c))
