-- "unfold to level k (k at or below the top; it equals that many undos, and the top itself changes nothing)", as calls.
--   undos_by n a  == n undos, the first on what a leaves, each other on what the last one left
--   left_once    == slices, and what a call leaves of a pyramid on them, tell everything that it leaves
--   unfold_undos == unfold to a level below the top leaves what that many undos leave, whatever it was given
use mathlib.Core.List.{List, reverse, reverse-reverse}
use mathlib.Core.Logic.{◌≢◌}
use mathlib.Core.Path.{◌≡◌, sym, ap, ◌∙◌, subst}
use Prim.Native.Nat.{ℕ, zero, suc, ◌-◌, ◌*◌, ◌≤◌, ◌<◌}
use native.Mathlib.Omega.{arith}
use lib.ListN.{length, take, drop}
use Rattle.darts.specs.Answers.{Answer, done}
use Rattle.darts.specs.State.{State, gives}
use Rattle.darts.specs.Levels.{undo_level, undo_levels, unfold_to}
use Rattle.darts.specs.Calls.{After, leaves, table_of, past_of, judged, cleared, work_after, hands_back, on_state, undo_by, unfold_by}
use Rattle.laws.proofs.calls.Cleared.{cleared_rest, cleared_length, cleared_kept}
use Rattle.laws.proofs.calls.Judging.{Lent, Judging, uncounted, cramped, other, lent, judging, on_refused}
use Rattle.laws.proofs.runs.Results.{then}
use Rattle.laws.proofs.file.WriteRead.{undo_given, unfold_given}
use Rattle.laws.proofs.chained.Steps.{Step, undo_lowers, unfold_undoes}
use Rattle.laws.proofs.chained.OnLent.{Left, Accepted, by_undo, to_level, called_accepts, called_left}
use Rattle.slices.proofs.Over.{same_slice}
use Rattle.laws.proofs.sentences.NotWritten.{undo_history}
use Rattle.laws.proofs.chained.Undo.{undoing}

abbrev pub undos_by : ℕ → After → After
undos_by zero a = a
undos_by (suc n) a = undos_by n (undoing a)

-- ---- what tells everything that an accepted call leaves

after_path : {a b : After} → a.answer ≡ b.answer → a.state ≡ b.state → a.table ≡ b.table → a.history ≡ b.history → a.work ≡ b.work → a ≡ b
after_path a s t h w = λ i. record { answer = a i; state = s i; table = t i; history = h i; work = w i }

left_once : {D : ℕ} {t h w : List ℕ} {a b : After} → Left D t h w a → Left D t h w b
    → gives a.state (table_of a.state a.table) (past_of a.state a.history)
    ≡ gives b.state (table_of b.state b.table) (past_of b.state b.history)
    → a ≡ b
unfolding table_of past_of
left_once {D} {t} {h} {w} {a} {b} L M e =
    let state : a.state ≡ b.state = cc in
    let front : take a.state.darts a.table ≡ take b.state.darts b.table = cc in
    let past : reverse (take a.state.operations a.history) ≡ reverse (take b.state.operations b.history) = cc in
    let n = a.state.operations in
    let count : b.state.operations ≡ n = ap (λ (s : State). s.operations) (sym state) in
    let numbers : take n a.history ≡ take n b.history =
    sym (reverse-reverse (take n a.history)) ∙ ap reverse past ∙ reverse-reverse (take b.state.operations b.history)
    ∙ ap (λ (m : ℕ). take m b.history) count in
    let beyond : drop n b.history ≡ drop n h = subst (λ (m : ℕ). drop m b.history ≡ drop m h) count M.history in
    after_path
    (L.answer ∙ sym M.answer)
    state
    (same_slice D a.table b.table
    (ap (λ (m : ℕ). take m a.table) (sym L.darts) ∙ front ∙ ap (λ (m : ℕ). take m b.table) M.darts)
    (L.table ∙ sym M.table))
    (same_slice n a.history b.history numbers (L.history ∙ sym beyond))
    (same_slice (4 * D) a.work b.work (L.zeros ∙ sym M.zeros) (L.work ∙ sym M.work))

-- ---- undos of a pyramid lent with room

abbrev On : (State → List ℕ → List ℕ → List ℕ → Type 0) → After → Type 0
On P a = P a.state a.table a.history a.work

undone_once : (a : After) → On Lent a → 1 ≤ a.state.levels → On (λ s t h w. Accepted undo_level s t h w (undoing a)) a
unfolding undo_levels
undone_once a L up =
    let G = undo_given 1 a.state (table_of a.state a.table) (past_of a.state a.history) up in
    let first = (then (undo_level a.state (table_of a.state a.table) (past_of a.state a.history)) (undo_levels 0) G.given).first in
    called_left by_undo a.state a.table a.history a.work (called_accepts by_undo a.state a.table a.history a.work L first)

undos_more : (n : ℕ) (a b : After) → On (λ s t h w. Accepted undo_level s t h w (undoing a)) a → On (λ s t h w. Accepted (undo_levels n) s t h w b) (undoing a)
    → On (λ s t h w. Accepted (undo_levels (suc n)) s t h w b) a
unfolding undo_levels
undos_more n a b A B =
    let L = subst (λ (D : ℕ). Left D (undoing a).table (undoing a).history (undoing a).work b) A.left.darts B.left in
    record {
      before = A.before;
      gave = rw A.gave B.gave;
      left = record {
        answer = L.answer;
        darts = L.darts;
        lent = L.lent;
        table = L.table ∙ A.left.table;
        history = L.history ∙ ap (drop b.state.operations) (undo_history a.state a.table a.history a.work);
        zeros = L.zeros;
        work = L.work ∙ A.left.work;
      };
    }

-- where there are as many levels, as many undos are accepted
undos_accepted : (n : ℕ) (a : After) → On Lent a → suc n ≤ a.state.levels → On (λ s t h w. Accepted (undo_levels (suc n)) s t h w (undos_by (suc n) a)) a
unfolding undo_levels
undos_accepted zero a L up =
    let A = undone_once a L up in
    record { before = A.before; gave = rw A.gave; left = A.left }
undos_accepted (suc n) a L up =
    let A = undone_once a L (omega arith) in
    let one = undo_lowers a.state _ _ A.gave in
    undos_more (suc n) a (undos_by (suc (suc n)) a) A (undos_accepted n (undoing a) A.left.lent (omega arith))

module _ (s : State) (t h w : List ℕ) (k : ℕ) (below : k < s.levels) where
  unfold_lent : Lent s t h w → unfold_by k s t h w ≡ undos_by (s.levels - k) (leaves done s t h w)
  unfold_lent L =
      let G = unfold_given k s (table_of s t) (past_of s h) (omega arith) in
      let A = called_left (to_level k) s t h w (called_accepts (to_level k) s t h w L G.given) in
      let n : s.levels - k ≡ suc (s.levels - suc k) = omega arith in
      let B = undos_accepted (s.levels - suc k) (leaves done s t h w) L (omega arith) in
      rw n (left_once A.left B.left (sym (rw n at (unfold_undoes k s (table_of s t) (past_of s h) A.gave).1) ∙ B.gave))

-- ---- undos of what is no pyramid, or lent without room: each is refused as the first one was

module _ (s : State) (t h : List ℕ) where
  refusal : Answer → List ℕ → After
  refusal j w = leaves j s t h (work_after j s.darts w)

  judged_length : (v w : List ℕ) → length v ≡ length w → judged s t h v ≡ judged s t h w
  unfolding judged
  judged_length v w e = rw e

  -- the work area keeps its length, and what is cleared stays so
  work_length : (w : List ℕ) → length (work_after (judged s t h w) s.darts w) ≡ length w
  unfolding work_after
  work_length w = go (judging s t h w)
    where
      go : Judging s t h w → length (work_after (judged s t h w) s.darts w) ≡ length w
      go (uncounted n j) = rw j
      go (cramped C n j) = rw j
      go (other C L n j) = rw j (cleared_length s.darts w L.work)
      go (lent L j) = rw j (cleared_length s.darts w L.lengths.work)

  work_again : (w : List ℕ) → work_after (judged s t h w) s.darts (work_after (judged s t h w) s.darts w) ≡ work_after (judged s t h w) s.darts w
  unfolding work_after
  work_again w = go (judging s t h w)
    where
      cleared_once : cleared s.darts (cleared s.darts w) ≡ cleared s.darts w
      cleared_once = cleared_kept s.darts w (cleared s.darts w) (cleared_rest s.darts w)

      go : Judging s t h w → work_after (judged s t h w) s.darts (work_after (judged s t h w) s.darts w) ≡ work_after (judged s t h w) s.darts w
      go (uncounted n j) = rw j
      go (cramped C n j) = rw j
      go (other C L n j) = rw j cleared_once
      go (lent L j) = rw j cleared_once

  call_refused : (f : Step) (w : List ℕ) → (judged s t h w).number ≢ 0 → on_state f s t h w ≡ refusal (judged s t h w) w
  unfolding hands_back refusal
  call_refused f w n = on_refused s t h w f n

  undo_refused : (w : List ℕ) → (judged s t h w).number ≢ 0 → undo_by s t h w ≡ refusal (judged s t h w) w
  unfolding undo_by
  undo_refused = call_refused undo_level

  undos_refused : (n : ℕ) (x : Answer) (w : List ℕ) → (judged s t h w).number ≢ 0 → undos_by (suc n) (leaves x s t h w) ≡ refusal (judged s t h w) w
  unfolding refusal
  undos_refused zero x w r = undo_refused w r
  undos_refused (suc n) x w r =
      let j = judged s t h w in
      let v = work_after j s.darts w in
      let same : judged s t h v ≡ j = judged_length v w (work_length w) in
      ap (undos_by (suc n)) (undo_refused w r) ∙ undos_refused n j v (rw same r)
      ∙ ap (λ (x : Answer). refusal x v) same ∙ ap (leaves j s t h) (work_again w)

-- "IT EQUALS THAT MANY UNDOS": all that the calls leave is the same, whatever they were given
pub unfold_undos : (s : State) (t h w : List ℕ) (k : ℕ) → k < s.levels → unfold_by k s t h w ≡ undos_by (s.levels - k) (leaves done s t h w)
unfolding unfold_by
unfold_undos s t h w k below = go (judging s t h w)
  where
    refused : {a : Answer} → judged s t h w ≡ a → a.number ≢ 0 → unfold_by k s t h w ≡ undos_by (s.levels - k) (leaves done s t h w)
    refused j n =
        let r : (judged s t h w).number ≢ 0 = rw j n in
        let more : s.levels - k ≡ suc (s.levels - suc k) = omega arith in
        rw more (call_refused s t h (unfold_to k) w r ∙ sym (undos_refused s t h (s.levels - suc k) done w r))

    go : Judging s t h w → unfold_by k s t h w ≡ undos_by (s.levels - k) (leaves done s t h w)
    go (uncounted n j) = refused j (λ z. omega arith)
    go (cramped C n j) = refused j (λ z. omega arith)
    go (other C L n j) = refused j (λ z. omega arith)
    go (lent L j) = unfold_lent s t h w k below L
