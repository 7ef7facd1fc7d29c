-- "unfold to level k (k at or below the top; it equals that many undos ..)" (document 01), with sheets.
--   undos_with n a  == n undos, the first on what a leaves, each other on what the last one left
--   carried_on     == sheets that go back to a past, and from there further back
--   Undone a b     == b is what some undos leave of a
--   unfold_undos   == unfold to a level below the top leaves what that many undos leave, both sheets too
use mathlib.Core.List.{List, ◌++◌, reverse, append_assoc}
use mathlib.Core.Logic.{◌≢◌}
use mathlib.Core.Path.{◌≡◌, sym, ap, ap₂, ◌∙◌}
use Prim.Native.Nat.{ℕ, zero, suc, ◌+◌, ◌-◌, ◌≤◌, ◌<◌}
use native.Mathlib.Decide.{ℕ_discrete}
use native.Mathlib.Omega.{arith}
use lib.ListN.{length, length-append}
use Rattle.darts.specs.Answers.{Answer, done}
use Rattle.darts.specs.State.{State}
use Rattle.darts.specs.Levels.{undo_level, undo_levels, unfold_to}
use Rattle.darts.specs.Calls.{After, leaves, table_of, past_of, cleared, work_after, hands_back, unfold_by}
use Rattle.laws.proofs.runs.Results.{then}
use Rattle.laws.proofs.file.WriteRead.{undo_given, unfold_given}
use Rattle.laws.proofs.calls.Cleared.{cleared_rest, cleared_length, cleared_kept}
use Rattle.laws.proofs.chained.Steps.{Step, undo_lowers}
use Rattle.laws.proofs.chained.OnLent.{by_undo, to_level, called_accepts}
use Rattle.laws.proofs.chained.Unfold.{undos_by, unfold_undos as plain_undos}
use Rattle.sheets.specs.Sheets.{Sheets, returned_by}
use Rattle.yarn.specs.Places.{merges}
use Rattle.yarn.specs.Calls.{Costed, costed, fitting_of, judged, carried_to, on_sheets, undo_with, unfold_with}
use Rattle.yarn.proofs.Returns.{returned_on}
use Rattle.yarn.proofs.Agree.{returned_same, merges_first}
use Rattle.yarn.proofs.Moved.{Grown, grown_on, carried_shrunk, undo_grown}
use Rattle.yarn.proofs.LentWith.{LentWith, Refused, uncounted, cramped, other, judged_done, refused, with_refused, with_plain}
use Rattle.yarn.proofs.CalledWith.{LentBy, past_by, base_by, WithLeft, with_left, costed_path}
use Rattle.yarn.proofs.UndoWith.{undoing_with, undo_plain}

abbrev pub undos_with : ℕ → Costed → Costed
undos_with zero a = a
undos_with (suc n) a = undos_with n (undoing_with a)

-- ---- back, and further back

module _ (D : ℕ) (b : List ℕ) (S : Sheets) where
  abbrev back : List ℕ → List ℕ → Sheets → Sheets
  back hs more = returned_by (merges D b (hs ++ more)) (length (hs ++ more)) (length more)

  back_twice : (hs more last : List ℕ) → back hs more (back (hs ++ more) last S) ≡ back hs (more ++ last) S
  back_twice hs more last =
      let all = (hs ++ more) ++ last in
      let ms = merges D b all in
      let size : length all ≡ length (hs ++ more) + length last = length-append (hs ++ more) last in
      let count : length (more ++ last) ≡ length last + length more =
      length-append more last ∙ (let e : length more + length last ≡ length last + length more = omega arith in e) in
      let left : length all - length last ≡ length (hs ++ more) = omega arith in
      let part : length more ≤ length (hs ++ more) = omega (arith, length-append hs more) in
      sym (returned_same (merges_first D b (hs ++ more) last) (length (hs ++ more)) (length more) (omega arith) part (back (hs ++ more) last S))
      ∙ sym (rw (← append_assoc hs more last, count) (returned_on ms (length all) (length last) (length more) S ∙ rw left))

  pub carried_on : {past mid new : List ℕ} → (G : Grown mid past) (H : Grown new mid) → carried_to D b mid new (carried_to D b past mid S) ≡ carried_to D b past new S
  carried_on {past} {mid} {new} G H =
      carried_shrunk H D b _ ∙ ap (back (reverse new) H.more) (carried_shrunk G D b S ∙ ap (λ hs. back hs G.more S) H.grown)
      ∙ back_twice (reverse new) H.more G.more ∙ sym (carried_shrunk (grown_on H G) D b S)

-- ---- undos of given sheets and a pyramid, lent with room

abbrev UndoLeft : Costed → Type 0
UndoLeft a = WithLeft undo_level a.plain.state a.plain.table a.plain.history a.plain.work a.sheets (undoing_with a)

undo_left : (a : Costed) → LentBy a → 1 ≤ a.plain.state.levels → UndoLeft a
unfolding undo_levels
undo_left a L some =
    let s = a.plain.state in
    let u = table_of s a.plain.table in
    let first = (then (undo_level s u (past_by a)) (undo_levels 0) (undo_given 1 s u (past_by a) some).given).first in
    let zero = called_accepts by_undo s a.plain.table a.plain.history a.plain.work L.lent first in
    with_left by_undo s a.plain.table a.plain.history a.plain.work a.sheets
    (ap (λ (x : After). x.answer.number) (undo_plain a L) ∙ zero)

record Undone (a b : Costed) : Type 0 where
  grown : Grown (past_by b) (past_by a)
  sheets : b.sheets ≡ carried_to a.plain.state.darts (base_by a) (past_by a) (past_by b) a.sheets

undone_once : (a : Costed) → UndoLeft a → Undone a (undoing_with a)
undone_once a A = record { grown = undo_grown a.plain.state _ (past_by a) A.plain.gave; sheets = A.sheets }

undone_on : (a b : Costed) → UndoLeft a → Undone (undoing_with a) b → Undone a b
undone_on a b A U =
    let G = undo_grown a.plain.state _ (past_by a) A.plain.gave in
    let D = a.plain.state.darts in
    let c = undoing_with a in
    record {
      grown = grown_on U.grown G;
      sheets =
          U.sheets ∙ ap₂ (λ (D : ℕ) (base : List ℕ). carried_to D base (past_by c) (past_by b) c.sheets) A.plain.left.darts A.base
          ∙ ap (carried_to D (base_by a) (past_by c) (past_by b)) A.sheets ∙ carried_on D (base_by a) a.sheets G U.grown;
    }

undos_left : (n : ℕ) (a : Costed) → LentBy a → suc n ≤ a.plain.state.levels
    → Undone a (undos_with (suc n) a) × ((undos_with (suc n) a).plain ≡ undos_by (suc n) a.plain)
undos_left zero a L some = (undone_once a (undo_left a L some), undo_plain a L)
undos_left (suc n) a L some =
    let A = undo_left a L (omega arith) in
    let one = undo_lowers a.plain.state _ _ A.plain.gave in
    let (U, plain) = undos_left n (undoing_with a) A.lent (omega arith) in
    (undone_on a (undos_with (suc (suc n)) a) A U, plain ∙ ap (undos_by (suc n)) (undo_plain a L))

module _ (k : ℕ) (s : State) (t h w : List ℕ) (S : Sheets) (below : k < s.levels) where
  abbrev given : Costed
  given = costed (leaves done s t h w) S

  unfold_lent : LentWith s t h w S → unfold_with k s t h w S ≡ undos_with (s.levels - k) given
  unfolding unfold_with unfold_by
  unfold_lent L =
      let n : s.levels - k ≡ suc (s.levels - suc k) = omega arith in
      let (U, plain) = undos_left (s.levels - suc k) given L (omega arith) in
      let whole : (unfold_with k s t h w S).plain ≡ unfold_by k s t h w = with_plain s t h w S (unfold_to k) L in
      let many : unfold_by k s t h w ≡ undos_by (suc (s.levels - suc k)) (leaves done s t h w) = rw n at (plain_undos s t h w k below) in
      let same : (unfold_with k s t h w S).plain ≡ (undos_with (suc (s.levels - suc k)) given).plain = whole ∙ many ∙ sym plain in
      let G = unfold_given k s (table_of s t) (past_of s h) (omega arith) in
      let zero = called_accepts (to_level k) s t h w L.lent G.given in
      let A = with_left (to_level k) s t h w S (ap (λ (x : After). x.answer.number) whole ∙ zero) in
      rw n (costed_path same (A.sheets ∙ ap (λ (x : After). carried_to s.darts (base_by given) (past_of s h) (past_of x.state x.history) S) same ∙ sym U.sheets))

-- ---- undos that are refused with 1, 2 or 4: each is refused as the first one was

module _ (s : State) (t h : List ℕ) (S : Sheets) where
  refusal : Answer → List ℕ → Costed
  refusal j w = costed (leaves j s t h (work_after j s.darts w)) S

  judged_length : (v w : List ℕ) → length v ≡ length w → judged s t h v S ≡ judged s t h w S
  unfolding judged fitting_of
  judged_length v w e = rw e

  -- the work area keeps its length, and what is cleared stays so
  module _ (w : List ℕ) where
    abbrev j : Answer
    j = judged s t h w S

    work_length : Refused s t h w S → length (work_after j s.darts w) ≡ length w
    unfolding work_after
    work_length (uncounted e) = rw e
    work_length (cramped e) = rw e
    work_length (other e l) = rw e (cleared_length s.darts w l)

    work_again : Refused s t h w S → work_after j s.darts (work_after j s.darts w) ≡ work_after j s.darts w
    unfolding work_after
    work_again (uncounted e) = rw e
    work_again (cramped e) = rw e
    work_again (other e l) = rw e (cleared_kept s.darts w (cleared s.darts w) (cleared_rest s.darts w))

    call_refused : (f : Step) → j.number ≢ 0 → on_sheets f s t h w S ≡ refusal j w
    unfolding hands_back refusal
    call_refused f n = with_refused s t h w S f n

  undo_refused : (w : List ℕ) → (judged s t h w S).number ≢ 0 → undo_with s t h w S ≡ refusal (judged s t h w S) w
  unfolding undo_with
  undo_refused w n = call_refused w undo_level n

  undos_refused : (n : ℕ) (x : Answer) (w : List ℕ) → (judged s t h w S).number ≢ 0
      → undos_with (suc n) (costed (leaves x s t h w) S) ≡ refusal (judged s t h w S) w
  unfolding refusal
  undos_refused zero x w r = undo_refused w r
  undos_refused (suc n) x w r =
      let v = work_after (j w) s.darts w in
      let R = refused s t h w S r in
      let same : judged s t h v S ≡ j w = judged_length v w (work_length w R) in
      ap (undos_with (suc n)) (undo_refused w r) ∙ undos_refused n (j w) v (rw same r)
      ∙ ap (λ (x : Answer). refusal x v) same ∙ ap (λ u. costed (leaves (j w) s t h u) S) (work_again w R)

-- "IT EQUALS THAT MANY UNDOS": all that the calls leave is the same, both sheets too, whatever they were given
pub unfold_undos : (k : ℕ) (s : State) (t h w : List ℕ) (S : Sheets) → k < s.levels
    → unfold_with k s t h w S ≡ undos_with (s.levels - k) (costed (leaves done s t h w) S)
unfolding unfold_with
unfold_undos k s t h w S below = go (ℕ_discrete (judged s t h w S).number 0)
  where
    go : Dec ((judged s t h w S).number ≡ 0) → unfold_with k s t h w S ≡ undos_with (s.levels - k) (costed (leaves done s t h w) S)
    go (yes e) = unfold_lent k s t h w S below (judged_done s t h w S e)
    go (no n) =
        let more : s.levels - k ≡ suc (s.levels - suc k) = omega arith in
        rw more (call_refused s t h S w (unfold_to k) n ∙ sym (undos_refused s t h S (s.levels - suc k) done w n))
