-- "Undo returns the old figure bit for bit" (document 02, request Five), as calls.
--   undoing_with a  == undo, on what a leaves
--   ReturnedWith s t h w S a b == b returns what the call a was lent: the state, the table, and both sheets save where a's contractions kept records
--   there_and_back == sheets that go to a longer past and back; back_sheet, back_kept == what they then hold
--   reduce_then_undo, sweep_then_undo == what undo returns after an accepted kernel, and after an accepted sweep
use mathlib.Core.List.{List, ◌++◌, reverse}
use mathlib.Core.Path.{◌≡◌, sym, ap, ap₂, ◌∙◌, subst}
use Prim.Native.Nat.{ℕ, ◌+◌, ◌/◌, ◌≤◌, ◌<◌}
use native.Mathlib.Omega.{arith}
use lib.ListN.{length, length-append, length-reverse}
use Rattle.darts.specs.Answers.{answered}
use Rattle.darts.specs.Operation.{Kind}
use Rattle.darts.specs.State.{State, gives}
use Rattle.darts.specs.Levels.{undo_level}
use Rattle.darts.specs.Pyramid.{Pyramid}
use Rattle.darts.specs.Calls.{After, table_of, past_of, undo_by}
use Rattle.laws.proofs.tests.Room.{pyramid_room}
use Rattle.laws.proofs.runs.Undo.{undo_returns, sweep_undo_returns}
use Rattle.laws.proofs.chained.OnLent.{Call, by_kernel, by_sweep, step_of, called}
use Rattle.laws.proofs.chained.Undo.{Returned, undoing, reduce_then_undo as plain_reduce, sweep_then_undo as plain_sweep}
use Rattle.laws.proofs.tests.Passes.{pyramid_shaped}
use Rattle.sheets.specs.Records.{at}
use Rattle.sheets.specs.Sheets.{Sheets, Merge, none, merged_by, returned_by}
use Rattle.yarn.specs.Places.{merges}
use Rattle.yarn.specs.Calls.{Costed, carried_to, reduce_with, sweep_with, undo_with}
use Rattle.yarn.proofs.Returns.{undone_sheet, undone_kept}
use Rattle.yarn.proofs.Moved.{Grown, carried_grown, carried_shrunk, reduce_grown, sweep_grown}
use Rattle.yarn.proofs.LentWith.{with_plain, with_sheets}
use Rattle.yarn.proofs.CalledWith.{called_with, called_plain, base_in, LentBy, past_by, base_by, with_left}

abbrev pub undoing_with : Costed → Costed
undoing_with a = undo_with a.plain.state a.plain.table a.plain.history a.plain.work a.sheets

-- ---- there and back

module _ {past new : List ℕ} (G : Grown past new) (D : ℕ) (b : List ℕ) (S : Sheets) where
  abbrev ms : ℕ → Merge
  ms = merges D b (reverse past ++ G.more)

  abbrev n : ℕ
  n = length (reverse past)

  abbrev c : ℕ
  c = length G.more

  there_and_back : carried_to D b new past (carried_to D b past new S) ≡ returned_by ms (n + c) c (merged_by ms n c S)
  there_and_back = carried_shrunk G D b _ ∙ rw (length-append (reverse past) G.more, carried_grown G D b S)

  pub back_sheet : length new ≤ length S.kept → (carried_to D b new past (carried_to D b past new S)).sheet ≡ S.sheet
  back_sheet room =
      let size : n + c ≡ length new = sym (length-append (reverse past) G.more) ∙ ap length (sym G.grown) ∙ length-reverse new in
      ap (λ (Z : Sheets). Z.sheet) there_and_back ∙ undone_sheet ms n c S (omega arith)

  pub back_kept : (i : ℕ) → (length past ≤ i → i < length new → merges D b (reverse new) i ≡ none)
      → at (carried_to D b new past (carried_to D b past new S)).kept i ≡ at S.kept i
  back_kept i free =
      let size : n + c ≡ length new = sym (length-append (reverse past) G.more) ∙ ap length (sym G.grown) ∙ length-reverse new in
      let count : n ≡ length past = length-reverse past in
      ap (λ (Z : Sheets). at Z.kept i) there_and_back
      ∙ undone_kept ms n c S i (λ l k. ap (λ hs. merges D b hs i) (sym G.grown) ∙ free (omega arith) (omega arith))

-- ---- a call, and its undo

pub record ReturnedWith (s : State) (t h w : List ℕ) (S : Sheets) (a b : Costed) : Type 0 where
  -- the state, every number of the lent table, and the history as a left it
  pub plain : Returned (answered 0 0) s t a.plain.history w b.plain
  -- every record of the sheet, bit for bit
  pub sheet : b.sheets.sheet ≡ S.sheet
  -- "(a removal's place is neither read nor written, nor are places past the count but by a new contraction)"
  pub kept : (i : ℕ)
      → (s.operations ≤ i → i < a.plain.state.operations
      → merges s.darts (base_in s t h) (reverse (past_by a)) i ≡ none)
      → at b.sheets.kept i ≡ at S.kept i

-- undo on what a leaves is the plain undo, and its sheets go back to the past that it returns
module _ (a : Costed) (L : LentBy a) where
  pub undo_plain : (undoing_with a).plain ≡ undoing a.plain
  unfolding undo_with undo_by
  undo_plain = with_plain _ _ _ _ a.sheets undo_level L

  undo_sheets : {z : State} {u new : List ℕ} → undo_level a.plain.state (table_of a.plain.state a.plain.table) (past_by a) ≡ gives z u new
      → (undoing_with a).sheets ≡ carried_to a.plain.state.darts (base_by a) (past_by a) new a.sheets
  unfolding undo_with
  undo_sheets e = with_sheets _ _ _ _ a.sheets undo_level L e

module _ (c : Call) (s : State) (t h w : List ℕ) (S : Sheets) where
  abbrev a : Costed
  a = called_with c s t h w S

  then_undo : ((called c s t h w).answer.number ≡ 0 → Returned (answered 0 0) s t (called c s t h w).history w (undoing (called c s t h w)))
      → ((z : State) (u new : List ℕ) → Pyramid s (table_of s t) (past_of s h) → step_of c s (table_of s t) (past_of s h) ≡ gives z u new
      → Grown (past_of s h) new × (undo_level z u new ≡ gives s (table_of s t) (past_of s h)))
      → a.plain.answer.number ≡ 0 → ReturnedWith s t h w S a (undoing_with a)
  then_undo law back e =
      let A = with_left c s t h w S e in
      let P = A.before.lent.pyramid in
      let O = A.plain.left.lent.pyramid in
      let same = called_plain c s t h w S A.before in
      let zero : (called c s t h w).answer.number ≡ 0 = ap (λ (x : After). x.answer.number) (sym same) ∙ e in
      let (G, U) = back _ _ _ P A.plain.gave in
      let D = s.darts in
      let b = base_in s t h in
      let new = past_by a in
      let sheets : (undoing_with a).sheets ≡ carried_to D b new (past_of s h) (carried_to D b (past_of s h) new S) =
      undo_sheets a A.lent U ∙ ap₂ (λ (D : ℕ) (b : List ℕ). carried_to D b new (past_of s h) a.sheets) A.plain.left.darts A.base
      ∙ ap (carried_to D b new (past_of s h)) A.sheets in
      let room : length new ≤ a.plain.state.darts / 2 = pyramid_room O in
      let darts : a.plain.state.darts ≡ D = A.plain.left.darts in
      let kept = A.before.kept in
      let was : s.operations ≡ length (past_of s h) = (pyramid_shaped P).layered.count in
      let is : a.plain.state.operations ≡ length new = (pyramid_shaped O).layered.count in
      record {
        plain = rw (undo_plain a A.lent) (subst (λ (x : After). Returned (answered 0 0) s t x.history w (undoing x)) (sym same) (law zero));
        sheet = ap (λ (Z : Sheets). Z.sheet) sheets ∙ back_sheet G D b S (omega arith);
        kept = λ i free. ap (λ (Z : Sheets). at Z.kept i) sheets ∙ back_kept G D b S i (λ l k. free (omega arith) (omega arith));
      }

-- WHERE A KERNEL IS ACCEPTED, UNDO RETURNS THE STATE, THE TABLE AND THE SHEET, BIT FOR BIT
pub reduce_then_undo : (k : Kind) (es : List ℕ) (s : State) (t h w : List ℕ) (S : Sheets) → (reduce_with k es s t h w S).plain.answer.number ≡ 0
    → ReturnedWith s t h w S (reduce_with k es s t h w S) (undoing_with (reduce_with k es s t h w S))
reduce_then_undo k es s t h w S =
    then_undo (by_kernel (record { kind = k; edges = es })) s t h w S (plain_reduce s t h w k es)
    (λ z u new P e. (reduce_grown s (table_of s t) (past_of s h) k es e, undo_returns P k es e))

pub sweep_then_undo : (s : State) (t h w : List ℕ) (S : Sheets) → (sweep_with s t h w S).plain.answer.number ≡ 0
    → ReturnedWith s t h w S (sweep_with s t h w S) (undoing_with (sweep_with s t h w S))
sweep_then_undo s t h w S =
    then_undo by_sweep s t h w S (plain_sweep s t h w) (λ z u new P e. (sweep_grown s (table_of s t) (past_of s h) e, sweep_undo_returns P e))
