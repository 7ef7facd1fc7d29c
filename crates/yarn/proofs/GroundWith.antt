-- Start with sheets, any accepted calls, unfold to level 0: "Undo returns the old figure bit for bit" (document 02, request Five), however many levels there
-- were, and whatever was undone and done again on the way.
--   grounded D b past S == the sheets S, with the operations `past` on the base b undone
--   ground_up, ground_down == a call that does operations, and one that undoes some, leave what undoing everything gives of the sheet
--   Grounded D b F a    == a leaves a pyramid over the base b of D darts, and sheets of which undoing everything gives the sheet F
--   grounded_calls      == accepted calls of every kind lead from there to there
--   Free D b i cs a     == at place i none of the calls cs, the first on what a leaves, keeps a record: no new contraction of theirs has the number i
--   free_kept           == there the second sheet stays
--   BaseWith D t h w S cs b == b is the base that the table t holds, with the sheet of S as it was lent, and the second sheet where no call kept a record
--   start_then_unfold   == so it is, after a start and whatever calls were accepted
use mathlib.Core.List.{List, [], ◌∷◌, ◌++◌, reverse}
use mathlib.Core.Path.{◌≡◌, refl, sym, ap, ap₂, ◌∙◌, subst}
use Prim.Native.Nat.{ℕ, ◌/◌, ◌≤◌, ◌<◌}
use native.Mathlib.Omega.{arith}
use lib.ListN.{length, take, length-append, length-reverse}
use Rattle.darts.specs.Answers.{answered}
use Rattle.darts.specs.State.{State, base_state}
use Rattle.darts.specs.Calls.{past_of}
use Rattle.laws.proofs.tests.Passes.{pyramid_shaped}
use Rattle.laws.proofs.tests.Room.{pyramid_room}
use Rattle.laws.proofs.chained.OnLent.{Call, to_level, step_of}
use Rattle.laws.proofs.chained.Undo.{Returned}
use Rattle.laws.proofs.chained.Chains.{calls, AllDone as PlainDone, start_then_unfold as plain_unfold}
use Rattle.sheets.specs.Records.{at}
use Rattle.sheets.specs.Sheets.{Sheets, none, returned_by}
use Rattle.yarn.specs.Places.{merges}
use Rattle.yarn.specs.Calls.{Costed, carried_to, start_with}
use Rattle.yarn.proofs.Returns.{returned_kept, merged_kept, returned_alike}
use Rattle.yarn.proofs.Moved.{Grown, Moved, up, down, carried_grown, carried_shrunk, step_moves}
use Rattle.yarn.proofs.CalledWith.{LentBy, past_by, base_by, WithLeft, with_left}
use Rattle.yarn.proofs.UndoWith.{back_sheet, back_kept}
use Rattle.yarn.proofs.UnfoldWith.{carried_on}
use Rattle.yarn.proofs.ChainedWith.{call_with, calls_with, AllDone, done_plain, plain_call}
use Rattle.yarn.proofs.StartWith.{Begun, begun_past, begun_above, begun_lent, start_begun}

-- ---- everything undone

abbrev grounded : ℕ → List ℕ → List ℕ → Sheets → Sheets
grounded D b past S = carried_to D b past [] S

abbrev from_base : (past : List ℕ) → Grown [] past
from_base past = record { more = reverse past; grown = refl }

module _ (D : ℕ) (b : List ℕ) where
  -- what stands on the second sheet past the count does not matter
  ground_alike : (past : List ℕ) (S Z : Sheets) → S.sheet ≡ Z.sheet → ((i : ℕ) → i < length past → at S.kept i ≡ at Z.kept i)
      → (grounded D b past S).sheet ≡ (grounded D b past Z).sheet
  ground_alike past S Z sheet kept =
      let G = from_base past in
      let size : length (reverse past) ≡ length past = length-reverse past in
      ap (λ (Y : Sheets). Y.sheet) (carried_shrunk G D b S)
      ∙ returned_alike (merges D b (reverse past)) (length (reverse past)) (length (reverse past)) (omega arith) S Z sheet (λ i h. kept i (omega arith))
      ∙ ap (λ (Y : Sheets). Y.sheet) (sym (carried_shrunk G D b Z))

  ground_up : {past new : List ℕ} → Grown past new → (S : Sheets) → length new ≤ length S.kept
      → (grounded D b new (carried_to D b past new S)).sheet ≡ (grounded D b past S).sheet
  ground_up {past} {new} G S room =
      let Z = carried_to D b past new S in
      ap (λ (Y : Sheets). Y.sheet) (sym (carried_on D b Z G (from_base past)))
      ∙ ground_alike past (carried_to D b new past Z) S (back_sheet G D b S room) (λ i h. back_kept G D b S i (λ l k. absurd (omega arith)))

  ground_down : {past new : List ℕ} → Grown new past → (S : Sheets) → grounded D b new (carried_to D b past new S) ≡ grounded D b past S
  ground_down {past} {new} G S = carried_on D b S G (from_base new)

  ground_moved : {past new : List ℕ} → Moved past new → (S : Sheets) → length new ≤ length S.kept
      → (grounded D b new (carried_to D b past new S)).sheet ≡ (grounded D b past S).sheet
  ground_moved (up G) S room = ground_up G S room
  ground_moved (down G) S room = ap (λ (Y : Sheets). Y.sheet) (ground_down G S)

  -- "(a removal's place is neither read nor written, nor are places past the count but by a new contraction)"
  kept_moved : {past new : List ℕ} → Moved past new → (S : Sheets) (i : ℕ) → (length past ≤ i → i < length new → merges D b (reverse new) i ≡ none)
      → at (carried_to D b past new S).kept i ≡ at S.kept i
  kept_moved {past} {new} (up G) S i free =
      let n = length-append (reverse past) G.more in
      let size : length (reverse past ++ G.more) ≡ length new = ap length (sym G.grown) ∙ length-reverse new in
      let count : length (reverse past) ≡ length past = length-reverse past in
      ap (λ (Y : Sheets). at Y.kept i) (carried_grown G D b S)
      ∙ merged_kept _ (length (reverse past)) (length G.more) S i (λ l k. ap (λ hs. merges D b hs i) (sym G.grown) ∙ free (omega arith) (omega arith))
  kept_moved {past} {new} (down G) S i free =
      ap (λ (Y : Sheets). at Y.kept i) (carried_shrunk G D b S) ∙ ap (λ s. at s i) (returned_kept _ _ (length G.more) S)

-- ---- along calls

record Grounded (D : ℕ) (b : List ℕ) (F : Sheets) (a : Costed) : Type 0 where
  darts : a.plain.state.darts ≡ D
  base : base_by a ≡ b
  lent : LentBy a
  ground : (grounded D b (past_by a) a.sheets).sheet ≡ F.sheet

abbrev pub Free : ℕ → List ℕ → ℕ → List Call → Costed → Type 0
Free D b i [] a = Unit {0}
Free D b i (c ∷ cs) a =
    (a.plain.state.operations ≤ i → i < (call_with c a).plain.state.operations → merges D b (reverse (past_by (call_with c a))) i ≡ none)
    × Free D b i cs (call_with c a)

module _ {D : ℕ} {b : List ℕ} {F : Sheets} where
  module _ (c : Call) (a : Costed) (O : Grounded D b F a) (e : (call_with c a).plain.answer.number ≡ 0) where
    abbrev n : Costed
    n = call_with c a

    abbrev W : WithLeft (step_of c) a.plain.state a.plain.table a.plain.history a.plain.work a.sheets n
    W = with_left c a.plain.state a.plain.table a.plain.history a.plain.work a.sheets e

    moved : Moved (past_by a) (past_by n)
    moved = step_moves c a.plain.state _ (past_by a) W.plain.gave

    carried : n.sheets ≡ carried_to D b (past_by a) (past_by n) a.sheets
    carried = W.sheets ∙ ap₂ (λ (D : ℕ) (b : List ℕ). carried_to D b (past_by a) (past_by n) a.sheets) O.darts O.base

    grounded_call : Grounded D b F n
    grounded_call =
        let room : length (past_by n) ≤ n.plain.state.darts / 2 = pyramid_room W.plain.left.lent.pyramid in
        let darts : n.plain.state.darts ≡ a.plain.state.darts = W.plain.left.darts in
        let kept = O.lent.kept in
        record {
          darts = darts ∙ O.darts;
          base = W.base ∙ O.base;
          lent = W.lent;
          ground = ap (λ (Y : Sheets). (grounded D b (past_by n) Y).sheet) carried ∙ ground_moved D b moved a.sheets (omega arith) ∙ O.ground;
        }

    kept_call : (i : ℕ) → (a.plain.state.operations ≤ i → i < n.plain.state.operations → merges D b (reverse (past_by n)) i ≡ none)
        → at n.sheets.kept i ≡ at a.sheets.kept i
    kept_call i free =
        let was : a.plain.state.operations ≡ length (past_by a) = (pyramid_shaped O.lent.lent.pyramid).layered.count in
        let is : n.plain.state.operations ≡ length (past_by n) = (pyramid_shaped W.plain.left.lent.pyramid).layered.count in
        ap (λ (Y : Sheets). at Y.kept i) carried ∙ kept_moved D b moved a.sheets i (λ l k. free (omega arith) (omega arith))

  -- ACCEPTED CALLS, OF WHATEVER KIND AND NUMBER
  grounded_calls : (cs : List Call) (a : Costed) → Grounded D b F a → AllDone cs a → Grounded D b F (calls_with cs a)
  grounded_calls [] a O d = O
  grounded_calls (c ∷ cs) a O d = grounded_calls cs (call_with c a) (grounded_call c a O d.0) d.1

  free_kept : (cs : List Call) (a : Costed) → Grounded D b F a → AllDone cs a → (i : ℕ) → Free D b i cs a
      → at (calls_with cs a).sheets.kept i ≡ at a.sheets.kept i
  free_kept [] a O d i free = refl
  free_kept (c ∷ cs) a O d i free =
      free_kept cs (call_with c a) (grounded_call c a O d.0) d.1 i free.1 ∙ kept_call c a O d.0 i free.0

-- ---- from a start on

pub record BaseWith (D : ℕ) (t h w : List ℕ) (S : Sheets) (cs : List Call) (b : Costed) : Type 0 where
  -- the state of the base, every number of the lent table, and the history as the calls left it
  pub plain : Returned (answered 0 0) (base_state D (take D t)) t (calls_with cs (start_with D t h w S)).plain.history w b.plain
  -- every record of the sheet, bit for bit, at every place
  pub sheet : b.sheets.sheet ≡ S.sheet
  -- and of the second sheet, where no contraction of these calls kept one
  pub kept : (i : ℕ) → Free D (take D t) i cs (start_with D t h w S) → at b.sheets.kept i ≡ at S.kept i

module _ (D : ℕ) (t h w : List ℕ) (S : Sheets) where
  begun_grounded : (a : Costed) → Begun D t h w S a → Grounded D (take D t) S a
  unfolding returned_by
  begun_grounded a G = record {
    darts = (begun_above G).darts;
    base = (begun_above G).base;
    lent = begun_lent G;
    ground = rw (begun_past G, G.sheets) (ap (λ (Y : Sheets). Y.sheet) (carried_shrunk (from_base []) D (take D t) S));
  }

  -- START, ANY ACCEPTED CALLS, UNFOLD TO LEVEL 0: THE STATE OF THE BASE, THE WHOLE LENT TABLE AND THE WHOLE LENT SHEET ARE AS THEY WERE
  pub start_then_unfold : (cs : List Call) → (start_with D t h w S).plain.answer.number ≡ 0 → AllDone cs (start_with D t h w S)
      → BaseWith D t h w S cs (call_with (to_level 0) (calls_with cs (start_with D t h w S)))
  unfolding past_of
  start_then_unfold cs e d =
      let x = start_with D t h w S in
      let G = start_begun D t h w S e in
      let O = begun_grounded x G in
      let a = calls_with cs x in
      let A = grounded_calls cs x O d in
      let n = call_with (to_level 0) a in
      let plainly = done_plain cs x (begun_lent G) e d in
      let same : a.plain ≡ calls cs _ = plainly.same ∙ ap (calls cs) G.plain in
      let R = plain_unfold D t h w cs (subst (PlainDone cs) G.plain plainly.plain) in
      let back : Returned (answered 0 0) (base_state D (take D t)) t a.plain.history w n.plain =
      rw (plain_call (to_level 0) a A.lent, same) R in
      let zero : n.plain.answer.number ≡ 0 = rw back.answer refl in
      let none : past_by n ≡ [] = ap (λ (s : State). past_of s n.plain.history) back.state in
      let sheets : n.sheets ≡ grounded D (take D t) (past_by a) a.sheets =
      carried (to_level 0) a A zero ∙ ap (λ p. carried_to D (take D t) (past_by a) p a.sheets) none in
      record {
        plain = back;
        sheet = ap (λ (Y : Sheets). Y.sheet) sheets ∙ A.ground;
        kept = λ i free.
            ap (λ (Y : Sheets). at Y.kept i) sheets ∙ ap (λ (Y : Sheets). at Y.kept i) (carried_shrunk (from_base (past_by a)) D (take D t) a.sheets)
            ∙ ap (λ s. at s i) (returned_kept _ _ (length (reverse (past_by a))) a.sheets)
            ∙ free_kept cs x O d i free ∙ ap (λ (Y : Sheets). at Y.kept i) G.sheets;
      }
