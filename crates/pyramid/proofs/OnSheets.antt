-- The ways that a call with sheets ends.
--   with_done     == what the plain step leaves, and what becomes of the sheets
--   with_contract == a kernel of contractions, once it is judged
--   with_left     == a step that leaves both sheets
--   with_remove, with_sweep == a kernel of removals, and the sweep
--   called_sheets == the call c is its step on a state and its sheets
--   with_refused  == the call is refused as it is judged: neither sheet changes
--   with_settles, with_settled == else its numbers can be put right, and then it leaves what the call leaves
use mathlib.Core.List.{List}
use mathlib.Core.Logic.{◌≢◌}
use mathlib.Core.Path.{◌≡◌, refl, sym, ap, ap₂, ◌∙◌}
use Prim.Native.Nat.{ℕ}
use Rattle.permutations.specs.Choice.{eqb_other}
use Rattle.darts.specs.Answers.{Answer}
use Rattle.darts.specs.Operation.{contraction, removal}
use Rattle.darts.specs.State.{State, Result, reduce}
use Rattle.darts.specs.Levels.{sweep}
use Rattle.darts.specs.Calls.{After, leaves, table_of, past_of, work_after, hands_back, on_state, reduce_by, sweep_by}
use Rattle.laws.proofs.calls.Judging.{on_lent}
use Rattle.laws.proofs.chained.OnLent.{Call, by_kernel, by_sweep, by_undo, to_level, called, step_of}
use Rattle.sheets.specs.declared.Zone.{Zone}
use Rattle.sheets.specs.Sheets.{Sheets}
use Rattle.yarn.specs.Calls.{Costed, costed, judged, sheets_after, on_sheets, reduce_with, sweep_with, undo_with, unfold_with}
use Rattle.yarn.proofs.sentences.Judging.{Costed as Lent, judged_costed}
use Rattle.yarn.proofs.sentences.Plain.{state_plain}
use Rattle.yarn.proofs.CalledWith.{called_with, called_plain}
use Rattle.yarn.proofs.LentWith.{LentWith}
use Rattle.yarn.proofs.sentences.Removals.{removing_sheets, sweep_sheets}
use Rattle.pyramid.specs.Costs.{JudgedWith, costs, costs_left, unsettled_costs, contracts_with}
use Rattle.pyramid.specs.Settling.{Settles, Settled}
use Rattle.pyramid.specs.Values.{left, unsettled, Hands}
use Rattle.pyramid.specs.declared.Outcome.{Outcome}
use Rattle.pyramid.proofs.ByRun.{plain_reduce, plain_sweep}
use Rattle.pyramid.proofs.JudgesWith.{costed_of, plain_judged}
use Rattle.pyramid.proofs.OnState.{Plain, stood_ends}
use Rattle.pyramid.proofs.Settles.{settles, settled}
use Rattle.pyramid.proofs.Started.{hands}

-- on a pyramid with its sheets a call is what its step gives
module _ (step : State → List ℕ → List ℕ → Result) (s : State) (t h w : List ℕ) (S : Sheets) where
  on_found : Lent s t h w S → on_sheets step s t h w S
      ≡ costed (hands_back s t h w (step s (table_of s t) (past_of s h))) (sheets_after s (table_of s t) (past_of s h) S (step s (table_of s t) (past_of s h)))
  unfolding on_sheets
  on_found C = rw (judged_costed s t h w S C)

module _ (step : State → List ℕ → List ℕ → Result) {s : State} {t h w v : List ℕ} {S : Sheets} {a : Answer} (J : JudgedWith s t h w v S a) where
  abbrev found : Result
  found = step s (table_of s t) (past_of s h)

  module _ (fine : a.number ≡ 0) (plain : Plain found) where
    -- WHAT THE PLAIN STEP LEAVES, AND WHAT BECOMES OF THE SHEETS
    pub with_done : {x : After} {Z : Sheets} → x ≡ unsettled (on_state step s t h v) → Z ≡ sheets_after s (table_of s t) (past_of s h) S found
        → costed x Z ≡ unsettled_costs (on_sheets step s t h w S)
    with_done e z =
        let C = costed_of J fine in
        ap₂ costed (stood_ends step (plain_judged J fine) refl plain e ∙ ap (λ (x : After). unsettled x) (on_lent s t h w step C.lent)) z
        ∙ ap (λ (c : Costed). unsettled_costs c) (sym (on_found step s t h w S C))

    pub with_left : {x : After} → x ≡ unsettled (on_state step s t h v) → (on_sheets step s t h w S).sheets ≡ S
        → costed x S ≡ unsettled_costs (on_sheets step s t h w S)
    with_left e z =
        let C = costed_of J fine in
        ap₂ costed
        (stood_ends step (plain_judged J fine) refl plain e ∙ ap (λ (x : After). unsettled x) (sym (state_plain s t h w S C.room (λ _. C.right) step)))
        (sym z)

pub with_contract : (es : List ℕ) {s : State} {t h w v : List ℕ} {S : Sheets} {a : Answer} → JudgedWith s t h w v S a → a.number ≡ 0
    → {c : Costed} → c ≡ contracts_with es s t h v S → c ≡ unsettled_costs (reduce_with contraction es s t h w S)
unfolding reduce_by reduce_with
with_contract es {s} {t} {h} J fine e = e ∙ with_done (reduce contraction es) J fine (plain_reduce contraction es s (table_of s t) (past_of s h)) refl refl

pub with_remove : (es : List ℕ) {s : State} {t h w v : List ℕ} {S : Sheets} {a : Answer} → JudgedWith s t h w v S a → a.number ≡ 0
    → {x : After} → x ≡ unsettled (reduce_by removal es s t h v) → costed x S ≡ unsettled_costs (reduce_with removal es s t h w S)
unfolding reduce_by reduce_with
with_remove es J fine e = with_left (reduce removal es) J fine (plain_reduce _ _ _ _ _) e (removing_sheets _ _ _ _ _ _)

pub with_sweep : {s : State} {t h w v : List ℕ} {S : Sheets} {a : Answer} → JudgedWith s t h w v S a → a.number ≡ 0
    → {x : After} → x ≡ unsettled (sweep_by s t h v) → costed x S ≡ unsettled_costs (sweep_with s t h w S)
unfolding sweep_by sweep_with
with_sweep J fine e = with_left sweep J fine (plain_sweep _ _ _) e (sweep_sheets _ _ _ _ _)

-- ---- the calls on a state

called_sheets : (c : Call) → called_with c ≡ on_sheets (step_of c)
unfolding reduce_with sweep_with undo_with unfold_with
called_sheets (by_kernel k) = refl
called_sheets by_sweep = refl
called_sheets by_undo = refl
called_sheets (to_level k) = refl

on_refused : (step : State → List ℕ → List ℕ → Result) (s : State) (t h w : List ℕ) (S : Sheets) → (judged s t h w S).number ≢ 0
    → on_sheets step s t h w S ≡ costed (leaves (judged s t h w S) s t h (work_after (judged s t h w S) s.darts w)) S
unfolding on_sheets hands_back sheets_after
on_refused step s t h w S n = rw (eqb_other n)

module _ (c : Call) {s : State} {t h w v : List ℕ} {S : Sheets} {a : Answer} (J : JudgedWith s t h w v S a) where
  pub with_refused : a.number ≢ 0 → {o : Outcome} → Hands o a s → costs o t h v S.sheet S.kept ≡ called_with c s t h w S
  with_refused n {o} H =
      let m : (judged s t h w S).number ≢ 0 = λ e. n (ap (λ (b : Answer). b.number) J.answer ∙ e) in
      ap (λ (x : After). costed x S) (hands o H t h v ∙ rw (J.refused n, J.answer))
      ∙ sym (ap (λ (f : State → List ℕ → List ℕ → List ℕ → Sheets → Costed). f s t h w S) (called_sheets c) ∙ on_refused (step_of c) s t h w S m)

  module _ (fine : a.number ≡ 0) where
    lent : LentWith s t h w S
    lent = let C = costed_of J fine in record { lent = C.lent; sheet = C.room.sheet; kept = C.room.kept; given = C.right }

    -- what is left without the numbers
    module _ (o : Outcome) {u g x : List ℕ} {k l : List Zone} (E : costs_left o u g x k l ≡ unsettled_costs (called_with c s t h w S)) where
      plain : (called_with c s t h w S).plain ≡ called c s t h w
      plain = called_plain c s t h w S lent

      plain_left : unsettled (left o u g x) ≡ unsettled (called c s t h w)
      plain_left = ap (λ (b : Costed). b.plain) E ∙ ap (λ (b : After). unsettled b) plain

      pub with_settles : Settles s o.state.operations g
      with_settles = settles c lent.lent o plain_left

      -- THE NUMBERS PUT RIGHT, IT IS WHAT THE CALL LEAVES
      pub with_settled : {r : Outcome} → Settled s o g r → costs r u g x k l ≡ called_with c s t h w S
      with_settled {r} R = ap₂ costed (settled c lent.lent o plain_left R ∙ sym plain) (ap (λ (b : Costed). b.sheets) E)
