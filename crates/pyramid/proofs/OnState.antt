-- The ways that a call on a state ends: refused as it is judged, or by its act in the work area, which is cleared last, so that only its numbers from 4D on
-- matter.
--   Plain r      == the result r is no refusal by 1 or 2
--   act_ends     == what the act leaves is what its step gives
--   act_refused  == the step refuses
--   act_given    == the step gives what the work area holds
--   stood_ends   == what comes once the call is judged leaves what the call leaves
--   call_refused == 1, 2 or 4
use mathlib.Core.List.{List, reverse-reverse}
use mathlib.Core.Logic.{◌≢◌}
use mathlib.Core.Path.{◌≡◌, refl, sym, ap, ◌∙◌}
use Prim.Native.Nat.{ℕ, ◌+◌, ◌*◌}
use borrow.Author.Tests.{ne_eqb}
use Rattle.slices.specs.Over.{over}
use Rattle.slices.specs.Part.{part}
use Rattle.darts.specs.Answers.{Answer, done}
use Rattle.darts.specs.State.{State, Result, gives, refuses}
use Rattle.darts.specs.Calls.{After, table_of, past_of, cleared, work_after, hands_back, on_state}
use Rattle.laws.proofs.calls.Cleared.{cleared_kept}
use Rattle.laws.proofs.calls.Judging.{on_lent, on_refused}
use Rattle.area.specs.Area.{table_in, past_in}
use Rattle.engine.specs.Held.{Beyond}
use Rattle.engine.proofs.Ready.{beyond_refl}
use Rattle.pyramid.specs.Steps.{Judged}
use Rattle.pyramid.specs.Values.{figures_of, left, unsettled, Hands}
use Rattle.pyramid.specs.declared.Outcome.{Outcome}
use Rattle.pyramid.proofs.Judges.{lent_of, stood_of}
use Rattle.pyramid.proofs.Started.{HandsBare, hands_bare, hands}

abbrev pub Plain : Result → Type 0
Plain (gives s t past) = Unit {0}
Plain (refuses a) = (a.number ≢ 1) × (a.number ≢ 2)

hands_kept : (s : State) (t h w v : List ℕ) (x : Result) → Plain x → cleared s.darts v ≡ cleared s.darts w → hands_back s t h v x ≡ hands_back s t h w x
unfolding hands_back work_after
hands_kept s t h w v (gives z u past) p e = rw e
hands_kept s t h w v (refuses a) p e = rw (ne_eqb a.number 1 p.0, ne_eqb a.number 2 p.1, e)

module _ (step : State → List ℕ → List ℕ → Result) {s : State} {k : ℕ} {t h w v : List ℕ} {a : Answer} (J : Judged s k t h w v a) where
  abbrev D : ℕ
  D = s.darts

  abbrev found : Result
  found = step s (table_of s t) (past_of s h)

  module _ (fine : a.number ≡ 0) {u : List ℕ} (B : Beyond D v u) where
    pub act_ends : {x : After} {y : Result} → found ≡ y → Plain y → x ≡ unsettled (hands_back s t h u y) → x ≡ unsettled (on_state step s t h w)
    act_ends {y = y} e p L =
        L ∙ ap (λ (x : After). unsettled x)
        (hands_kept s t h w u y p (cleared_kept D w u (B.rest ∙ (J.checked fine).beyond.rest))
        ∙ sym (on_lent s t h w step (lent_of J fine) ∙ ap (hands_back s t h w) e))

    pub act_refused : {o : Outcome} {b : Answer} → found ≡ refuses b → Plain (refuses b) → HandsBare o b (figures_of s)
        → unsettled (left o t h (cleared D u)) ≡ unsettled (on_state step s t h w)
    unfolding hands_back work_after
    act_refused {o} {b} e p H =
        act_ends e p (hands_bare o s H t h (cleared D u) ∙ sym (rw (ne_eqb b.number 1 p.0, ne_eqb b.number 2 p.1)))

    pub act_given : {o : Outcome} {z : State} → found ≡ gives z (table_in D u) (past_in D z.operations u) → HandsBare o done (figures_of z)
        → unsettled (left o (over (table_in D u) t) (over (part (3 * D) (3 * D + z.operations) u) h) (cleared D u)) ≡ unsettled (on_state step s t h w)
    unfolding hands_back
    act_given {o} {z} e H =
        rw (← (reverse-reverse (part (3 * D) (3 * D + z.operations) u))) (act_ends e tt (hands_bare o z H _ _ (cleared D u)))

  pub stood_ends : (fine : a.number ≡ 0) {x : After} → Plain found → x ≡ unsettled (on_state step s t h v) → x ≡ unsettled (on_state step s t h w)
  stood_ends fine p e = act_ends fine (beyond_refl D v) refl p (e ∙ ap (λ (x : After). unsettled x) (on_lent s t h v step (lent_of (stood_of J fine) refl)))

pub call_refused : (step : State → List ℕ → List ℕ → Result) {s : State} {k : ℕ} {t h w v : List ℕ} {a : Answer} → Judged s k t h w v a → a.number ≢ 0
    → {o : Outcome} → Hands o a s → left o t h v ≡ on_state step s t h w
unfolding hands_back
call_refused step {s} {k} {t} {h} {w} {v} J n {o} H =
    hands o H t h v ∙ rw (J.refused n, J.answer) (sym (on_refused s t h w step (λ e. n (ap (λ (b : Answer). b.number) J.answer ∙ e))))
