-- One level more by a run in the work area: what a kernel and the sweep share.
--   Levels step runner           == the step is one level more, by the run of this runner
--   reduce_levels, sweep_levels  == a kernel, and the sweep
--   plain_reduce, plain_sweep    == neither is refused by 1 or 2
--   step_full                    == where 64 levels are in use the step refuses
--   level_full                   == and the refusal, with the work area cleared, is what the call leaves
--   level_halts                  == a run that ended: what one level more asks
--   level_ran                    == the run, on what was lent
--   level_ends                   == what one level more leaves is what the call leaves
use mathlib.Core.Bool.{Bool, true, false}
use mathlib.Core.List.{List}
use mathlib.Core.Path.{◌≡◌, refl, sym, ap, ap₂, subst, ◌∙◌}
use Prim.Native.Nat.{ℕ, ◌≤◌}
use native.Mathlib.Omega.{arith}
use lib.Dec.{eqb, leb}
use borrow.Author.Tests.{le-leb}
use lib.ListN.{length}
use Rattle.std.proofs.Common.{if◌then◌else◌}
use Rattle.std.specs.Prelude.{Result as Answering, Ok, Err, IfErr}
use Rattle.darts.specs.Answers.{Answer, too_many_levels, empty_kernel}
use Rattle.darts.specs.Cases.{refusal_of}
use Rattle.darts.specs.Operation.{Kind}
use Rattle.darts.specs.Kernel.{Run, stands, stops, run}
use Rattle.darts.specs.State.{State, Result, refuses, levelled, reduce}
use Rattle.darts.specs.Levels.{swept, sweep}
use Rattle.darts.specs.Calls.{After, table_of, past_of, cleared, hands_back, on_state}
use Rattle.darts.specs.declared.Refusal.{Refusal}
use Rattle.laws.proofs.runs.Stops.{Edgy, run_edgy, swept_edgy}
use Rattle.area.specs.Area.{table_in, past_in}
use Rattle.engine.specs.Runs.{ran_in, Went}
use Rattle.engine.proofs.Ready.{beyond_refl}
use Rattle.pyramid.specs.Steps.{Judged, Halts, climbs}
use Rattle.pyramid.specs.Values.{figures_of, left, unsettled}
use Rattle.pyramid.specs.declared.Outcome.{Outcome}
use Rattle.pyramid.proofs.Judges.{lent_of, room_then}
use Rattle.pyramid.proofs.OnState.{Plain, act_ends, act_refused}
use Rattle.pyramid.proofs.Started.{HandsBare}

pub record Levels (step : State → List ℕ → List ℕ → Result) (runner : ℕ → List ℕ → List ℕ → Run) : Type 0 where
  pub edgy : (D : ℕ) (t past : List ℕ) → Edgy (runner D t past)
  pub steps : (s : State) (t past : List ℕ) → step s t past ≡ climbs s past (runner s.darts t past)

pub reduce_levels : {x k : Kind} → x ≡ k → (es : List ℕ) → Levels (reduce k es) (λ D t past. run x D t past es)
unfolding reduce
reduce_levels {x} e es = rw (← e) (record { edgy = λ D t past. run_edgy x D t past es; steps = λ s t past. refl })

pub sweep_levels : Levels sweep swept
unfolding sweep
sweep_levels = record { edgy = swept_edgy; steps = λ s t past. refl }

-- a level more is refused by an edge, or as empty
plain_if : (b : Bool) (x y : Result) → Plain x → Plain y → Plain (if b then x else y)
plain_if true x y h k = h
plain_if false x y h k = k

plain_levelled : (s : State) (past : List ℕ) (r : Run) → Edgy r → Plain (levelled s past r)
unfolding levelled
plain_levelled s past (stands t new) e =
    plain_if (eqb (length new) (length past)) (refuses empty_kernel) _ (λ z. omega arith, λ z. omega arith) tt
plain_levelled s past (stops a) e = (λ z. omega (arith, e.0), λ z. omega (arith, e.0))

plain_climbs : (s : State) (past : List ℕ) (r : Run) → Edgy r → Plain (climbs s past r)
plain_climbs s past r e =
    plain_if (leb 64 s.levels) (refuses too_many_levels) _ (λ z. omega arith, λ z. omega arith) (plain_levelled s past r e)

plain_step : {step : State → List ℕ → List ℕ → Result} {runner : ℕ → List ℕ → List ℕ → Run} → Levels step runner
    → (s : State) (t past : List ℕ) → Plain (step s t past)
plain_step {runner = runner} S s t past = rw (S.steps s t past) (plain_climbs s past _ (S.edgy s.darts t past))

pub plain_reduce : (k : Kind) (es : List ℕ) (s : State) (t past : List ℕ) → Plain (reduce k es s t past)
plain_reduce k es = plain_step (reduce_levels refl es)

pub plain_sweep : (s : State) (t past : List ℕ) → Plain (sweep s t past)
plain_sweep = plain_step sweep_levels

-- the refusal that stopped a run is an edge's
ran_edgy : (D : ℕ) (w : List ℕ) (r : Answering ℕ Refusal) {run : Run} → ran_in D w r ≡ run → Edgy run
    → IfErr r (λ a. (7 ≤ (refusal_of a).number) × ((refusal_of a).number ≤ 11))
ran_edgy D w (Ok m) e edgy = tt
ran_edgy D w (Err a) e edgy = subst Edgy (sym e) edgy

module _ {step : State → List ℕ → List ℕ → Result} {runner : ℕ → List ℕ → List ℕ → Run} (S : Levels step runner) {s : State} (full : 64 ≤ s.levels) where
  pub step_full : (t past : List ℕ) → step s t past ≡ refuses too_many_levels
  step_full t past = S.steps s t past ∙ rw (le-leb 64 s.levels full) refl

  pub level_full : {k : ℕ} {t h w v : List ℕ} {a : Answer} → Judged s k t h w v a → a.number ≡ 0 → {o : Outcome} → HandsBare o too_many_levels (figures_of s)
      → unsettled (left o t h (cleared s.darts v)) ≡ unsettled (on_state step s t h w)
  level_full {t = t} {h = h} {v = v} J fine H =
      act_refused step J fine (beyond_refl s.darts v) (step_full (table_of s t) (past_of s h)) (λ z. omega arith, λ z. omega arith) H

module _ {step : State → List ℕ → List ℕ → Result} {runner : ℕ → List ℕ → List ℕ → Run} (S : Levels step runner)
    {s : State} {k : ℕ} {t h w v : List ℕ} {a : Answer} (J : Judged s k t h w v a) (fine : a.number ≡ 0)
    {u : List ℕ} {r : Answering ℕ Refusal} (W : Went s.darts (runner s.darts (table_in s.darts v) (past_in s.darts s.operations v)) v u r) where
  abbrev D : ℕ
  D = s.darts

  pub level_halts : Halts s r u (length t) (length h)
  level_halts = record {
    room = room_then J fine W.beyond;
    table = (lent_of J fine).lengths.table;
    history = (lent_of J fine).lengths.history;
    before = ((J.checked fine).area refl).few;
    after = W.few;
    refusal = ran_edgy D u r W.went (S.edgy D (table_in D v) (past_in D s.operations v));
  }

  -- the run, on the table and the past that were lent
  pub level_ran : ran_in D u r ≡ runner D (table_of s t) (past_of s h)
  level_ran = let C = J.checked fine in W.went ∙ ap₂ (runner D) (C.table refl) (C.past refl)

  pub level_ends : {x : After} → x ≡ unsettled (hands_back s t h u (climbs s (past_of s h) (ran_in D u r))) → x ≡ unsettled (on_state step s t h w)
  level_ends L =
      act_ends step J fine W.beyond (S.steps s (table_of s t) (past_of s h)) (plain_climbs s (past_of s h) _ (S.edgy D (table_of s t) (past_of s h)))
      (L ∙ ap (λ (y : Run). unsettled (hands_back s t h u (climbs s (past_of s h) y))) level_ran)
