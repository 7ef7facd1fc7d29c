-- The ways that a call on a plan ends.
--   based g      == the base of the grid g
--   plan_refused == 15 or 2: nothing is written
--   plan_begun   == neither: what the base, or the base with a level, leaves
--   base_left    == what the base leaves
--   base_begun   == a base
use mathlib.Core.List.{List, []}
use mathlib.Core.Logic.{◌≢◌}
use mathlib.Core.Path.{◌≡◌, sym, ap, ◌∙◌}
use Prim.Native.Nat.{ℕ}
use borrow.Author.Tests.{eq-eqb, ne_eqb}
use lib.ListN.{length}
use Rattle.slices.specs.Over.{over}
use Rattle.darts.specs.Answers.{Answer, done}
use Rattle.darts.specs.Cases.{refusal_of}
use Rattle.darts.proofs.Cases.{refused_number}
use Rattle.darts.specs.declared.Refusal.{Refusal}
use Rattle.darts.specs.State.{State, zeros, base_state, Result, gives}
use Rattle.darts.specs.Calls.{leaves, cleared}
use Rattle.grids.specs.Grid.{Grid, darts_of}
use Rattle.grids.specs.Base.{base_table}
use Rattle.grids.specs.Plans.{fitting_plan, begun, on_plan, plan_base}
use Rattle.pyramid.specs.Values.{left, Hands}
use Rattle.pyramid.specs.declared.Outcome.{Outcome}
use Rattle.pyramid.proofs.Started.{hands}

abbrev pub based : Grid → State
based g = base_state (darts_of g) (base_table g)

module _ (g : Grid) (plan t h w : List ℕ) where
  abbrev first : Answer
  first = fitting_plan g (length plan) (length t) (length h) (length w)

  abbrev D : ℕ
  D = darts_of g

  pub plan_refused : (r : Result) (o : Outcome) (a : Refusal) → refusal_of a ≡ first → Hands o (refusal_of a) zeros
      → left o t h w ≡ on_plan g r plan t h w
  unfolding on_plan
  plan_refused r o a judged H =
      let refused : first.number ≢ 0 = λ z. refused_number a (ap (λ (b : Answer). b.number) judged ∙ z) in
      hands o H t h w ∙ rw judged (sym (rw (ne_eqb first.number 0 refused)))

  module _ (fits : done ≡ first) where
    pub plan_begun : (r : Result) → begun D t h w r ≡ on_plan g r plan t h w
    unfolding on_plan
    plan_begun r = rw (eq-eqb first.number 0 (sym (ap (λ (a : Answer). a.number) fits)))

    pub base_left : leaves done (based g) (over (base_table g) t) h (cleared D w) ≡ plan_base g plan t h w
    unfolding plan_base begun over
    base_left = plan_begun (gives (based g) (base_table g) [])

    pub base_begun : (o : Outcome) → Hands o done (based g) → left o (over (base_table g) t) h (cleared D w) ≡ plan_base g plan t h w
    base_begun o H = hands o H (over (base_table g) t) h (cleared D w) ∙ base_left
