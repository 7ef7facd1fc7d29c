-- A pass under way in the work area: a kernel's, or that of a plan's first kernel.
--   Underway D k takes whole w₀ i es w m == w is w₀ after some of a pass's turns, i of them taken, and there are m operations then: the pass over the edges
--                                           es that are left, from the table and the past that w holds, goes where the whole pass goes
--   underway_over                        == an edge is passed over
--   underway_kept                        == the work area may have changed where nothing is held
--   underway_on                          == it is taken, and done
--   underway_stops                       == it is taken, and refused: so is the pass
--   underway_ends                        == no edge is left
use mathlib.Core.Bool.{true, false}
use mathlib.Core.List.{List, [], ◌∷◌}
use mathlib.Core.Logic.{◌≢◌}
use mathlib.Core.Path.{◌≡◌, refl, sym, ◌∙◌}
use Prim.Native.Nat.{ℕ, suc, ◌+◌}
use Rattle.std.proofs.Common.{Ok, Err}
use Rattle.permutations.specs.Choice.{eqb_other}
use Rattle.darts.specs.declared.Refusal.{Refusal}
use Rattle.darts.proofs.Cases.{refused_number}
use Rattle.darts.specs.Operation.{kind_of}
use Rattle.darts.specs.Kernel.{judge, each, Run, stops, Test, pass_from}
use Rattle.area.specs.Area.{table_in, past_in}
use Rattle.engine.specs.Held.{Ready, Beyond}
use Rattle.engine.specs.Runs.{Went, Stays, Turned}
use Rattle.engine.proofs.Ready.{beyond_trans}

pub record Underway (D k : ℕ) (takes : Test) (whole : Run) (w₀ : List ℕ) (i : ℕ) (es w : List ℕ) (m : ℕ) : Type 0 where
  pub same : pass_from takes D (table_in D w) (past_in D m w) i (each (kind_of k) es) ≡ whole
  pub ready : Ready D m k w
  pub beyond : Beyond D w₀ w

module _ {D k : ℕ} {takes : Test} {whole : Run} {w₀ : List ℕ} {i m : ℕ} {w : List ℕ} where
  module _ {e : ℕ} {es : List ℕ} (u : Underway D k takes whole w₀ i (e ∷ es) w m) where
    pub underway_over : takes (table_in D w) (past_in D m w) e ≡ false → Underway D k takes whole w₀ i es w m
    unfolding pass_from
    underway_over over = record { same = rw over at u.same; ready = u.ready; beyond = u.beyond }

    module _ (chosen : takes (table_in D w) (past_in D m w) e ≡ true) {v : List ℕ} where
      pub underway_on : Turned D m k e i w v (Ok tt) → Underway D k takes whole w₀ (suc i) es v (m + 1)
      unfolding pass_from
      underway_on τ =
          let g = τ.done refl in
          let turn = rw (chosen, sym τ.answer.number) at u.same in
          record { same = rw (g.table, g.past) turn; ready = g.ready; beyond = beyond_trans u.beyond τ.beyond }

      pub underway_stops : {r : Refusal} → Turned D m k e i w v (Err r) → Went D whole w₀ v (Err r)
      unfolding pass_from
      underway_stops {r} τ =
          let said = τ.answer in
          let refused : judge (kind_of k) D (table_in D w) (past_in D m w) e ≢ 0 = λ z. refused_number r (said.number ∙ z) in
          let stop = rw (chosen, eqb_other refused) at u.same in
          record {
            went = (λ j. stops (record { number = said.number j; place = said.place refused j; second = said.second j })) ∙ stop;
            few = tt;
            beyond = beyond_trans u.beyond τ.beyond;
          }

  pub underway_kept : {es v : List ℕ} → Stays D m k w v → Underway D k takes whole w₀ i es w m → Underway D k takes whole w₀ i es v m
  underway_kept s u = record { same = rw (s.table, s.past) u.same; ready = s.ready; beyond = beyond_trans u.beyond s.beyond }

  pub underway_ends : Underway D k takes whole w₀ i [] w m → Went D whole w₀ w (Ok m)
  unfolding pass_from
  underway_ends u = record { went = u.same; few = u.ready.area.few; beyond = u.beyond }
