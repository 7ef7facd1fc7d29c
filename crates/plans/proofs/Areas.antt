-- The ways that the second call on a plan ends, once its kernel has run in the work area.
--   areas_room  == the work area keeps its room
--   areas_halts == what one level more asks
--   areas_none  == the kernel took no edge: 5
--   areas_level == what one level more leaves is what the call leaves, but for the numbers
--   areas_settles, areas_settled == the numbers of the base can be moved to that level, and then it is what the call leaves
use mathlib.Core.List.{List, []}
use mathlib.Core.Logic.{◌≢◌}
use mathlib.Core.Path.{◌≡◌, sym, ap, subst, ◌∙◌}
use Prim.Native.Nat.{ℕ}
use native.Mathlib.Omega.{arith}
use borrow.Author.Tests.{eq-eqb, ne_eqb}
use lib.ListN.{length}
use Rattle.std.proofs.Common.{Ok}
use Rattle.darts.specs.Answers.{done, empty_kernel}
use Rattle.darts.specs.Operation.{contraction}
use Rattle.darts.specs.State.{State as Stated, zeros, levelled}
use Rattle.darts.specs.Kernel.{Run, stands}
use Rattle.darts.specs.Calls.{After, leaves, cleared, past_of, hands_back}
use Rattle.laws.proofs.calls.Cleared.{cleared_kept}
use Rattle.laws.proofs.chained.OnLent.{Call, by_kernel, called}
use Rattle.laws.proofs.calls.Judging.{Lent}
use Rattle.area.specs.Area.{Room, table_in, past_in}
use Rattle.engine.specs.Runs.{ran_in, Went}
use Rattle.engine.proofs.Area.{room_kept}
use Rattle.engine.proofs.Parts.{past_length}
use Rattle.grids.specs.Grid.{Grid, darts_of}
use Rattle.grids.specs.Plans.{fitting_plan, begun, plan_base, plan_areas, first_kernel}
use Rattle.grids.proofs.Begun.{first_edges, plan_left, areas_reduces}
use Rattle.pyramid.specs.Settling.{Settles, Settled}
use Rattle.pyramid.specs.Steps.{Halts, climbs}
use Rattle.pyramid.specs.Values.{left, unsettled, Hands}
use Rattle.pyramid.specs.declared.Outcome.{Outcome}
use Rattle.pyramid.proofs.Started.{hands}
use Rattle.pyramid.proofs.Settles.{settles, settled}
use Rattle.plans.proofs.Fits.{fitted, fitted_room}
use Rattle.plans.proofs.Planned.{based, plan_begun, base_left}

module _ (g : Grid) (plan t h w : List ℕ) (fits : done ≡ fitting_plan g (length plan) (length t) (length h) (length w)) {v : List ℕ} {m : ℕ}
    (W : Went (darts_of g) (first_kernel g plan) w v (Ok m)) where
  abbrev D : ℕ
  D = darts_of g

  pub areas_room : Room D v
  areas_room = room_kept w v W.beyond.size (fitted_room g (length plan) (length t) (length h) w (fitted g _ _ _ _ fits))

  pub areas_halts : (s : Stated) → s ≡ based g → Halts s (Ok m) v (length t) (length h)
  areas_halts s base =
      let l = (fitted g _ _ _ _ fits).lengths in
      rw base (record {
        room = areas_room;
        table = l.table;
        history = l.history;
        before = omega arith;
        after = W.few;
        refusal = tt;
      })

  new_count : length (past_in D m v) ≡ m
  new_count = past_length D m v (omega (arith, W.few, areas_room.fits))

  same_clear : cleared D v ≡ cleared D w
  same_clear = cleared_kept D w v W.beyond.rest

  went : stands (table_in D v) (past_in D m v) ≡ first_kernel g plan
  went = W.went

  ends : begun D t h w (levelled (based g) [] (stands (table_in D v) (past_in D m v))) ≡ plan_areas g plan t h w
  unfolding plan_areas
  ends = ap (λ (r : Run). begun D t h w (levelled (based g) [] r)) went ∙ plan_begun g plan t h w fits _

  none_left : m ≡ 0 → plan_areas g plan t h w ≡ leaves empty_kernel zeros t h (cleared D w)
  unfolding levelled begun
  none_left z = sym (rw (eq-eqb (length (past_in D m v)) 0 (new_count ∙ z)) at ends)

  pub areas_none : (o : Outcome) → m ≡ 0 → Hands o empty_kernel zeros → left o t h (cleared D v) ≡ plan_areas g plan t h w
  areas_none o z H = rw same_clear (hands o H t h (cleared D w) ∙ sym (none_left z))

  by_level : m ≢ 0 → hands_back (based g) t h v (climbs (based g) (past_of (based g) h) (ran_in D v (Ok m))) ≡ plan_areas g plan t h w
  unfolding levelled begun hands_back past_of
  by_level n =
      let some = ne_eqb (length (past_in D m v)) 0 (λ e. n (sym new_count ∙ e)) in
      rw (some, same_clear) (rw some at ends)

  pub areas_level : (s : Stated) → s ≡ based g → (o : Outcome) {u k : List ℕ} → m ≢ 0
      → unsettled (left o u k (cleared s.darts v)) ≡ unsettled (hands_back s t h v (climbs s (past_of s h) (ran_in s.darts v (Ok m))))
      → unsettled (left o u k (cleared D v)) ≡ unsettled (plan_areas g plan t h w)
  areas_level s base o {u} {k} n L =
      subst
      (λ (z : Stated). unsettled (left o u k (cleared z.darts v)) ≡ unsettled (hands_back z t h v (climbs z (past_of z h) (ran_in z.darts v (Ok m)))))
      base L
      ∙ ap (λ (a : After). unsettled a) (by_level n)

  -- ---- the numbers

  module _ (n : m ≢ 0) where
    accepts : (plan_areas g plan t h w).answer.number ≡ 0
    unfolding levelled begun
    accepts =
        let some = ne_eqb (length (past_in D m v)) 0 (λ e. n (sym new_count ∙ e)) in
        sym (ap (λ (a : After). a.answer.number) (rw some at ends))

    -- the base, as the first call leaves it
    abbrev base : After
    base = plan_base g plan t h w

    -- the first kernel, as a call on it
    abbrev kernel : Call
    kernel = by_kernel (record { kind = contraction; edges = first_edges g plan })

    base_done : base.answer.number ≡ 0
    base_done = sym (ap (λ (a : After). a.answer.number) (base_left g plan t h w fits))

    base_lent : Lent base.state base.table base.history base.work
    base_lent = (plan_left g plan t h w base_done).lent

    by_kernel_lem : plan_areas g plan t h w ≡ called kernel base.state base.table base.history base.work
    by_kernel_lem = areas_reduces g plan t h w accepts

    same_base : based g ≡ base.state
    same_base = ap (λ (a : After). a.state) (base_left g plan t h w fits)

    module _ (o : Outcome) {u k x : List ℕ} (E : unsettled (left o u k x) ≡ unsettled (plan_areas g plan t h w)) where
      left_kernel : unsettled (left o u k x) ≡ unsettled (called kernel base.state base.table base.history base.work)
      left_kernel = E ∙ ap (λ (a : After). unsettled a) by_kernel_lem

      -- THE NUMBERS OF THE BASE CAN BE MOVED TO THE FIRST LEVEL
      pub areas_settles : {s : Stated} → s ≡ based g → Settles s o.state.operations k
      areas_settles e = rw (e ∙ same_base) (settles kernel base_lent o left_kernel)

      -- AND THEN THEY ARE WHAT THE CALL HANDS BACK
      pub areas_settled : {s : Stated} → s ≡ based g → {r : Outcome} → Settled s o k r → left r u k x ≡ plan_areas g plan t h w
      areas_settled e {r} R =
          let moved : Settled base.state o k r = rw (e ∙ same_base) at R in
          settled kernel base_lent o left_kernel moved ∙ sym by_kernel_lem
