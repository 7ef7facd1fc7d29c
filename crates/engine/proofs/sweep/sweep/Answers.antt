-- `engine::sweep::sweep` meets its contract: from each edge on the sweep goes to where it goes from the first. That an edge which it takes may be removed
-- is `empty-loop-faces`; nothing of it is judged.
--   Sweeping D n w₀ w e m == w is w₀ after the edges below e, with m operations then
--   taking                == the code's test is the definition's
--   removable             == an edge that is taken may be removed
--   passed_over, taken_on == e was passed over, or taken and removed
--   sweep_ends            == no edge is left
use mathlib.Core.Bool.{Bool, true, false}
use mathlib.Core.List.{List, ◌∷◌}
use mathlib.Core.Path.{◌≡◌, sym, ◌∙◌}
use Prim.Native.Nat.{ℕ, suc, ◌+◌, ◌-◌, ◌/◌, ◌≤◌, ◌<◌}
use native.Mathlib.Numerals.{add-one}
use native.Mathlib.Omega.{arith}
use Rattle.std.proofs.Common.{Ok}
use Rattle.permutations.specs.Choice.{true→T}
use Rattle.darts.specs.Operation.{kind_of}
use Rattle.darts.specs.Kernel.{judge, rising}
use Rattle.darts.specs.Levels.{takes, swept_from, swept}
use Rattle.laws.proofs.bridge.EmptyLoop.{takes_fine}
use Rattle.area.specs.Area.{table_in, past_in}
use Rattle.operations.specs.Operate.{takes_in, operated}
use Rattle.engine.specs.Held.{Area}
use Rattle.engine.specs.Runs.{Went}
use Rattle.engine.proofs.Operated.{operated_acts}
use Rattle.engine.proofs.Ready.{beyond_refl, beyond_trans, area_for}
use Rattle.engine.proofs.Taking.{takes_in_lem}
use Rattle.engine.proofs.sweep.sweep.Invariants.{whole, Sweeping}
use Rattle.engine.proofs.sweep.sweep.Goals as goal
use Rattle.engine.proofs.sweep.sweep.Goals.{then-takes, else-takes}

begin : {D n : ℕ} {w : List ℕ} → Area D n w → Sweeping D n w w 0 n
unfolding swept
begin {D} {n} {w} A =
    let all : D / 2 - 0 ≡ D / 2 = omega arith in
    record { same = rw all; area = A; beyond = beyond_refl D w }

module _ {D n : ℕ} {w₀ w : List ℕ} {e m : ℕ} (σ : Sweeping D n w₀ w e m) where
  module _ (more : e < D / 2) where
    at_turn : swept_from D (table_in D w) (past_in D m w) (e ∷ rising (suc e) (D / 2 - suc e)) ≡ whole D n w₀
    unfolding rising
    at_turn = let left : D / 2 - e ≡ suc (D / 2 - suc e) = omega arith in rw left at σ.same

    module _ {b : Bool} (asked : b ≡ takes_in D w e) where
      taking : takes (table_in D w) (past_in D m w) e ≡ b
      taking = sym (asked ∙ takes_in_lem σ.area e more)

      passed_over : b ≡ false → Sweeping D n w₀ w (e + 1) m
      unfolding swept_from
      passed_over over = record { same = rw (add-one e) (rw (taking ∙ over) at at_turn); area = σ.area; beyond = σ.beyond }

      module _ (chosen : b ≡ true) where
        removable : judge (kind_of 0) D (table_in D w) (past_in D m w) e ≡ 0
        unfolding kind_of
        removable = takes_fine σ.area.stands e more (true→T (taking ∙ chosen))

        taken_on : {v : List ℕ} → v ≡ operated D m w 0 e → Sweeping D n w₀ v (e + 1) (m + 1)
        unfolding swept_from kind_of
        taken_on is =
            let o = operated_acts σ.area 0 (omega arith) e removable in
            rw is (record {
              same = rw (o.table, o.past, add-one e) (rw (taking ∙ chosen) at at_turn);
              area = o.area;
              beyond = beyond_trans σ.beyond (record { size = o.size; rest = o.rest });
            })

  sweep_ends : D / 2 ≤ e → Went D (whole D n w₀) w₀ w (Ok m)
  unfolding rising swept_from
  sweep_ends none =
      let z : D / 2 - e ≡ 0 = omega arith in
      record { went = rw z at σ.same; few = σ.area.few; beyond = σ.beyond }

pub loop-e-init : goal.loop-e-init
loop-e-init c = begin c.requires

pub operate-requires : goal.operate-requires
operate-requires c =
    let σ = c.loop-e.invariant in
    let (room, (few, inside)) = area_for σ.area 0 _ (removable σ c.loop-e-test.true c.takes.ensures c.if-takes.true) in
    record { room = room; n_bound = few; bounds = inside }

pub loop-e-preserved : goal.loop-e-preserved
loop-e-preserved c = elim c.if-takes.branch [
  | then-takes w ↦ rw (w.m-is, w.work-is) (taken_on c.loop-e.invariant c.loop-e-test.true c.takes.ensures w.if-takes.true w.operate.ensures)
  | else-takes w ↦ rw (w.m-is, w.work-is) (passed_over c.loop-e.invariant c.loop-e-test.true c.takes.ensures w.if-takes.false)
]

pub returns : goal.returns
returns c = sweep_ends c.loop-e.invariant c.loop-e-test.false
