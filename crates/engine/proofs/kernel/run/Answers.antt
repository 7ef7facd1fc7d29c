-- `engine::kernel::run` meets its contract: the edges that are left run to where the whole kernel runs.
--   at_turn  == after i edges of the kernel es, the next is at its turn
--   turn_on  == it was done
--   run_ends == no edge is left
--   went     == a turn that nothing refuses is done
use mathlib.Core.List.{List, ◌∷◌}
use mathlib.Core.Logic.{◌≢◌}
use mathlib.Core.Path.{◌≡◌, refl}
use Prim.Native.Nat.{ℕ, suc, ◌+◌, ◌≤◌, ◌<◌}
use native.Mathlib.Numerals.{add-one}
use native.Mathlib.Omega.{arith}
use lib.ListN.{length, get_or, drop, drop_of_length-le}
use lib.Seq.{drop-cons}
use Rattle.std.specs.Prelude.{Result, Ok, Err}
use Rattle.darts.specs.Kernel.{Run, always, pass, run}
use Rattle.darts.specs.Kinds.{kind_is, bit}
use Rattle.darts.specs.declared.Kind.{Kind}
use Rattle.darts.specs.declared.Refusal.{Refusal}
use Rattle.darts.proofs.Bits.{bit_kind}
use Rattle.area.specs.Area.{table_in, past_in}
use Rattle.engine.specs.Held.{Ready}
use Rattle.engine.specs.Runs.{Went, Turned}
use Rattle.engine.proofs.Ready.{beyond_refl}
use Rattle.engine.proofs.Underway.{Underway, underway_on, underway_stops, underway_ends}
use Rattle.engine.proofs.kernel.run.Goals as goal

begin : {D n : ℕ} (k : Kind) {w : List ℕ} (es : List ℕ) → Ready D n (bit k) w
    → Underway D (bit k) always (run (kind_is k) D (table_in D w) (past_in D n w) es) w 0 es w n
unfolding run pass
begin {D} k {w} es ready = record { same = rw (bit_kind k) refl; ready = ready; beyond = beyond_refl D w }

-- what is refused by nothing is done
went : {D m k e i : ℕ} {w v : List ℕ} (r : Result (Unit {0}) Refusal) → Turned D m k e i w v r → ((a : Refusal) → r ≢ Err a) → Turned D m k e i w v (Ok tt)
went (Ok x) τ other = τ
went (Err a) τ other = absurd (other a refl)

module _ {D k : ℕ} {whole : Run} {w₀ : List ℕ} {i : ℕ} (n : ℕ) (es : List ℕ) {w : List ℕ} (u : Underway D k always whole w₀ i (drop i es) w (n + i)) where
  at_turn : i < length es → Underway D k always whole w₀ i (get_or es i 0 ∷ drop (suc i) es) w (n + i)
  at_turn more = rw (← drop-cons es i 0 more) u

  turn_on : {v : List ℕ} → i < length es → Turned D (n + i) k (get_or es i 0) i w v (Ok tt)
      → Underway D k always whole w₀ (i + 1) (drop (i + 1) es) v (n + (i + 1))
  turn_on more τ = let next : n + (i + 1) ≡ n + i + 1 = omega arith in rw (next, add-one i) (underway_on (at_turn more) refl τ)

  run_ends : i ≡ length es → Went D whole w₀ w (Ok (n + length es))
  run_ends all = let over : length es ≤ i = omega arith in rw (← all) (underway_ends (rw (drop_of_length-le es over) at u))

pub loop-i-init : goal.loop-i-init
loop-i-init c = let none : c.args.n + 0 ≡ c.args.n = omega arith in rw none (begin c.args.kind _ c.requires)

pub returns-in-Err : goal.returns-in-Err
returns-in-Err c =
    underway_stops (at_turn _ c.args.kernel.now c.loop-i.invariant (omega arith)) refl (rw (← c.in-Err.is) c.turn.ensures)

pub loop-i-preserved : goal.loop-i-preserved
loop-i-preserved c = turn_on _ c.args.kernel.now c.loop-i.invariant (omega arith) (went _ c.turn.ensures c.in_default.not-Err)

pub returns : goal.returns
returns c = run_ends _ c.args.kernel.now c.loop-i.invariant (omega arith)
