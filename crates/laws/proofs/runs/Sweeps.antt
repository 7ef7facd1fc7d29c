-- The sweep is a removal kernel.
--   loops s t past == the edges that the sweep takes
--   sweep_raises   == an accepted sweep is one level more
--   sweep_told     == the removals of these edges, in their order, are what the history gets
--   swept_run      == its pass is their run: each of them may be removed at its turn
--   sweep_reduces  == the sweep is their removal kernel, where it is refused too: what holds of every kernel holds of it
use mathlib.Core.Bool.{Bool, true, false}
use mathlib.Core.List.{List, [], ◌∷◌}
use mathlib.Core.Path.{◌≡◌, refl, ap}
use Prim.Native.Nat.{ℕ, zero, suc, ◌+◌, ◌/◌, ◌≤◌, ◌<◌}
use native.Mathlib.Omega.{arith}
use lib.Dec.{T, leb}
use Rattle.permutations.specs.Choice.{T?, T→true, not_T→false}
use Rattle.std.proofs.Common.{if◌then◌else◌}
use Rattle.darts.specs.Answers.{too_many_levels}
use Rattle.darts.specs.Operation.{removal, lead, operate, number}
use Rattle.darts.specs.Kernel.{each, rising, Run, stands, always, pass_from, pass, run}
use Rattle.darts.specs.State.{State, gives, refuses, levelled, reduce}
use Rattle.darts.specs.Levels.{takes, swept_from, swept, sweep}
use Rattle.laws.specs.Standing.{Standing}
use Rattle.laws.proofs.bridge.Operate.{operate_stands}
use Rattle.laws.proofs.bridge.EmptyLoop.{takes_fine}
use Rattle.laws.proofs.runs.Operations.{Told, told_first}
use Rattle.laws.proofs.runs.Taking.{taken}
use Rattle.laws.proofs.runs.Reduces.{Raises, raises}

abbrev pub loops : State → List ℕ → List ℕ → List ℕ
loops s t past = taken takes removal s.darts t past (rising 0 (s.darts / 2))

-- ---- of every table with a past

-- by the test's answer at the turn of e
told_turn : (b : Bool) (t past : List ℕ) (e : ℕ) (over on : Run) (es fs : List ℕ) {u new : List ℕ} → (over ≡ stands u new → Told past (each removal es) new)
    → (on ≡ stands u new → Told (number removal (lead removal t e) ∷ past) (each removal fs) new)
    → (if b then on else over) ≡ stands u new → Told past (each removal (if b then e ∷ fs else es)) new
told_turn true t past e over on es fs l k h = told_first t (record { kind = removal; edge = e }) (k h)
told_turn false t past e over on es fs l k h = l h

from_told : (D : ℕ) (t past es : List ℕ) {u new : List ℕ} → swept_from D t past es ≡ stands u new → Told past (each removal (taken takes removal D t past es)) new
unfolding swept_from taken
from_told D t past [] h = record { numbers = []; history = cc; told = refl }
from_told D t past (e ∷ es) h =
    told_turn (takes t past e) t past e _ _ _ _ (from_told D t past es)
    (from_told D (operate removal D t past e) (number removal (lead removal t e) ∷ past) es) h

module _ (s : State) (t past : List ℕ) {z : State} {u new : List ℕ} (e : sweep s t past ≡ gives z u new) where
  pub sweep_raises : Raises s past (swept s.darts t past) z u new
  unfolding sweep
  sweep_raises = raises (swept s.darts t past) e

  pub sweep_told : Told past (each removal (loops s t past)) new
  unfolding swept
  sweep_told = from_told s.darts t past (rising 0 (s.darts / 2)) sweep_raises.stood

-- ---- of one that stands: each edge that is taken may be removed

module _ {D : ℕ} where
  -- by the test's answer at the turn of e
  run_turn : {t past : List ℕ} → Standing D t past → (e i : ℕ) → e < D / 2 → (over on : Run) (es fs : List ℕ)
      → over ≡ pass_from always D t past i (each removal es)
      → (Standing D (operate removal D t past e) (number removal (lead removal t e) ∷ past)
      → on ≡ pass_from always D (operate removal D t past e) (number removal (lead removal t e) ∷ past) (suc i) (each removal fs))
      → Dec (T (takes t past e))
      → (if takes t past e then on else over) ≡ pass_from always D t past i (each removal (if takes t past e then e ∷ fs else es))
  unfolding pass_from
  run_turn {t} {past} S e i below over on es fs l h (yes k) =
      let fine = takes_fine S e below k in
      rw (T→true (takes t past e) k, fine) (h (operate_stands S removal e fine))
  run_turn {t} {past} S e i below over on es fs l h (no k) = rw (not_T→false (takes t past e) k) l

  from_run : (n e i : ℕ) {t past : List ℕ} → Standing D t past → e + n ≤ D / 2
      → swept_from D t past (rising e n) ≡ pass_from always D t past i (each removal (taken takes removal D t past (rising e n)))
  unfolding swept_from pass_from taken rising
  from_run zero e i S b = refl
  from_run (suc n) e i {t} {past} S b =
      run_turn S e i (omega arith) _ _ _ _ (from_run n (suc e) i S (omega arith)) (λ A. from_run n (suc e) (suc i) A (omega arith)) (T? (takes t past e))

  pub swept_run : {t past : List ℕ} → Standing D t past → swept D t past ≡ run removal D t past (taken takes removal D t past (rising 0 (D / 2)))
  unfolding swept run pass
  swept_run S = from_run (D / 2) 0 0 S (omega arith)

-- "The sweep is a removal kernel"
pub sweep_reduces : (s : State) (t past : List ℕ) → Standing s.darts t past → sweep s t past ≡ reduce removal (loops s t past) s t past
unfolding sweep reduce
sweep_reduces s t past S = ap (λ r. if leb 64 s.levels then refuses too_many_levels else levelled s past r) (swept_run S)
