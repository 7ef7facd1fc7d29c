-- A work area that holds a map, once the cycles of a kind are labelled.
--   labelled_passed == what operations do from there they do from the map that was held before
use mathlib.Core.List.{List}
use Prim.Native.Nat.{ℕ, ◌≤◌}
use Rattle.std.proofs.Common.{Result}
use Rattle.darts.specs.Operation.{Kind}
use Rattle.darts.specs.Kernel.{run}
use Rattle.darts.specs.declared.Refusal.{Refusal}
use Rattle.area.specs.Area.{table_in, past_in}
use Rattle.operations.specs.Cycles.{Labelled}
use Rattle.engine.specs.Held.{Area}
use Rattle.engine.proofs.Beside.{beside_table, beside_past}
use Rattle.engine.proofs.Labelled.{labelled_beyond}
use Rattle.engine.proofs.Ready.{beyond_trans}
use Rattle.lookup.specs.Told.{Passed}

module _ {D n k : ℕ} {w v : List ℕ} (A : Area D n w) (few : k ≤ 1) (L : Labelled D k w v) where
  pub labelled_passed : (κ : Kind) (es : List ℕ) {u : List ℕ} (r : Result ℕ Refusal) → Passed D (run κ D (table_in D v) (past_in D n v) es) v u r
      → Passed D (run κ D (table_in D w) (past_in D n w) es) w u r
  labelled_passed κ es r P =
      let o = L.outside in
      let R = P.ran in
      record {
        ran = record { went = rw (← (beside_table o), ← (beside_past o n)) R.went; few = R.few; beyond = beyond_trans (labelled_beyond A few L) R.beyond };
        area = P.area;
      }
