-- A work area that holds a map, once the cycles of a kind are labelled: one tree for each vertex or for each face.
--   labelled_ready  == it judges operations of that kind
--   labelled_beyond == what stands beyond the four parts is kept
use mathlib.Core.List.{List}
use Prim.Native.Nat.{ℕ, ◌*◌, ◌≤◌}
use native.Mathlib.Omega.{arith}
use Rattle.slices.proofs.Over.{drop_more}
use Rattle.operations.specs.Cycles.{Labelled}
use Rattle.operations.proofs.Labels.{labelled_falls, labelled_same}
use Rattle.engine.specs.Held.{Area, Ready, Beyond}
use Rattle.engine.proofs.Around.{step_perm}
use Rattle.engine.proofs.Beside.{beside_area, beside_rooted}
use Rattle.engine.proofs.ByRoots.{rooted_start}

module _ {D n k : ℕ} {w v : List ℕ} (A : Area D n w) (few : k ≤ 1) (L : Labelled D k w v) where
  pub labelled_ready : Ready D n k v
  labelled_ready =
      let p = step_perm A k few in
      let o = L.outside in
      record {
        kind = few;
        area = beside_area o A;
        falls = labelled_falls p L;
        roots = beside_rooted o n k (rooted_start A k few (labelled_same p L));
      }

  pub labelled_beyond : Beyond D w v
  labelled_beyond = let o = L.outside in record { size = o.size; rest = drop_more (3 * D) (4 * D) v w (omega arith) o.rest }
