-- `operations::back::take_back_edge` meets its contract: x is the near one and y the far one of r and s, so that both are darts.
use mathlib.Core.Path.{◌≡◌}
use Prim.Native.Nat.{ℕ, ◌<◌}
use Rattle.darts.specs.Operation.{Kind}
use Rattle.darts.specs.Kinds.{kind_is}
use Rattle.darts.specs.Tests.{near, far}
use Rattle.laws.proofs.bridge.AnyKind.{near_far}
use Rattle.operations.specs.Back.{Inside}
use Rattle.operations.specs.declared.back.Edge.{Edge}
use Rattle.operations.proofs.back.take_back_edge.Goals as goal

below : {D : ℕ} (k : Kind) {e : Edge} {x y : ℕ} → Inside D e → x ≡ near k e.r e.s → y ≡ far k e.r e.s → (x < D) × (y < D)
below {D} k inside x_is y_is = let xy = near_far (λ z. z < D) k inside.r inside.s in (rw x_is xy.0, rw y_is xy.1)

pub fit-requires-clause-x_lt_d : goal.fit-requires-clause-x_lt_d
fit-requires-clause-x_lt_d c = below (kind_is c.args.kind) c.requires.edge_inside c.near-x.ensures c.near-y.ensures

pub place-requires-clause-x_lt_d : goal.place-requires-clause-x_lt_d
place-requires-clause-x_lt_d c = below (kind_is c.args.kind) c.requires.edge_inside c.near-x.ensures c.near-y.ensures
