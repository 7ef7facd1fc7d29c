-- `operations::back::place` meets its contract: that the tests pass says that the darts before x and y are darts.
use Prim.Native.Nat.{◌<◌}
use Rattle.darts.specs.Kinds.{kind_is}
use Rattle.laws.proofs.bridge.AnyKind.{near_far}
use Rattle.operations.proofs.Fitting.{fitting_near, fitting_far}
use Rattle.operations.proofs.back.place.Goals as goal

pub insert-requires-clause-a_lt_d : goal.insert-requires-clause-a_lt_d
insert-requires-clause-a_lt_d c =
    let g = c.args in
    let l = c.requires.edge_inside in (
      rw c.at-b.ensures (fitting_far g.d g.work.now g.edge.p g.edge.q g.x g.y c.requires.y_value),
      rw c.near-e.ensures (near_far (λ z. z < g.d) (kind_is g.kind) l.p l.q).0,
    )

pub insert-requires-else-x-edge-clause-a_lt_d : goal.insert-requires-else-x-edge-clause-a_lt_d
insert-requires-else-x-edge-clause-a_lt_d c =
    let g = c.args in
    let fit = c.requires.y_value in (
      rw c.at-a.ensures (fitting_near g.d g.work.now g.edge.p g.edge.q g.x g.y fit c.if-x-edge.false),
      rw c.at-b.ensures (fitting_far g.d g.work.now g.edge.p g.edge.q g.x g.y fit),
    )
