-- `noting::replay::contract` meets its contract: both finds keep the roots, so that the lower and the higher one are those that are joined.
use Prim.Native.Nat.{◌+◌, ◌*◌}
use native.Mathlib.Omega.{arith}
use Rattle.operations.proofs.Lent.{found_kept, found_roots, roots_known}
use Rattle.operations.proofs.Outside.{outside_room}
use Rattle.noting.proofs.Stepping.{both_below, joined_room, contracted_yes, contracted_no}
use Rattle.noting.proofs.replay.contract.Goals as goal

pub link-requires : goal.link-requires
link-requires c =
    let κ = found_kept c.find-a.ensures c.find-b.ensures in
    let room = outside_room κ.outside c.requires.room in
    let known = roots_known room κ.falls (2 * c.args.e) (2 * c.args.e + 1) (omega arith) (omega arith) (found_roots c.find-a.ensures c.find-b.ensures) in
    record {
      room = room;
      falls = κ.falls;
      u_lt_d = known.0;
      u_value = known.1;
    }

pub returns-then-not-link : goal.returns-then-not-link
returns-then-not-link c = contracted_no c.args.e c.find-a.ensures c.find-b.ensures c.link.ensures c.if-not-link.true

pub merge-requires : goal.merge-requires
merge-requires c =
    let e = c.args.e in
    let below = both_below e c.find-a.ensures c.find-b.ensures c.link.ensures c.requires.room c.requires.falls in
    record {
      room = joined_room e c.find-a.ensures c.find-b.ensures c.link.ensures c.requires.room c.requires.falls;
      t_bound = (c.requires.t_bound.0, omega (arith, c.min.ensures, below.0, below.1), omega (arith, c.max.ensures, below.0, below.1));
    }

pub returns : goal.returns
returns c =
    contracted_yes c.args.e c.find-a.ensures c.find-b.ensures c.link.ensures c.if-not-link.false c.min.ensures c.max.ensures c.merge.ensures
