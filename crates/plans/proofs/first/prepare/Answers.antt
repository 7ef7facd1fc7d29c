-- `plans::first::prepare` meets its contract: the base is laid, bound and labelled.
use native.Mathlib.Omega.{arith}
use Rattle.grids.specs.Grid.{flat}
use Rattle.engine.proofs.Around.{step_perm}
use Rattle.plans.proofs.Preparing.{laid_room, laid_stands, based, prepared}
use Rattle.plans.proofs.first.prepare.Goals as goal

pub bind_base-requires : goal.bind_base-requires
bind_base-requires c =
    let g = flat c.args.w c.args.c in
    rw c.lay_base.ensures
    (record { room = laid_room g c.requires.d_value c.args.work.now c.requires.room; standing = laid_stands g c.requires.d_value c.args.work.now c.requires.room })

pub label-requires : goal.label-requires
label-requires c =
    let b = based (flat c.args.w c.args.c) c.requires.d_value c.args.work.now c.requires.room
    (rw c.lay_base.ensures at c.bind_base.ensures) in
    record { room = b.area.room; perm = step_perm b.area _ (omega arith) }

pub returns : goal.returns
returns c =
    prepared
    (based (flat c.args.w c.args.c) c.requires.d_value c.args.work.now c.requires.room
    (rw c.lay_base.ensures at c.bind_base.ensures))
    c.label.ensures.labelled
