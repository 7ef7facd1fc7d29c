-- `reader::reading::settle` meets its contract: a body that was read is no pyramid, or it is accepted.
use mathlib.Core.Path.{refl}
use native.Mathlib.Omega.{arith}
use Rattle.engine.proofs.Area.{room_kept}
use Rattle.reader.proofs.Settles.{settle_few, settle_none, settle_all}
use Rattle.reader.proofs.reading.settle.Goals as goal

pub returns-in_default : goal.returns-in_default
returns-in_default c =
    let k = c.in_default.ensures.checked_laid in
    record { whole = λ z H v. settle_none H c.args.table.now c.args.history.now v k refl; beyond = k.beyond }

pub accept-requires : goal.accept-requires
accept-requires c =
    let k = c.in-Some.ensures.checked_laid in
    let few = settle_few c.requires.room k refl in
    record { room = room_kept _ _ k.beyond.size c.requires.room; n_le_d = (omega arith, omega arith, omega arith) }

pub stated-pyramid-requires : goal.stated-pyramid-requires
stated-pyramid-requires c =
    let few = settle_few c.requires.room c.in-Some.ensures.checked_laid refl in
    let small = c.requires.room.small in
    let n = c.in-Some.ensures.finds_cycles in
    (omega arith, omega arith, omega arith, omega (arith, n.few_vertices), omega (arith, n.few_faces))

pub returns : goal.returns
returns c =
    let k = c.in-Some.ensures in
    record {
      whole = λ z H v.
          settle_all H c.args.table.now c.args.history.now v k.checked_laid c.requires.room refl c.accept.ensures c.stated-pyramid.ensures k.finds_cycles;
      beyond = k.checked_laid.beyond;
    }
