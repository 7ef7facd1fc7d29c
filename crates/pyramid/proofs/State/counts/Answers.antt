-- `pyramid::State::counts` meets its contract: refused, or the numbers that the state stores.
use mathlib.Core.Path.{refl}
use native.Mathlib.Omega.{arith}
use Rattle.std.proofs.lemmas.Result.{err_from_is_err_and}
use Rattle.darts.proofs.Cases.{refused_number}
use Rattle.laws.proofs.calls.Numbers.{pyramid_most}
use Rattle.pyramid.proofs.CountsEnd.{counts_refused_lem, counts_given_lem}
use Rattle.pyramid.proofs.Judges.{lent_of}
use Rattle.pyramid.proofs.State.counts.Goals as goal

pub returns-in_err-judged : goal.returns-in_err-judged
returns-in_err-judged c =
    let p = err_from_is_err_and c.from_residual.result c.from_residual.ensures.1 in
    rw (p.1, p.2) (counts_refused_lem c.in_err-judged.ensures (refused_number _))

pub clear-requires : goal.clear-requires
clear-requires c = ((c.in_ok-judged.ensures.checked refl).area refl).room

pub overflow_sub-darts : goal.overflow_sub-darts
overflow_sub-darts c =
    let A = (c.in_ok-judged.ensures.checked refl).area refl in
    let k = A.few in
    let m = A.room.small in
    omega arith

pub tallied-requires : goal.tallied-requires
tallied-requires c =
    let J = c.in_ok-judged.ensures in
    let m = ((J.checked refl).area refl).room.small in
    let M = pyramid_most (lent_of J refl).pyramid in
    let x = M.vertices in
    let y = M.faces in
    (omega arith, omega arith, omega arith)

pub returns : goal.returns
returns c = rw (c.tallied.ensures, c.clear.ensures) (counts_given_lem c.in_ok-judged.ensures refl)
