-- `reader::reading::read_file` meets its contract: the ways that a read ends.
use mathlib.Core.List.{List}
use mathlib.Core.Path.{◌≡◌, sym, ap, ◌∙◌}
use Prim.Native.Nat.{ℕ}
use native.Mathlib.Omega.{arith}
use lib.ListN.{length}
use Rattle.darts.proofs.Cases.{refused_number}
use Rattle.darts.proofs.Fitting.{Fits, fits}
use Rattle.darts.specs.Answers.{Answer as Answered}
use Rattle.std.proofs.lemmas.Result.{err_from_is_err_and}
use Rattle.area.specs.Area.{Room}
use Rattle.laws.proofs.calls.Cleared.{cleared_kept}
use Rattle.engine.proofs.Area.{room_kept}
use Rattle.reader.proofs.ReadEnds.{darts_small, read_unopened, read_unfit, read_on}
use Rattle.reader.proofs.reading.read_file.Goals as goal

number : {a b : Answered} → a ≡ b → b.number ≡ a.number
number e = sym (ap (λ (z : Answered). z.number) e)

fits_room : {D t h : ℕ} (w : List ℕ) → Fits D t h (length w) → Room D w
fits_room w k = let q = k.count in record { even = q.even; some = omega arith; small = q.small; fits = k.lengths.work }

pub returns-in_err-first : goal.returns-in_err-first
returns-in_err-first c =
    let g = c.args in
    let p = err_from_is_err_and c.from_residual.result c.from_residual.ensures.1 in
    rw (p.1, p.2) (read_unopened g.bytes.now g.table.now g.history.now g.work.now (sym c.in_err-first.ensures))

pub overflow_cast-d : goal.overflow_cast-d
overflow_cast-d c = let small = darts_small c.args.bytes.now (sym c.in_ok-first.ensures) in omega arith

pub returns-in_err-fit : goal.returns-in_err-fit
returns-in_err-fit c =
    let g = c.args in
    let r = c.from_residual-in_err-fit in
    let p = err_from_is_err_and r.result r.ensures.1 in
    let f = c.in_err-fit.ensures in
    rw (p.1, p.2, f)
    (read_unfit g.bytes.now g.table.now g.history.now g.work.now (sym c.in_ok-first.ensures)
    (λ z. refused_number c.in_err-fit.field-0.0 (sym (number f) ∙ z)))

pub read_inside-state-requires : goal.read_inside-state-requires
read_inside-state-requires c =
    let k = fits _ _ _ _ (number c.in_ok-fit.ensures) in
    record { room = fits_room _ k; d_in_bounds = (k.lengths.table, k.lengths.history) }

pub clear-requires : goal.clear-requires
clear-requires c =
    let k = fits _ _ _ _ (number c.in_ok-fit.ensures) in
    room_kept c.args.work.now _ c.read_inside-state.ensures.beyond.size (fits_room _ k)

pub returns : goal.returns
returns c =
    let g = c.args in
    let r = c.read_inside-state.ensures in
    rw (c.clear.ensures ∙ cleared_kept _ g.work.now _ r.beyond.rest)
    (r.work_after ∙ read_on g.bytes.now g.table.now g.history.now g.work.now (sym c.in_ok-first.ensures) (number c.in_ok-fit.ensures))
