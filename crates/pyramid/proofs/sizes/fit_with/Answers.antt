-- `pyramid::sizes::fit_with` meets its contract: what the plain call says, and then the sheets.
use mathlib.Core.Logic.{inl, inr}
use mathlib.Core.Path.{refl}
use Rattle.std.proofs.lemmas.Result.{err_from_is_err_and}
use Rattle.darts.proofs.Cases.{refused_number}
use Rattle.pyramid.proofs.Sized.{fit_plain, fit_short, fit_done}
use Rattle.pyramid.proofs.sizes.fit_with.Goals as goal
use Rattle.pyramid.proofs.sizes.fit_with.Goals.{then-sheet-d-via-then-sheet-d, then-sheet-d-via-else-sheet-d+then-kept-d}

pub returns-in_err-fit : goal.returns-in_err-fit
returns-in_err-fit c =
    let p = err_from_is_err_and c.from_residual.result c.from_residual.ensures.1 in
    rw (p.1, p.2) (fit_plain _ _ _ _ _ _ _ c.in_err-fit.ensures (refused_number _))

pub returns-then-sheet-d : goal.returns-then-sheet-d
returns-then-sheet-d c =
    fit_short _ _ _ _ _ _ _ c.in_ok-fit.ensures refl
    (elim c.then-sheet-d.branch [
      | then-sheet-d-via-then-sheet-d w ↦ inl w.if-sheet-d.true
      | then-sheet-d-via-else-sheet-d+then-kept-d w ↦ inr w.if-kept-d.true
    ])

pub returns : goal.returns
returns c = fit_done _ _ _ _ _ _ _ c.in_ok-fit.ensures refl c.if-sheet-d.false c.if-kept-d.false
