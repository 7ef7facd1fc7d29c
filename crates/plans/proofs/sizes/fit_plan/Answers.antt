-- `plans::sizes::fit_plan` meets its contract: the size, then the lengths of what is lent, then the plan's.
use mathlib.Core.Path.{sym, ap, ◌∙◌}
use native.Mathlib.Nat.{mul-le-mul}
use borrow.Author.Rules.{rules}
use Rattle.std.proofs.lemmas.Result.{err_from_is_err_and}
use Rattle.permutations.specs.Choice.{true→T}
use Rattle.darts.specs.Answers.{Answer}
use Rattle.darts.proofs.Cases.{refused_number}
use Rattle.plans.proofs.Fits.{fit_size, fit_short, fit_plan_short, fit_done}
use Rattle.plans.proofs.Limits.{sized_facts}
use Rattle.plans.proofs.sizes.fit_plan.Goals as goal

pub returns-then-not-size : goal.returns-then-not-size
returns-then-not-size c =
    fit_size _ _ _ _ _ (sym c.if-not-size.true ∙ c.size.ensures)

pub darts_of-requires : goal.darts_of-requires
darts_of-requires c = sized_facts _ _ (true→T (sym c.size.ensures ∙ c.if-not-size.false))

pub returns-in_err-fit : goal.returns-in_err-fit
returns-in_err-fit c =
    let f = rw c.darts_of.ensures at c.in_err-fit.ensures in
    let (r, is, same) = err_from_is_err_and c.from_residual.result c.from_residual.ensures.1 in
    rw (is, same) (f ∙ fit_short _ _ _ _ _ (sym c.if-not-size.false ∙ c.size.ensures)
    (λ n. refused_number _ (ap (λ (a : Answer). a.number) f ∙ n)))

pub overflow_mul-wales : goal.overflow_mul-wales
overflow_mul-wales c = let f = (let s = sized_facts _ _ (true→T (sym c.size.ensures ∙ c.if-not-size.false)) in mul-le-mul s.narrow s.low) in search rules

pub returns-then-plan-wales : goal.returns-then-plan-wales
returns-then-plan-wales c =
    let f = rw c.darts_of.ensures at c.in_ok-fit.ensures in
    let s = sym c.if-not-size.false ∙ c.size.ensures in
    fit_plan_short _ _ _ _ _ s (sym (ap (λ (a : Answer). a.number) f)) c.if-plan-wales.true

pub returns : goal.returns
returns c =
    let f = rw c.darts_of.ensures at c.in_ok-fit.ensures in
    let s = sym c.if-not-size.false ∙ c.size.ensures in
    f ∙ fit_done _ _ _ _ _ s (sym (ap (λ (a : Answer). a.number) f)) c.if-plan-wales.false
