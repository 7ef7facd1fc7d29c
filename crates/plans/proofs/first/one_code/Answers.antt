-- `plans::first::one_code` meets its contract: the cells at an edge's two ends, by arithmetic.
use native.Mathlib.Omega.{arith}
use borrow.Author.Rules.{rules}
use Rattle.plans.proofs.Ends.{along_ends, upright_ends, same_codes}
use Rattle.plans.proofs.first.one_code.Goals as goal

pub bounds-plan-k : goal.bounds-plan-k
bounds-plan-k c = let E = (along_ends c.requires.sized c.requires.e_bound c.if-e-a.true) in omega (arith, c.requires.c_in_bounds)

pub bounds-plan-k-then-e-a : goal.bounds-plan-k-then-e-a
bounds-plan-k-then-e-a c = let E = (along_ends c.requires.sized c.requires.e_bound c.if-e-a.true) in omega (arith, c.requires.c_in_bounds)

pub returns-then-e-a : goal.returns-then-e-a
returns-then-e-a c = same_codes _ (along_ends c.requires.sized c.requires.e_bound c.if-e-a.true)

pub bounds-plan-k-2 : goal.bounds-plan-k-2
bounds-plan-k-2 c = let E = (upright_ends c.requires.sized c.requires.e_bound c.if-e-a.false) in omega (arith, c.requires.c_in_bounds)

pub overflow_add-result-2 : goal.overflow_add-result-2
overflow_add-result-2 c = let E = (upright_ends c.requires.sized c.requires.e_bound c.if-e-a.false) in search rules

pub bounds-plan-k-3 : goal.bounds-plan-k-3
bounds-plan-k-3 c = let E = (upright_ends c.requires.sized c.requires.e_bound c.if-e-a.false) in omega (arith, c.requires.c_in_bounds)

pub returns : goal.returns
returns c = same_codes _ (upright_ends c.requires.sized c.requires.e_bound c.if-e-a.false)
