-- `plans::sizes::base_of` meets its contract: the numbers of the base's cycles are known from the plan's size.
use mathlib.Core.Path.{◌∙◌}
use borrow.Author.Rules.{rules}
use Rattle.plans.proofs.Limits.{sized_facts}
use Rattle.plans.proofs.Numbers.{cells_most, squares_few, base_numbers}
use Rattle.plans.proofs.sizes.base_of.Goals as goal

pub darts_of-requires : goal.darts_of-requires
darts_of-requires c = sized_facts _ _ c.requires

pub overflow_mul-vertices : goal.overflow_mul-vertices
overflow_mul-vertices c = let most = cells_most (sized_facts _ _ c.requires) in search rules

pub overflow_sub-faces : goal.overflow_sub-faces
overflow_sub-faces c = let some = (sized_facts _ _ c.requires).wales in search rules

pub overflow_sub-faces-2 : goal.overflow_sub-faces-2
overflow_sub-faces-2 c = let some = (sized_facts _ _ c.requires).courses in search rules

pub overflow_mul-faces : goal.overflow_mul-faces
overflow_mul-faces c = let few = squares_few (sized_facts _ _ c.requires) in search rules

pub overflow_add-faces : goal.overflow_add-faces
overflow_add-faces c = let few = squares_few (sized_facts _ _ c.requires) in search rules

pub returns : goal.returns
returns c = c.base.ensures ∙ rw c.darts_of.ensures (base_numbers _ _ c.requires)
