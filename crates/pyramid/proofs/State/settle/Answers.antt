-- `pyramid::State::settle` meets its contract: operations were done, or undone.
use mathlib.Core.Path.{refl, ◌∙◌}
use native.Mathlib.Omega.{arith}
use Rattle.pyramid.proofs.Settles.{done_most, settle_up, settle_down}
use Rattle.pyramid.proofs.State.settle.Goals as goal

pub overflow_sub-r-then-n-m : goal.overflow_sub-r-then-n-m
overflow_sub-r-then-n-m c = done_most _ _ _ c.requires.after c.contractions-c.ensures

pub returns-then-n-m : goal.returns-then-n-m
returns-then-n-m c = record { answer = refl; state = c.storing.ensures ∙ settle_up _ _ _ c.if-n-m.true c.contractions-c.ensures }

pub overflow_sub-r-3 : goal.overflow_sub-r-3
overflow_sub-r-3 c = done_most _ _ _ c.requires.before c.contractions-c-2.ensures

pub overflow_cast-v-2 : goal.overflow_cast-v-2
overflow_cast-v-2 c = let k = done_most _ _ _ c.requires.before c.contractions-c-2.ensures in omega (arith, c.requires.few)

pub overflow_add-v : goal.overflow_add-v
overflow_add-v c = let k = done_most _ _ _ c.requires.before c.contractions-c-2.ensures in omega (arith, c.requires.few, c.requires.few_vertices)

pub returns : goal.returns
returns c =
    let l = c.if-n-m.false in
    record { answer = refl; state = c.storing-2.ensures ∙ settle_down _ _ _ (omega arith) c.contractions-c-2.ensures }
