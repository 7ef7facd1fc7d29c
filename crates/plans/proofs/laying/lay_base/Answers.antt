-- `plans::laying::lay_base` meets its contract: what is laid second begins where the first ends.
use mathlib.Core.Path.{◌∙◌}
use Rattle.plans.proofs.Base.{lent, along_laid, along_size, base_laid}
use Rattle.plans.proofs.laying.lay_base.Goals as goal

pub lay_along-requires : goal.lay_along-requires
lay_along-requires c = lent c.requires.sized c.requires.c_in_bounds

pub lay_upright-requires : goal.lay_upright-requires
lay_upright-requires c =
    let p = lent c.requires.sized c.requires.c_in_bounds in
    rw c.lay_along.ensures
    (record { lent = lent c.requires.sized (rw (along_size c.args.to.now p) c.requires.c_in_bounds); to_value = along_laid c.args.to.now p })

pub returns : goal.returns
returns c =
    c.lay_upright.ensures
    ∙ rw c.lay_along.ensures (base_laid c.args.to.now (lent c.requires.sized c.requires.c_in_bounds))
