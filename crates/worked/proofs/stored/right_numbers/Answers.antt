-- `worked::stored::right_numbers`: the numbers given back and kept, as computed.
use mathlib.Core.Path.{ap, ◌∙◌}
use Rattle.worked.specs.Chain.{swept, unfolded, stored}
use Rattle.worked.proofs.Computed.{computed, from, zones_left}
use Rattle.worked.proofs.stored.right_numbers.Goals as goal

pub expect-requires : goal.expect-requires
expect-requires c =
    from (c.«unfold».ensures
    ∙ ap (unfolded 0) (c.sweep.ensures ∙ ap swept (zones_left c.reduce-zones.ensures c.start.ensures))) computed.16

pub expect-requires-2 : goal.expect-requires-2
expect-requires-2 c =
    from (c.sweep-2.ensures
    ∙ ap swept (c.store.ensures ∙ ap (stored 2 2) (zones_left c.reduce-zones.ensures c.start.ensures))) computed.17
