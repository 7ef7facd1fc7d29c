-- `worked::examples::sweep_and_undo`: K7, and back, as computed.
use mathlib.Core.List.{[], ◌∷◌}
use mathlib.Core.Path.{ap, ◌∙◌}
use Rattle.darts.specs.Operation.{contraction, removal}
use Rattle.worked.specs.Chain.{reduced, swept, undone}
use Rattle.worked.proofs.Computed.{computed, from, zones_left}
use Rattle.worked.proofs.examples.sweep_and_undo.Goals as goal

pub expect-requires : goal.expect-requires
expect-requires c =
    from (c.reduce.ensures
    ∙ ap (reduced contraction (2 ∷ [])) (zones_left c.reduce-zones.ensures c.start.ensures)) computed.4

pub expect-requires-2 : goal.expect-requires-2
expect-requires-2 c =
    from (c.reduce-2.ensures
    ∙ ap (reduced removal (2 ∷ [])) (zones_left c.reduce-zones.ensures c.start.ensures)) computed.5

pub expect-requires-3 : goal.expect-requires-3
expect-requires-3 c =
    from (c.sweep-swept.ensures
    ∙ ap swept (zones_left c.reduce-zones.ensures c.start.ensures)) computed.6

pub expect-requires-4 : goal.expect-requires-4
expect-requires-4 c =
    from (c.undo.ensures
    ∙ ap undone (c.sweep-swept.ensures ∙ ap swept (zones_left c.reduce-zones.ensures c.start.ensures))) computed.7
