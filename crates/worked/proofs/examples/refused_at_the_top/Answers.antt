-- `worked::examples::refused_at_the_top`: K8, as computed.
use mathlib.Core.List.{[], ◌∷◌}
use mathlib.Core.Path.{ap, ◌∙◌}
use Rattle.darts.specs.Operation.{contraction, removal}
use Rattle.worked.specs.Chain.{reduced, swept}
use Rattle.worked.proofs.Computed.{computed, from, zones_left}
use Rattle.worked.proofs.examples.refused_at_the_top.Goals as goal

pub expect-requires : goal.expect-requires
expect-requires c =
    from (c.reduce-2.ensures
    ∙ ap (reduced contraction (3 ∷ [])) (c.sweep-swept.ensures ∙ ap swept (zones_left c.reduce.ensures c.start.ensures))) computed.8

pub expect-requires-2 : goal.expect-requires-2
expect-requires-2 c =
    from (c.reduce-3.ensures
    ∙ ap (reduced removal (3 ∷ [])) (c.sweep-swept.ensures ∙ ap swept (zones_left c.reduce.ensures c.start.ensures))) computed.9
