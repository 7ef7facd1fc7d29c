-- `worked::stored::wrong_numbers`: 4 where a number is wrong, as computed.
use mathlib.Core.List.{[], ◌∷◌}
use mathlib.Core.Path.{ap, ◌∙◌}
use Rattle.darts.specs.Operation.{contraction}
use Rattle.worked.specs.Chain.{reduced, swept, undone, unfolded, stored}
use Rattle.worked.proofs.Computed.{computed, from, zones_left}
use Rattle.worked.proofs.stored.wrong_numbers.Goals as goal

pub expect-requires : goal.expect-requires
expect-requires c =
    from (c.reduce.ensures
    ∙ ap (reduced contraction (3 ∷ [])) (c.store-vertex_more.ensures ∙ ap (stored _ _) c.start.ensures)) computed.18

pub expect-requires-2 : goal.expect-requires-2
expect-requires-2 c =
    from (c.sweep.ensures
    ∙ ap swept (c.store-vertex_more.ensures ∙ ap (stored _ _) c.start.ensures)) computed.19

pub expect-requires-3 : goal.expect-requires-3
expect-requires-3 c =
    from (c.undo.ensures
    ∙ ap undone (c.store-vertex_for_face.ensures ∙ ap (stored _ _) (zones_left c.reduce-2.ensures c.start-2.ensures))) computed.20

pub expect-requires-4 : goal.expect-requires-4
expect-requires-4 c =
    from (c.«unfold».ensures
    ∙ ap (unfolded 0) (c.store-vertex_for_face.ensures ∙ ap (stored _ _) (zones_left c.reduce-2.ensures c.start-2.ensures))) computed.21
