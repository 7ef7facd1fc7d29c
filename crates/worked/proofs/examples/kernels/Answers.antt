-- `worked::examples::kernels`: K1, K3, K5 and K11, as computed.
use mathlib.Core.List.{[], ◌∷◌}
use mathlib.Core.Path.{ap, ◌∙◌}
use Rattle.darts.specs.Operation.{contraction, removal}
use Rattle.worked.specs.Chain.{reduced}
use Rattle.worked.proofs.Computed.{computed, from}
use Rattle.worked.proofs.examples.kernels.Goals as goal

pub expect-requires : goal.expect-requires
expect-requires c = from c.start-t.ensures computed.0

pub expect-requires-2 : goal.expect-requires-2
expect-requires-2 c = from (c.reduce.ensures ∙ ap (reduced contraction (3 ∷ [])) c.start-t.ensures) computed.1

pub expect-requires-3 : goal.expect-requires-3
expect-requires-3 c = from (c.reduce-2.ensures ∙ ap (reduced contraction (0 ∷ 1 ∷ [])) c.start-t.ensures) computed.2

pub expect-requires-4 : goal.expect-requires-4
expect-requires-4 c = from (c.reduce-3.ensures ∙ ap (reduced removal (0 ∷ 0 ∷ [])) c.start-t.ensures) computed.3
