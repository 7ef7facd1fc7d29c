-- `worked::examples::two_darts`: K10, and beside it a successor out of range, as computed.
use mathlib.Core.List.{[], ◌∷◌}
use mathlib.Core.Path.{ap, ◌∙◌}
use Rattle.darts.specs.Operation.{removal}
use Rattle.worked.specs.Chain.{reduced}
use Rattle.worked.proofs.Computed.{computed, from}
use Rattle.worked.proofs.examples.two_darts.Goals as goal

pub expect-requires : goal.expect-requires
expect-requires c = from c.start.ensures computed.10

pub expect-requires-2 : goal.expect-requires-2
expect-requires-2 c = from c.start-2.ensures computed.11

pub expect-requires-3 : goal.expect-requires-3
expect-requires-3 c = from c.start-alone.ensures computed.12

pub expect-requires-4 : goal.expect-requires-4
expect-requires-4 c = from (c.reduce.ensures ∙ ap (reduced removal (0 ∷ [])) c.start-alone.ensures) computed.13
