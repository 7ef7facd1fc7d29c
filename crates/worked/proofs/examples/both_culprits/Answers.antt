-- `worked::examples::both_culprits`: both faults in one table, as computed.
use Rattle.worked.proofs.Computed.{computed, from}
use Rattle.worked.proofs.examples.both_culprits.Goals as goal

pub expect-requires : goal.expect-requires
expect-requires c = from c.start.ensures computed.14

pub expect-requires-2 : goal.expect-requires-2
expect-requires-2 c = from c.start-2.ensures computed.15
