-- `worked::lookups::lookups`: K12's lookups, as computed.
use Rattle.worked.proofs.Found.{computed}
use Rattle.worked.proofs.lookups.lookups.Goals as goal

pub lookup-requires : goal.lookup-requires
lookup-requires c = computed.0

pub lookup-requires-2 : goal.lookup-requires-2
lookup-requires-2 c = computed.1

pub lookup-requires-3 : goal.lookup-requires-3
lookup-requires-3 c = computed.2

pub lookup-requires-4 : goal.lookup-requires-4
lookup-requires-4 c = computed.3

pub lookup-requires-5 : goal.lookup-requires-5
lookup-requires-5 c = computed.4

pub lookup-requires-6 : goal.lookup-requires-6
lookup-requires-6 c = computed.5

pub lookup-requires-7 : goal.lookup-requires-7
lookup-requires-7 c = computed.6

pub lookup-requires-8 : goal.lookup-requires-8
lookup-requires-8 c = computed.7
