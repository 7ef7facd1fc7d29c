-- `operations::cycles::label_cycle` meets its contract: the walk from i marks a dart at each step, and each step leaves one fewer back to i.
use Rattle.operations.proofs.Marking.{marking_begins, marking_falls, marking_goes_on, marking_ends}
use Rattle.operations.proofs.cycles.label_cycle.Goals as goal

pub loop-x-init : goal.loop-x-init
loop-x-init c = rw c.around-x.ensures (marking_begins c.requires.room c.requires.perm c.requires.i_lt_d.0 c.requires.i_lt_d.1 c.requires.i_lt_d.2)

pub loop-x-smaller : goal.loop-x-smaller
loop-x-smaller c = marking_falls c.requires.room c.requires.perm c.loop-x.invariant c.around-x-in-loop-x.ensures c.loop-x-test.true

pub loop-x-preserved : goal.loop-x-preserved
loop-x-preserved c = marking_goes_on c.requires.room c.requires.perm c.loop-x.invariant c.around-x-in-loop-x.ensures

pub returns : goal.returns
returns c = marking_ends c.requires.room c.requires.perm c.loop-x.invariant c.loop-x-test.false
