-- `lookup::walking::walk` meets its contract: from each dart on the walk goes to where it goes from the start, and the dart where all steps are done
-- is not gone.
use Prim.Native.Nat.{◌-◌}
use Rattle.lookup.proofs.Walks.{Walking}
use Rattle.lookup.proofs.walking.walk.Given as goal

abbrev pub invariant-loop-passed : goal.invariant-loop-passed
invariant-loop-passed l = Walking l.d l.k l.table l.ends l.x l.y l.passed

abbrev pub decreases-loop-passed : goal.decreases-loop-passed
decreases-loop-passed l = l.d - l.passed
