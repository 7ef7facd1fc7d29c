-- `lookup::walking::walk` meets its contract: from each dart on the walk goes to where it goes from the start, and the dart where all steps are done
-- is not gone.
use mathlib.Core.Path.{sym, ◌∙◌}
use native.Mathlib.Omega.{arith}
use Rattle.lookup.proofs.Walks.{walking_begins, walking_more, walking_on, walking_ends, walked_few}
use Rattle.lookup.proofs.walking.walk.Goals as goal

pub loop-passed-init : goal.loop-passed-init
loop-passed-init c = let p = c.requires in walking_begins p.walks p.table_len.4 c.at-y.ensures

pub loop-passed-smaller : goal.loop-passed-smaller
loop-passed-smaller c =
    let p = c.requires in
    omega (arith, walking_more c.loop-passed.invariant p.walks (sym c.gone_by.ensures ∙ c.loop-passed-test.true))

pub loop-passed-preserved : goal.loop-passed-preserved
loop-passed-preserved c =
    let p = c.requires in
    walking_on c.loop-passed.invariant p.table_len.2 p.walks (sym c.gone_by.ensures ∙ c.loop-passed-test.true) c.onward-y.ensures (omega arith)

pub returns : goal.returns
returns c =
    let ends = walking_ends c.loop-passed.invariant (sym c.gone_by.ensures ∙ c.loop-passed-test.false) in
    record { result_value = ends; passed_bound = walked_few c.requires.walks ends }
