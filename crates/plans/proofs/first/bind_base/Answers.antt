-- `plans::first::bind_base` meets its contract: each turn notes one dart more.
use borrow.Author.Rules.{rules}
use Rattle.plans.proofs.Binding.{entry_below, binds}
use Rattle.plans.proofs.first.bind_base.Goals as goal

pub bounds-work-d : goal.bounds-work-d
bounds-work-d c = let l = (entry_below c.requires.standing c.loop-x.invariant c.loop-x-test.true c.at-y.ensures) in search rules

pub loop-x-preserved : goal.loop-x-preserved
loop-x-preserved c =
    let p = c.requires in
    binds p.standing c.loop-x.invariant c.loop-x-test.true p.room c.at-y.ensures
