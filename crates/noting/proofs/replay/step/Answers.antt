-- `noting::replay::step` meets its contract: an odd number is a contraction's.
use mathlib.Core.Path.{sym}
use native.Mathlib.Omega.{arith}
use Rattle.noting.proofs.Stepping.{stepped_contraction, stepped_removal}
use Rattle.yarn.specs.Places.{merge_by}
use Rattle.noting.proofs.replay.step.Goals as goal

pub returns-in-Contract : goal.returns-in-Contract
returns-in-Contract c = stepped_contraction (sym c.in-Contract.ensures) c.contract.ensures

pub returns-in-Remove : goal.returns-in-Remove
unfolding merge_by
returns-in-Remove c = stepped_removal (λ e. omega (arith, e, c.in-Remove.ensures)) c.requires.falls c.pass.ensures
