-- `plans::laying::run_along` meets its contract: none, or all but the last, where they rise.
use Prim.Native.Nat.{◌+◌, ◌-◌, ◌<◌}
use native.Mathlib.Omega.{arith}
use Rattle.grids.specs.Grid.{flat}
use Rattle.grids.specs.Base.{base_table}
use Rattle.plans.proofs.Rising.{stays}
use Rattle.plans.proofs.Runs.{along_ran}
use Rattle.plans.proofs.laying.run_along.Goals as goal

pub returns-then-y-eq0 : goal.returns-then-y-eq0
returns-then-y-eq0 c =
    (omega (arith, c.requires.at.1), stays (base_table (flat c.args.w c.args.c)) c.args.e c.args.to.now)

pub returns-then-c-y : goal.returns-then-c-y
returns-then-c-y c =
    (omega (arith, c.requires.at.1), stays (base_table (flat c.args.w c.args.c)) c.args.e c.args.to.now)

pub returns : goal.returns
returns c =
    let p = c.requires in
    let more : c.args.x + (c.args.w - 2 - c.args.x) + 1 < c.args.w = omega (arith, p.at.1) in
    (more, along_ran p.at.0 (omega arith) c.rise.ensures (omega arith) more p.e_value.0 c.up_of-r.ensures.0 c.down_of-l.ensures.0)
