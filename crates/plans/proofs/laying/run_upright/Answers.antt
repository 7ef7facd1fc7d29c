-- `plans::laying::run_upright` meets its contract: they rise.
use Prim.Native.Nat.{◌+◌, ◌-◌, ◌<◌}
use native.Mathlib.Omega.{arith}
use Rattle.plans.proofs.Runs.{upright_ran}
use Rattle.plans.proofs.laying.run_upright.Goals as goal

pub returns : goal.returns
returns c =
    let p = c.requires in
    let more : c.args.x + (c.args.w - 1 - c.args.x) < c.args.w = omega (arith, p.at.0.wale) in
    (more, upright_ran p.at.0 p.at.1.1 c.rise.ensures p.at.1.0 more p.e_value.0 c.left_of-l.ensures.0 c.right_of-r.ensures.0)
