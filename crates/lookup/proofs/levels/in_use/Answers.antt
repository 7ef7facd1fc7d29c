-- `lookup::levels::in_use` meets its contract: each level from 1 to n has its end.
use mathlib.Core.Logic.{◌≢◌}
use Prim.Native.Nat.{ℕ, ◌≤◌}
use Rattle.std.specs.Bool.{Decides}
use Rattle.std.proofs.Common.{rules, get_or}
use Rattle.std.proofs.iter.runs.Sources.{ranges}
use Rattle.lookup.proofs.Shapes.{used_each}
use Rattle.lookup.proofs.levels.in_use.Goals as goal

pub returns : goal.returns
returns c =
    let h : Decides c.all.result ((L : ℕ) → 1 ≤ L → L ≤ c.args.n → get_or c.args.first.now L 0 ≢ 0) = search (rules, ranges) in
    used_each c.args.first.now c.args.n c.all.result h
