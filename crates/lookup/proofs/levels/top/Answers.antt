-- `lookup::levels::top` meets its contract: the highest level is the top.
use mathlib.Core.Path.{◌∙◌}
use Rattle.std.proofs.Common.{rules}
use Rattle.std.proofs.iter.runs.Made.{chains}
use Rattle.lookup.proofs.Shapes.{Highest, highest_top}
use Rattle.lookup.proofs.levels.top.Goals as goal

pub returns : goal.returns
returns c =
    let h : Highest c.args.ends.now c.max.result = search (rules, chains) in
    c.unwrap_or.ensures ∙ highest_top c.args.ends.now c.max.result h
