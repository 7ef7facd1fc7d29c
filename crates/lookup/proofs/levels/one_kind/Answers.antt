-- `lookup::levels::one_kind` meets its contract: each end is the one that is noted at its level.
use mathlib.Core.Path.{◌≡◌}
use Prim.Native.Nat.{ℕ, ◌/◌, ◌<◌}
use native.Mathlib.Omega.{arith}
use lib.ListN.{length, get_or}
use Rattle.std.proofs.Common.{rules}
use Rattle.std.specs.Bool.{Decides}
use Rattle.std.specs.List.{All}
use Rattle.std.proofs.iter.Serving.{serving}
use Rattle.std.proofs.iter.runs.Made.{chains}
use Rattle.lookup.proofs.Shapes.{Alike, level_top, alike_each}
use Rattle.lookup.proofs.levels.one_kind.Goals as goal

pub all-requires-clause-callable : goal.all-requires-clause-callable
all-requires-clause-callable c =
    let e : c.iter.result.rest.now ≡ c.args.ends.now = cc (c.iter.ensures.rest) in
    let inside : (k d : ℕ) → k < length c.iter.result.rest.now → get_or c.iter.result.rest.now k d / 2 < length c.args.first.now
    = λ k d h. rw e (omega (arith, level_top c.args.ends.now k d (rw e at h), c.requires.ends_in_bounds)) in
    grind serving

pub returns : goal.returns
returns c =
    let h : Decides c.all.result (All (Alike c.args.first.now) c.args.ends.now) = search (rules, chains) in
    alike_each c.requires.firsts c.requires.ends_in_bounds c.all.result h
