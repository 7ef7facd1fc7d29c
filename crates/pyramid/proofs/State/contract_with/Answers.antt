-- `pyramid::State::contract_with` meets its contract: what is made beside the sheets, and the merges that are noted.
use mathlib.Core.Path.{refl, sym, ap₂, ◌∙◌}
use native.Mathlib.Omega.{arith}
use lib.Dec.{lit≤}
use Rattle.darts.specs.Calls.{reduce_by}
use Rattle.darts.specs.Operation.{contraction}
use Rattle.engine.proofs.Ready.{beyond_refl}
use Rattle.yarn.specs.Calls.{costed}
use Rattle.pyramid.proofs.ByRun.{reduce_levels, level_full, level_halts, level_ends}
use Rattle.pyramid.proofs.Judges.{room_then}
use Rattle.pyramid.proofs.Making.{full_sheets, made_ran}
use Rattle.pyramid.proofs.Started.{bare}
use Rattle.pyramid.proofs.State.contract_with.Goals as goal

pub full-requires : goal.full-requires
full-requires c = room_then c.requires.stood_with.stood refl (beyond_refl _ _)

pub returns-then-self-ge64 : goal.returns-then-self-ge64
unfolding reduce_by
returns-then-self-ge64 c =
    let kernel = reduce_levels {x = contraction} refl c.args.kernel.now in
    let full = c.if-self-ge64.true in
    rw c.full.ensures.work_after
    (ap₂ costed (level_full kernel full c.requires.stood_with.stood refl (bare c.full.ensures.hands)) (sym (full_sheets _ full c.args.kernel.now _ _ _)))

pub run_noted-ran-requires : goal.run_noted-ran-requires
run_noted-ran-requires c = (c.requires.stood_with.stood.checked refl).ready refl (lit≤ tt)

pub level-o-requires : goal.level-o-requires
level-o-requires c = level_halts (reduce_levels refl _) c.requires.stood_with.stood refl c.run_noted-ran.ensures.went

pub merge_all-requires : goal.merge_all-requires
unfolding reduce_by
merge_all-requires c =
    let z = c.requires.stood_with in
    let p = c.requires.righted in
    let ran = c.run_noted-ran.ensures in
    let m = made_ran z _ ran c.level-o.result (level_ends (reduce_levels refl _) z.stood refl ran.went c.level-o.ensures) in
    (m.noted, p.sheet, omega (arith, m.noted.few, p.kept), m.fits _ p.given p.sheet p.kept)

pub clear-requires : goal.clear-requires
clear-requires c = room_then c.requires.stood_with.stood refl c.run_noted-ran.ensures.went.beyond

pub returns : goal.returns
unfolding reduce_by
returns c =
    let z = c.requires.stood_with in
    let ran = c.run_noted-ran.ensures in
    let m = made_ran z _ ran c.level-o.result (level_ends (reduce_levels refl _) z.stood refl ran.went c.level-o.ensures) in
    rw c.clear.ensures (ap₂ costed m.plain (sym c.merge_all.ensures ∙ m.sheets _))
