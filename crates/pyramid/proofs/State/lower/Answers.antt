-- `pyramid::State::lower` meets its contract: the operations since the kernel below are taken back.
use native.Mathlib.Omega.{arith}
use Rattle.engine.proofs.LastBack.{pyramid_backs}
use Rattle.pyramid.specs.Values.{state_of}
use Rattle.pyramid.proofs.Lowering.{stacked_few, below_le, lowered_level}
use Rattle.pyramid.proofs.State.lower.Goals as goal

pub end_below-below-requires : goal.end_below-below-requires
end_below-below-requires c =
    let g = c.args in
    let p = c.requires in
    stacked_few (state_of g.self) g.work.now p.stacked

pub overflow_sub-n : goal.overflow_sub-n
overflow_sub-n c =
    let g = c.args in
    let p = c.requires in
    rw c.end_below-below.ensures (below_le (state_of g.self) g.work.now p.stacked)

pub take_back-requires : goal.take_back-requires
take_back-requires c =
    let g = c.args in
    let p = c.requires in
    record { area = p.stacked.area; c_le_n = omega arith; t = pyramid_backs p.stacked.pyramid }

pub lowered-requires : goal.lowered-requires
lowered-requires c =
    let g = c.args in
    let p = c.requires in
    (p.levels_nonzero, stacked_few (state_of g.self) g.work.now p.stacked)

pub returns : goal.returns
returns c =
    let g = c.args in
    let p = c.requires in
    lowered_level (state_of g.self) g.work.now p.stacked p.levels_nonzero c.take_back.new.work
    (rw c.end_below-below.ensures at c.take_back.ensures) (state_of c.lowered.result) c.lowered.ensures
