-- `zonemap_c::state::state_of` meets its contract: the ends are the last 64 of the 69 numbers.
use Rattle.std.proofs.Common.{◌≡◌, ◌≤◌, ◌∙◌, length, arith, drop, length-drop, take_all}
use Rattle.zonemap_c.proofs.state.state_of.Goals as goal

pub returns : goal.returns
returns c =
    let numbers = c.args.numbers.now in
    let all : length (drop 5 numbers) ≤ 64 = simp length-drop (omega arith) in
    let ends : c.copy_from_slice.new.self ≡ drop 5 numbers = c.copy_from_slice.ensures.after ∙ take_all 64 (drop 5 numbers) all in
    rw ends
