-- `noting::run::take` meets its contract: judging changes the forest's part alone, so that the edge is contracted on the map on which it was judged.
use mathlib.Core.Path.{ap₂, ◌∙◌}
use Prim.Native.Nat.{min, max}
use Rattle.std.proofs.lemmas.Result.{err_from_is_err_and}
use Rattle.noting.proofs.TurnNoted.{taken_refused, taken_for, taken_done}
use Rattle.noting.proofs.run.take.Goals as goal

pub returns-in_err-judge_found : goal.returns-in_err-judge_found
returns-in_err-judge_found c =
    let (r, is, same) = err_from_is_err_and c.from_residual.result c.from_residual.ensures.1 in
    rw (is, same) (taken_refused c.requires.ready c.in_err-judge_found.ensures)

pub contract-requires : goal.contract-requires
contract-requires c =
    let (first, second) = c.requires.a_value in
    let asked = taken_for c.requires.ready c.in_ok-judge_found.ensures (c.min.ensures ∙ ap₂ min first second) (c.max.ensures ∙ ap₂ max first second) in
    record { room = asked.0; bounds = asked.1.0; m_bound = asked.1.1 }

pub returns : goal.returns
returns c =
    let (first, second) = c.requires.a_value in
    taken_done c.requires.ready c.in_ok-judge_found.ensures (c.min.ensures ∙ ap₂ min first second) (c.max.ensures ∙ ap₂ max first second)
    c.contract.ensures
