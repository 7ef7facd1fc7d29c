-- `plans::first::take_edges` meets its contract: from each edge on the pass goes to where it goes from the first.
use mathlib.Core.Path.{sym, ◌∙◌}
use Rattle.plans.proofs.Taken.{taking_begins, passed_over, turn_refused, turn_done, taking_ends}
use Rattle.plans.proofs.first.take_edges.Goals as goal
use Rattle.plans.proofs.first.take_edges.Goals.{then-one_code+then-is_ok, else-one_code}
use Rattle.plans.proofs.first.take_edges.Goals.{else-one_code-via-then-one_code+else-is_ok, else-one_code-via-else-one_code}

pub loop-e-init : goal.loop-e-init
loop-e-init c = taking_begins _ c.requires.d_value c.requires.ready c.requires.work_value

pub loop-e-preserved : goal.loop-e-preserved
loop-e-preserved c =
    let D = c.requires.d_value in
    let σ = c.loop-e.invariant in
    let more = c.loop-e-test.true in
    let asked = c.one_code.ensures in
    elim c.if-one_code.branch [
      | then-one_code+then-is_ok w ↦
          rw (w.work-is, w.m-is)
          (turn_done D σ more asked w.if-one_code.true _ w.turn.ensures (sym w.is_ok.ensures.value ∙ w.if-is_ok.true))
      | else-one_code w ↦
          rw w.m-is (elim w.else-one_code.branch [
            | else-one_code-via-then-one_code+else-is_ok v ↦
                rw (w.work-is, v.work-is)
                (turn_refused D σ more asked v.if-one_code.true _ v.turn.ensures (sym v.is_ok.ensures.value ∙ v.if-is_ok.false))
            | else-one_code-via-else-one_code v ↦ rw (w.work-is, v.work-is) (passed_over D σ more asked v.if-one_code.false)
          ])
    ]

pub returns : goal.returns
returns c =
    taking_ends c.requires.d_value c.loop-e.invariant c.loop-e-test.false
