-- `plan::drawing::wrong_line`: the first wrong line is that of what follows after k bytes of line n.
use Rattle.std.proofs.Common.{◌∙◌, sym, ap, arith}
use Rattle.plan.specs.Drawing.{wrong_from, wrong_line}
use Rattle.plan.proofs.Lines.{line_ends, line_on, line_short, line_long, last_ended, last_open}
use Rattle.plan.proofs.drawing.wrong_line.Goals as goal
use Rattle.plan.proofs.drawing.wrong_line.Goals.{in-true-true, in-false-false}

pub loop-b-init : goal.loop-b-init
unfolding wrong_line
loop-b-init c = record { line = omega arith; place = omega arith; wrong = ap (λ w. wrong_from w 0 1 c.args.drawing.now) c.wales-w.ensures.0 }

pub loop-b-preserved : goal.loop-b-preserved
loop-b-preserved c =
    let h = c.loop-b-test.true in
    let k = c.loop-b.invariant in
    elim c.if-b-eq10.branch [
      | in-true-true w ↦ rw (w.k-is, w.n-is) (record {
        line = omega arith;
        place = omega arith;
        wrong = sym (line_ends _ _ _ _ _ h w.in-true-true.is-0 w.in-true-true.is-1) ∙ k.wrong;
      })
      | in-false-false w ↦ rw (w.k-is, w.n-is) (record {
        line = omega arith;
        place = omega arith;
        wrong = sym (line_on _ _ _ _ _ h w.in-false-false.is-0 w.in-false-false.is-1) ∙ k.wrong;
      })
    ]

pub returns-then-k-eq0 : goal.returns-then-k-eq0
returns-then-k-eq0 c = sym (last_ended _ _ _ _ _ c.loop-b-test.false c.if-k-eq0.true) ∙ c.loop-b.invariant.wrong

pub returns-else-k-eq0 : goal.returns-else-k-eq0
returns-else-k-eq0 c = sym (last_open _ _ _ _ _ c.loop-b-test.false c.if-k-eq0.false) ∙ c.loop-b.invariant.wrong

pub returns-in-true-false : goal.returns-in-true-false
returns-in-true-false c = sym (line_short _ _ _ _ _ c.loop-b-test.true c.in-true-false.is-0 c.in-true-false.is-1) ∙ c.loop-b.invariant.wrong

pub returns-in-true-false-2 : goal.returns-in-true-false-2
returns-in-true-false-2 c = sym (line_long _ _ _ _ _ c.loop-b-test.true c.in-true-false.is-0 c.in-true-false.is-1) ∙ c.loop-b.invariant.wrong
