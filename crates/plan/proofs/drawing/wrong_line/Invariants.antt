-- `plan::drawing::wrong_line`: the first wrong line is that of what follows after k bytes of line n.
use Rattle.std.proofs.Common.{◌≡◌, ◌≤◌, ◌+◌, drop}
use Rattle.plan.specs.Drawing.{wrong_from, wrong_line}
use Rattle.plan.proofs.drawing.wrong_line.Given as goal

abbrev pub invariant-loop-b : goal.invariant-loop-b
invariant-loop-b l = record {
  line : l.n ≤ l.b-index + 1;
  place : l.k ≤ l.b-index;
  wrong : wrong_from l.w l.k l.n (drop l.b-index l.drawing) ≡ wrong_line l.drawing;
}
