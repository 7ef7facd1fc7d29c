-- `writer::print::put_number` meets its contract: each turn of the loop lays the last digit that is left.
use Rattle.writer.proofs.Backward.{Backward}
use Rattle.writer.proofs.print.put_number.Given as goal

abbrev pub invariant-loop-place : goal.invariant-loop-place
invariant-loop-place l = Backward l.initial.output l.output l.at l.x l.rest l.place
