-- `script::sums::sum`: a checksum stays below its modulus.
use Rattle.std.proofs.Common.{◌<◌}
use Rattle.script.proofs.sums.sum.Given as goal

abbrev pub invariant-loop-v : goal.invariant-loop-v
invariant-loop-v g l = l.c < 4294967291
