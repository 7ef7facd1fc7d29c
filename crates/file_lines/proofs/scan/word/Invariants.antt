use mathlib.Core.Path.{◌≡◌}
use lib.ListN.{drop}
use Rattle.darts.specs.Scan.{word}
use Rattle.file_lines.proofs.scan.word.Given as goal

abbrev pub invariant-loop-c : goal.invariant-loop-c
invariant-loop-c l = word l.w l.bytes l.at ≡ word (drop l.c-index l.w) l.bytes l.place
