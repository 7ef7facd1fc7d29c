use mathlib.Core.Path.{◌≡◌}
use Prim.Native.Nat.{◌-◌}
use Rattle.darts.specs.Scan.{number_on}
use Rattle.file_lines.proofs.Number.{Small}
use Rattle.file_lines.proofs.scan.digits.Given as goal

abbrev pub invariant-loop-i : goal.invariant-loop-i
invariant-loop-i l = (number_on 5 l.bytes l.at 0 ≡ number_on (5 - l.i) l.bytes l.place l.x) × Small (5 - l.i) l.x
