-- `lookup::levels::shape` meets its contract: too many levels, or one that is not in use, or what the kinds say.
use native.Mathlib.Omega.{arith}
use Rattle.lookup.proofs.Shapes.{zeros_unset, too_high, unused, kinds}
use Rattle.lookup.proofs.levels.shape.Goals as goal

pub returns-then-high-gt64 : goal.returns-then-high-gt64
returns-then-high-gt64 c = too_high _ c.top-high.ensures c.if-high-gt64.true

pub note-requires : goal.note-requires
note-requires c = let t = c.top-high.ensures in let l = c.if-high-gt64.false in record { ends_in_bounds = omega arith; unset = zeros_unset 65 }

pub returns-then-in_use : goal.returns-then-in_use
returns-then-in_use c =
    kinds _ c.top-high.ensures c.if-high-gt64.false c.note.ensures (omega arith) c.in_use.ensures c.if-in_use.true
    c.one_kind.ensures

pub returns-else-in_use : goal.returns-else-in_use
returns-else-in_use c =
    rw c.if-in_use.false
    (unused _ c.top-high.ensures c.if-high-gt64.false c.note.ensures (omega arith) c.in_use.ensures c.if-in_use.false)
