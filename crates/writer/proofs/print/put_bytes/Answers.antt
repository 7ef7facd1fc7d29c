-- `writer::print::put_bytes` meets its contract: the part from the place on becomes the bytes.
use mathlib.Core.Path.{◌≡◌, refl}
use Prim.Native.Nat.{◌+◌, ◌-◌}
use native.Mathlib.Omega.{arith}
use lib.ListN.{length}
use lib.Seq.{drop-drop}
use Rattle.slices.specs.Laid.{laid}
use Rattle.writer.proofs.print.put_bytes.Goals as goal

pub returns : goal.returns
unfolding laid
returns c =
    let w = c.args.w.now in
    let at = c.args.at in
    let size : at + length w - at ≡ length w = omega arith in
    record { slice = rw (c.copy_from_slice.ensures.after, size, drop-drop (length w) at c.args.output.now); next = refl }
