-- `writer::file::put_file` meets its contract: head, kernels and pairs are laid one after the other.
use native.Mathlib.Omega.{arith}
use Prim.Native.Nat.{◌+◌, ◌*◌}
use lib.ListN.{length-take}
use Rattle.slices.proofs.Part.{part_length}
use Rattle.writer.specs.Writing.{file_in}
use Rattle.writer.proofs.Lengths.{head_short}
use Rattle.writer.proofs.Fitted.{fitted_on}
use Rattle.writer.proofs.file.put_file.Goals as goal

pub put_kernels-pairs-requires : goal.put_kernels-pairs-requires
put_kernels-pairs-requires c =
    let g = c.args.state in
    let fits = c.requires.dense.room.fits in
    let few = part_length (3 * g.darts) (3 * g.darts + g.operations) c.args.work.now (omega arith) in
    let head = head_short g.darts g.levels in
    record {
      history_len_bound = (
        omega (arith, few, c.requires.dense.room.small),
        omega (arith, length-take g.levels g.ends),
        omega (arith, c.put_head-kernels.ensures.next),
      );
      t = c.requires.t;
    }

pub put_pairs-requires : goal.put_pairs-requires
put_pairs-requires c =
    let head = head_short c.args.state.darts c.args.state.levels in
    record { dense = c.requires.dense; start_bound = omega (arith, c.put_kernels-pairs.ensures.upper_bound, c.put_head-kernels.ensures.next) }

pub returns : goal.returns
unfolding file_in
returns c =
    fitted_on c.put_head-kernels.ensures (fitted_on c.put_kernels-pairs.ensures.fitted c.put_pairs.ensures)
