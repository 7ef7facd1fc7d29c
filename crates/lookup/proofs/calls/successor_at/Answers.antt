-- `lookup::calls::successor_at` meets its contract: 1 or 2, or the lookup in what is lent.
use mathlib.Core.Path.{sym, ap}
use Prim.Native.Nat.{◌/◌}
use lib.Seq.{length-take-le}
use borrow.Author.Rules.{rules}
use Rattle.std.proofs.lemmas.Result.{err_from_is_err_and}
use Rattle.darts.specs.Answers.{Answer}
use Rattle.lookup.proofs.Looking.{call_fits, first_refused, looked_up, passed_few}
use Rattle.lookup.proofs.calls.successor_at.Goals as goal

pub returns-in_err-fit-clause-work_after : goal.returns-in_err-fit-clause-work_after
returns-in_err-fit-clause-work_after c =
    let g = c.args in
    let (r, is, same) = err_from_is_err_and c.from_residual.result c.from_residual.ensures.1 in
    rw (is, same) (first_refused g.darts g.level g.dart g.table.now g.ends.now g.work.now _ c.in_err-fit.ensures)

pub slice_bounds-look_up-end : goal.slice_bounds-look_up-end
slice_bounds-look_up-end c =
    let g = c.args in
    let f = call_fits g.darts g.table.now g.ends.now g.work.now (sym (ap (λ (a : Answer). a.number) c.in_ok-fit.ensures)) in
    search rules

pub slice_bounds-look_up-end-2 : goal.slice_bounds-look_up-end-2
slice_bounds-look_up-end-2 c =
    let g = c.args in
    let f = call_fits g.darts g.table.now g.ends.now g.work.now (sym (ap (λ (a : Answer). a.number) c.in_ok-fit.ensures)) in
    search rules

pub look_up-requires : goal.look_up-requires
look_up-requires c =
    let g = c.args in
    let f = call_fits g.darts g.table.now g.ends.now g.work.now (sym (ap (λ (a : Answer). a.number) c.in_ok-fit.ensures)) in
    record {
      room = f.room;
      table_len = (length-take-le g.darts g.table.now f.table, length-take-le (g.darts / 2) g.ends.now f.ends);
    }

pub returns : goal.returns
returns c =
    let g = c.args in
    let r = c.look_up.ensures in
    let e =
    looked_up g.darts g.level g.dart g.table.now g.ends.now g.work.now c.look_up.result
    (sym (ap (λ (a : Answer). a.number) c.in_ok-fit.ensures)) r.looks_up r.work_after in
    record { work_after = e; passed_bound = passed_few g.darts g.level g.dart g.table.now g.ends.now g.work.now c.look_up.result e }
