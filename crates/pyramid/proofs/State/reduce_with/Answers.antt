-- `pyramid::State::reduce_with` meets its contract: what is judged first, or a kernel of contractions, or one of removals, which leaves both sheets, and then the
-- numbers put right.
--   kernel == the call that is a kernel
use mathlib.Core.List.{List}
use mathlib.Core.Path.{refl}
use Prim.Native.Nat.{ℕ}
use Rattle.darts.proofs.Cases.{refused_number}
use Rattle.darts.specs.Kinds.{kind_is}
use Rattle.darts.specs.Operation.{Kind, contraction, removal}
use Rattle.laws.proofs.chained.OnLent.{Call, by_kernel}
use Rattle.pyramid.proofs.JudgesWith.{righted_of}
use Rattle.pyramid.proofs.OnSheets.{with_contract, with_remove, with_refused, with_settles, with_settled}
use Rattle.pyramid.proofs.State.reduce_with.Goals as goal
use Rattle.pyramid.proofs.State.reduce_with.Goals.{in-Contract, in-Remove}

abbrev kernel : Kind → List ℕ → Call
kernel k es = by_kernel (record { kind = k; edges = es })

pub returns-in-Err : goal.returns-in-Err
returns-in-Err c = with_refused (kernel (kind_is c.args.kind) c.args.kernel.now) c.in-Err.ensures (refused_number _) c.refused.ensures

pub contract_with-o-requires : goal.contract_with-o-requires
contract_with-o-requires c =
    let j = c.in_default.ensures in
    record { stood_with = j.stood refl; righted = righted_of j refl }

pub remove_stood-o-requires : goal.remove_stood-o-requires
remove_stood-o-requires c = (c.in_default.ensures.stood refl).stood

pub settle-requires : goal.settle-requires
settle-requires c =
    let es = c.args.kernel.now in
    let j = c.in_default.ensures in
    elim c.match-kind.branch [
      | in-Contract w ↦
          let o = w.contract_with-o in
          rw (w.o-is, w.history-is) (with_settles (kernel contraction es) j refl o.result (with_contract es j refl o.ensures))
      | in-Remove w ↦
          let o = w.remove_stood-o in
          rw (w.o-is, w.history-is) (with_settles (kernel removal es) j refl o.result (with_remove es j refl o.ensures))
    ]

pub returns : goal.returns
returns c =
    let es = c.args.kernel.now in
    let j = c.in_default.ensures in
    elim c.match-kind.branch [
      | in-Contract w ↦
          let o = w.contract_with-o in
          rw (w.in-Contract.is, w.table-is, w.history-is, w.work-is, w.sheet-is, w.keeps-is)
          (with_settled (kernel contraction es) j refl o.result (with_contract es j refl o.ensures) (rw (w.o-is, w.history-is) at c.settle.ensures))
      | in-Remove w ↦
          let o = w.remove_stood-o in
          rw (w.in-Remove.is, w.table-is, w.history-is, w.work-is, w.sheet-is, w.keeps-is)
          (with_settled (kernel removal es) j refl o.result (with_remove es j refl o.ensures) (rw (w.o-is, w.history-is) at c.settle.ensures))
    ]
