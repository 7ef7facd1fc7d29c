-- `engine::kernel::turn` meets its contract: judging changes the forest's part alone, so that the edge is done on the map on which it was judged.
--   turned_refused == an edge that is refused leaves the map as it was
--   fine           == one that is not may be done
--   turned_done    == the operation is done
use mathlib.Core.List.{List}
use mathlib.Core.Path.{◌≡◌, refl, sym}
use Prim.Native.Nat.{ℕ}
use Rattle.std.proofs.Common.{Ok, Err}
use Rattle.std.proofs.lemmas.Result.{err_from_is_err_and}
use Rattle.darts.specs.Operation.{kind_of}
use Rattle.darts.specs.Kernel.{judge}
use Rattle.darts.specs.declared.Refusal.{Refusal}
use Rattle.darts.proofs.Cases.{refused_number}
use Rattle.area.specs.Area.{table_in, past_in}
use Rattle.operations.specs.Edge.{Judged}
use Rattle.operations.specs.Operate.{operated}
use Rattle.engine.specs.Held.{Ready}
use Rattle.engine.specs.Runs.{Turned}
use Rattle.engine.proofs.Ready.{ready_stays, ready_judged, ready_for, ready_did}
use Rattle.engine.proofs.kernel.turn.Goals as goal

module _ {D m k e i : ℕ} {w v : List ℕ} (ρ : Ready D m k w) where
  turned_refused : {r : Refusal} → Judged D k e i w v (Err r) → Turned D m k e i w v (Err r)
  turned_refused {r} j =
      let s = ready_stays ρ (j.refused (refused_number r)) in
      record { answer = ready_judged ρ j; beyond = s.beyond; done = λ z. absurd (refused_number r z); refused = λ _. s }

  module _ (j : Judged D k e i w v (Ok tt)) where
    fine : judge (kind_of k) D (table_in D w) (past_in D m w) e ≡ 0
    fine = sym (ready_judged ρ j).number

    turned_done : {x : List ℕ} → x ≡ operated D m v k e → Turned D m k e i w x (Ok tt)
    turned_done is =
        let (goes, beyond) = ready_did ρ e fine (j.done refl) is in
        record { answer = ready_judged ρ j; beyond = beyond; done = λ _. goes; refused = λ n. absurd (n refl) }

pub returns-in_err-judge : goal.returns-in_err-judge
returns-in_err-judge c =
    let (r, is, same) = err_from_is_err_and c.from_residual.result c.from_residual.ensures.1 in
    rw (is, same) (turned_refused c.requires c.in_err-judge.ensures)

pub operate-requires : goal.operate-requires
operate-requires c =
    let r = ready_for c.requires _ (fine c.requires c.in_ok-judge.ensures) (c.in_ok-judge.ensures.done refl) in
    record { room = r.0; n_bound = r.1.0; bounds = r.1.1 }

pub returns : goal.returns
returns c = turned_done c.requires c.in_ok-judge.ensures c.operate.ensures
