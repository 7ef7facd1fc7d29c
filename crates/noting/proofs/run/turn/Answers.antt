-- `noting::run::turn` meets its contract: both finds keep the roots.
use Rattle.operations.proofs.Lent.{found_kept, found_roots}
use Rattle.engine.proofs.Ready.{ready_stays}
use Rattle.noting.proofs.TurnNoted.{no_edge_noted, kept_noted}
use Rattle.noting.proofs.run.turn.Goals as goal

pub returns-then-d-e : goal.returns-then-d-e
returns-then-d-e c = no_edge_noted c.requires c.if-d-e.true

pub take-requires : goal.take-requires
take-requires c =
    record {
      ready = (ready_stays c.requires (found_kept c.find-a.ensures c.find-b.ensures)).ready;
      e_bound = c.if-d-e.false;
      a_value = found_roots c.find-a.ensures c.find-b.ensures;
    }

pub returns : goal.returns
returns c =
    kept_noted c.requires (found_kept c.find-a.ensures c.find-b.ensures) c.take.ensures
