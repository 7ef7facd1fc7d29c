-- `lookup::deciding::operate` meets its contract: a contraction that is refused, or what the removals say.
use Rattle.lookup.proofs.Accepting.{contractions_stop, removals_say}
use Rattle.lookup.proofs.deciding.operate.Goals as goal

pub returns-in_default : goal.returns-in_default
returns-in_default c = contractions_stop _ _ _ _ _ c.in_default.ensures

pub returns-in-Ok-take_kind : goal.returns-in-Ok-take_kind
returns-in-Ok-take_kind c = removals_say _ _ _ _ _ c.in-Ok.ensures _ _ c.in-Ok-take_kind.ensures

pub returns-in-Err : goal.returns-in-Err
returns-in-Err c = removals_say _ _ _ _ _ c.in-Ok.ensures _ _ c.in-Err.ensures
