-- `lookup::calls::look_up` meets its contract: 4, or what is said over table and ends that come from a pyramid.
use mathlib.Core.Path.{sym, ◌∙◌}
use Rattle.permutations.specs.Choice.{true→T}
use Rattle.laws.proofs.calls.Cleared.{cleared_kept}
use Rattle.lookup.proofs.Looking.{room_count, no_pyramid_lem, a_pyramid}
use Rattle.lookup.proofs.calls.look_up.Goals as goal

pub look-requires : goal.look-requires
look-requires c =
    let p = c.requires in
    (room_count p.room, p.table_len.0, p.table_len.1, true→T (sym c.decide-comes.ensures.answer ∙ c.if-comes.true))

pub returns-then-comes : goal.returns-then-comes
returns-then-comes c =
    let C = c.decide-comes.ensures in
    record {
      looks_up = a_pyramid _ _ _ _ _ C.answer c.if-comes.true _ c.look.ensures;
      work_after = c.clear.ensures ∙ cleared_kept _ _ _ C.beyond.rest;
    }

pub returns : goal.returns
returns c =
    let C = c.decide-comes.ensures in
    record { looks_up = no_pyramid_lem _ _ _ _ _ C.answer c.if-comes.false; work_after = c.clear.ensures ∙ cleared_kept _ _ _ C.beyond.rest }
