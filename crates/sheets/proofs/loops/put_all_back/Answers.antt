-- `sheets::loops::put_all_back` meets its contract: each turn puts back the last record of those that are left.
use mathlib.Core.Path.{refl}
use Rattle.sheets.specs.Sheets.{none, returned}
use Rattle.sheets.proofs.Turns.{note_none, note_into}
use Rattle.sheets.proofs.Passes.{returning_turn, returning_done}
use Rattle.sheets.proofs.loops.put_all_back.Goals as goal

pub loop-t-preserved-then-v-ne0 : goal.loop-t-preserved-then-v-ne0
unfolding returned
loop-t-preserved-then-v-ne0 c =
    returning_turn _ _ _ _ _ _ _ _ c.loop-t.invariant _ _ c.loop-t-test.true (note_into _ _ _ _ c.note-v.ensures c.if-v-ne0.true) refl

pub loop-t-preserved : goal.loop-t-preserved
unfolding returned
loop-t-preserved c =
    returning_turn _ _ _ _ _ _ _ _ c.loop-t.invariant none _ c.loop-t-test.true (note_none _ _ _ _ c.note-v.ensures c.if-v-ne0.false) refl

pub returns : goal.returns
returns c = returning_done _ _ _ _ _ _ _ _ c.loop-t.invariant c.loop-t-test.false
