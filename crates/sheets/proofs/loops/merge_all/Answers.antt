-- `sheets::loops::merge_all` meets its contract: each turn makes one merge of those that are left.
use mathlib.Core.Path.{refl}
use Rattle.sheets.specs.Sheets.{none, merged}
use Rattle.sheets.proofs.Turns.{note_none, note_into}
use Rattle.sheets.proofs.Passes.{merging_turn, merging_ready, merging_done}
use Rattle.sheets.proofs.loops.merge_all.Goals as goal
use Rattle.sheets.proofs.loops.merge_all.Goals.{then-v-ne0, else-v-ne0}

pub merge_at-requires : goal.merge_at-requires
merge_at-requires c =
    merging_ready _ _ _ _ _ _ _ _ _ c.loop-t.invariant c.note-v.result c.loop-t-test.true c.requires.0 c.requires.1 c.requires.2 c.note-v.ensures
    (note_into _ _ _ _ c.note-v.ensures c.if-v-ne0.true)

pub loop-t-preserved : goal.loop-t-preserved
unfolding merged
loop-t-preserved c =
    elim c.if-v-ne0.branch [
      | then-v-ne0 w ↦ rw (w.sheet-is, w.kept-is)
          (merging_turn _ _ _ _ _ _ _ _ _ c.loop-t.invariant _ _ _ c.loop-t-test.true (note_into _ _ _ _ c.note-v.ensures w.if-v-ne0.true) w.merge_at.ensures)
      | else-v-ne0 w ↦ rw (w.sheet-is, w.kept-is)
          (merging_turn _ _ _ _ _ _ _ _ _ c.loop-t.invariant none _ _ c.loop-t-test.true (note_none _ _ _ _ c.note-v.ensures w.if-v-ne0.false) refl)
    ]

pub returns : goal.returns
returns c = merging_done _ _ _ _ _ _ _ _ _ c.loop-t.invariant c.loop-t-test.false
