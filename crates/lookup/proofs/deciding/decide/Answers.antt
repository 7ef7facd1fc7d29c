-- `lookup::deciding::decide` meets its contract: no by the levels, no by the base, or what the operations say.
use mathlib.Core.Path.{sym, ◌∙◌}
use Rattle.lookup.proofs.Accepting.{came_shape, came_base, came_area, came_operated}
use Rattle.lookup.proofs.deciding.decide.Goals as goal
use Rattle.lookup.proofs.deciding.decide.Goals.{then-shape, else-shape}

pub operate-requires : goal.operate-requires
operate-requires c =
    let p = c.requires in
    elim c.if-shape.branch [
      | then-shape w ↦ rw w.work-is (came_area _ _ p.table_len p.room w.load.ensures (sym w.value-is ∙ c.if-load.true))
      | else-shape w ↦ absurd (cc)
    ]

pub returns-then-load : goal.returns-then-load
returns-then-load c =
    let p = c.requires in
    elim c.if-shape.branch [
      | then-shape w ↦
          came_operated _ _ p.table_len p.room w.load.ensures c.shape.ensures w.if-shape.true (sym w.value-is ∙ c.if-load.true)
          (rw w.work-is at c.operate.ensures)
      | else-shape w ↦ absurd (cc)
    ]

pub returns-else-load : goal.returns-else-load
returns-else-load c =
    let p = c.requires in
    elim c.if-shape.branch [
      | then-shape w ↦ rw (w.work-is, c.if-load.false) (came_base _ _ p.table_len p.room w.load.ensures (sym w.value-is ∙ c.if-load.false))
      | else-shape w ↦ rw (w.work-is, c.if-load.false) (came_shape _ _ _ c.shape.ensures w.if-shape.false)
    ]
