-- The base in the work area, ready for contractions.
--   laid_room, laid_stands == it is laid there: the area keeps its room, and the table holds a map
--   Based, based           == each dart is noted before its successor: the area holds the base
--   prepared               == with a tree for each vertex it judges contractions
use mathlib.Core.List.{List, []}
use mathlib.Core.Path.{◌≡◌, ◌∙◌}
use Prim.Native.Nat.{ℕ, ◌*◌, ◌≤◌}
use native.Mathlib.Omega.{arith}
use lib.ListN.{length}
use Rattle.slices.specs.Over.{over}
use Rattle.slices.proofs.Over.{over_front, over_rest, over_length, drop_more}
use Rattle.darts.specs.Tests.{numbered}
use Rattle.laws.specs.Standing.{Standing}
use Rattle.laws.proofs.bridge.Bases.{all_live}
use Rattle.area.specs.Area.{Room, table_in}
use Rattle.operations.specs.Cycles.{Labelled}
use Rattle.operations.proofs.Labels.{labelled_falls, labelled_same}
use Rattle.engine.specs.Held.{Area, Beyond}
use Rattle.engine.proofs.Area.{room_kept, area_of, noted_known}
use Rattle.engine.proofs.Around.{step_perm}
use Rattle.engine.proofs.Beside.{beside_table, beside_area, beside_rooted}
use Rattle.engine.proofs.ByRoots.{rooted_start}
use Rattle.engine.proofs.Parts.{past_none}
use Rattle.engine.proofs.Ready.{beyond_trans}
use Rattle.grids.specs.Grid.{Grid, darts_of}
use Rattle.grids.specs.Base.{base_table}
use Rattle.grids.proofs.PlanBase.{base_stands}
use Rattle.plans.specs.Prepared.{Bound, Prepared}

pub record Based (g : Grid) (D : ℕ) (w v : List ℕ) : Type 0 where
  pub area : Area D 0 v
  pub table : table_in D v ≡ base_table g
  pub beyond : Beyond D w v

module _ (g : Grid) {D : ℕ} (count : D ≡ darts_of g) (w : List ℕ) (room : Room D w) where
  abbrev laid : List ℕ
  laid = over (base_table g) w

  stands : Standing D (base_table g) []
  stands = rw count (base_stands g)

  fits : length (base_table g) ≤ length w
  fits = omega (arith, stands.size, room.fits)

  laid_beyond : Beyond D w laid
  laid_beyond = record {
    size = over_length (base_table g) w fits;
    rest = drop_more (length (base_table g)) (4 * D) laid w (omega (arith, stands.size)) (over_rest (base_table g) w);
  }

  laid_table : table_in D laid ≡ base_table g
  laid_table = rw stands.size at (over_front (base_table g) w)

  pub laid_room : Room D laid
  laid_room = room_kept w laid laid_beyond.size room

  pub laid_stands : Standing D (table_in D laid) []
  laid_stands = rw laid_table stands

  pub based : {v : List ℕ} → Bound D D laid v → Based g D w v
  unfolding numbered
  based {v} b =
      let S : Standing D (table_in D v) [] = rw b.table laid_stands in
      record {
        area = area_of 0 v (past_none D v) (room_kept laid v b.size laid_room) (omega arith) tt S
            (noted_known v S (λ z l. b.notes z ((all_live D z).0 l))) (λ x h n. absurd (n ((all_live D x).1 h)));
        table = b.table ∙ laid_table;
        beyond = beyond_trans laid_beyond (record { size = b.size; rest = b.rest });
      }

pub prepared : {g : Grid} {D : ℕ} {w v u : List ℕ} → Based g D w v → Labelled D 1 v u → Prepared g D w u
prepared {D = D} {v = v} {u = u} b L =
    let one : 1 ≤ 1 = omega arith in
    let p = step_perm b.area 1 one in
    let o = L.outside in
    record {
      ready = record {
        kind = one;
        area = beside_area o b.area;
        falls = labelled_falls p L;
        roots = beside_rooted o 0 1 (rooted_start b.area 1 one (labelled_same p L));
      };
      table = beside_table o ∙ b.table;
      beyond = beyond_trans b.beyond (record { size = o.size; rest = drop_more (3 * D) (4 * D) u v (omega arith) o.rest });
    }
