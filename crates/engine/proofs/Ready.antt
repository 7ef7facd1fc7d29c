-- A work area whose forest judges operations, while a run of them goes on.
--   beyond_refl, beyond_trans == what stands beyond the four parts is kept
--   outside_beyond            == and so it is where the forest's part alone has changed
--   ready_stays               == where the forest's roots are kept, it holds what it held, and judges so
--   ready_judged              == the answer for an edge is document 01's
--   area_for                  == what doing an edge asks of the work area, where it may be done
--   ready_for                 == the same once its two darts are joined
--   ready_did                 == the edge's two darts are joined and the operation is done: the next one can be judged
use mathlib.Core.Bool.{true}
use mathlib.Core.List.{List}
use mathlib.Core.Logic.{inl}
use mathlib.Core.Path.{◌≡◌, refl, sym, ap, ◌∙◌, subst}
use Rattle.std.proofs.Common.{Result}
use Prim.Native.Nat.{ℕ, ◌+◌, ◌*◌, ◌/◌, ◌<◌}
use native.Mathlib.Omega.{arith}
use lib.Dec.{T}
use lib.ListN.{drop}
use lib.Seq.{drop-drop}
use Rattle.permutations.specs.Partner.{partner}
use Rattle.permutations.proofs.PartnerLemmas.{partner_first}
use Rattle.permutations.specs.Map.{partner_live}
use Rattle.permutations.specs.Labels.{Merges}
use Rattle.darts.specs.Map.{successor, live}
use Rattle.darts.specs.Operation.{kind_of}
use Rattle.darts.specs.Kernel.{judge}
use Rattle.darts.specs.declared.Refusal.{Refusal}
use Rattle.laws.proofs.bridge.Standing.{live_iff}
use Rattle.forest.specs.Forest.{Falls, root}
use Rattle.area.specs.Area.{prev, table_in, past_in, forest_in, Room}
use Rattle.operations.specs.Edge.{Says, Judged, Bounds}
use Rattle.operations.specs.Operate.{operated}
use Rattle.operations.specs.Trees.{Outside, rooted, Kept, merged, Joined}
use Rattle.operations.proofs.Outside.{outside_room}
use Rattle.operations.proofs.Operation.{operated_same, outside_bounds, operated_outside}
use Rattle.operations.proofs.Replay.{merged_merges}
use Rattle.engine.specs.Held.{Area, Ready, Beyond}
use Rattle.engine.specs.Runs.{Goes, Stays}
use Rattle.engine.proofs.Allowed.{fine_live, room_for_one_more}
use Rattle.engine.proofs.Area.{prev_live, leads_live}
use Rattle.engine.proofs.Beside.{beside_table, beside_past, beside_area, beside_rooted}
use Rattle.engine.proofs.ByRoots.{judged_right, labels_step}
use Rattle.engine.proofs.Operated.{operated_acts}

pub beyond_refl : (D : ℕ) (w : List ℕ) → Beyond D w w
beyond_refl D w = record { size = refl; rest = refl }

pub beyond_trans : {D : ℕ} {u v w : List ℕ} → Beyond D u v → Beyond D v w → Beyond D u w
beyond_trans a b = record { size = b.size ∙ a.size; rest = b.rest ∙ a.rest }

-- ---- where the forest's part alone has changed

pub outside_beyond : {D : ℕ} {w v : List ℕ} → Outside D w v → Beyond D w v
outside_beyond {D} {w} {v} o =
    let e : 4 * D ≡ 3 * D + D = omega arith in
    record { size = o.size; rest = rw e (sym (drop-drop D (3 * D) v) ∙ ap (drop D) o.rest ∙ drop-drop D (3 * D) w) }

-- ---- an edge that may be done

module _ {D n : ℕ} {w : List ℕ} (A : Area D n w) (k e : ℕ) (fine : judge (kind_of k) D (table_in D w) (past_in D n w) e ≡ 0) where
  bounds : Bounds D w (2 * e) (2 * e + 1)
  unfolding successor prev
  bounds =
      let p = fine_live A.stands (kind_of k) e fine in
      let q : T (live D (past_in D n w) (2 * e + 1)) = rw (partner_first e) at (partner_live A.stands.good (2 * e) p) in
      let small : (x : ℕ) → T (live D (past_in D n w) x) → x < D = λ x h. ((live_iff D (past_in D n w) x).0 h).0 in
      record {
        first = small (2 * e) p;
        second = small (2 * e + 1) q;
        first_next = small (successor w (2 * e)) (leads_live A (2 * e) p);
        second_next = small (successor w (2 * e + 1)) (leads_live A (2 * e + 1) q);
        first_before = small (prev D w (2 * e)) (prev_live A (2 * e) p);
        second_before = small (prev D w (2 * e + 1)) (prev_live A (2 * e + 1) q);
      }

  pub area_for : Room D w × ((n < D / 2) × Bounds D w (2 * e) (2 * e + 1))
  area_for = (A.room, (room_for_one_more A (kind_of k) e fine, bounds))

-- ---- an operation judged, and done

module _ {D n k : ℕ} {w : List ℕ} (ρ : Ready D n k w) where
  -- THE ROOTS ARE KEPT: IT HOLDS WHAT IT HELD
  pub ready_stays : {v : List ℕ} → Kept D w v → Stays D n k w v
  ready_stays {v} κ =
      let B = κ.outside in
      record {
        ready = record { kind = ρ.kind; area = beside_area B ρ.area; falls = κ.falls; roots = rw κ.roots (beside_rooted B n k ρ.roots) };
        table = beside_table B;
        past = beside_past B n;
        beyond = outside_beyond κ.outside;
      }

  pub ready_judged : {e i : ℕ} {v : List ℕ} {r : Result (Unit {0}) Refusal} → Judged D k e i w v r
      → Says (judge (kind_of k) D (table_in D w) (past_in D n w) e) i r
  ready_judged {e} j = rw (← judged_right ρ.area k ρ.kind ρ.roots e) j.answer

  module _ (e : ℕ) (fine : judge (kind_of k) D (table_in D w) (past_in D n w) e ≡ 0) where
    -- it may be done where the edge's two darts are joined already
    pub ready_for : {v : List ℕ} → Joined D w v (2 * e) (2 * e + 1) true → Room D v × ((n < D / 2) × Bounds D v (2 * e) (2 * e + 1))
    ready_for j =
        let (room, (few, inside)) = area_for ρ.area k e fine in
        (outside_room j.outside room, (few, outside_bounds j.outside inside))

    merges : Merges (rooted D w) (merged (rooted D w) (2 * e) (2 * e + 1)) (2 * e) (partner (2 * e))
    merges = rw (partner_first e) (merged_merges (rooted D w) (2 * e) (2 * e + 1))

    -- THE OPERATION IS DONE, AND THE NEXT ONE CAN BE JUDGED
    pub ready_did : {v x : List ℕ} → Joined D w v (2 * e) (2 * e + 1) true → x ≡ operated D n v k e → Goes D n k e w x × Beyond D w x
    ready_did {v} {x} j is =
        let o = operated_acts ρ.area k ρ.kind e fine in
        let forest : forest_in D x ≡ forest_in D v =
        ap (forest_in D) is ∙ (operated_same (outside_room j.outside ρ.area.room) n k e (outside_bounds j.outside (bounds ρ.area k e fine))).forest in
        let B : Outside D (operated D n w k e) x = rw is (operated_outside j.outside n k e (bounds ρ.area k e fine)) in
        let roots : rooted D x ≡ merged (rooted D w) (2 * e) (2 * e + 1) = ap root forest ∙ j.roots in
        let joined = labels_step ρ.area k ρ.kind e fine ρ.roots (2 * e) (inl refl) merges in (
          record {
            ready = record { kind = ρ.kind; area = beside_area B o.area; falls = subst Falls (sym forest) j.falls; roots = rw roots (beside_rooted B (n + 1) k joined) };
            table = beside_table B ∙ o.table;
            past = beside_past B (n + 1) ∙ o.past;
          },
          beyond_trans (record { size = o.size; rest = o.rest }) (outside_beyond B),
        )
