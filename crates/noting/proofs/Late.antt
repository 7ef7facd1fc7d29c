-- What an operation and a note leave in the work area's free half of the history's part, and before it.
--   outside_late  == a change in the forest's part changes nothing from 3D + D/2 on
--   operated_late == and so does an operation
--   note_stays    == a note there leaves what is held, and how the next operation is judged
use mathlib.Core.Bool.{Bool, true, false}
use mathlib.Core.List.{List, reverse}
use mathlib.Core.Logic.{inr}
use mathlib.Core.Path.{◌≡◌, sym, ap, ◌∙◌, subst}
use Prim.Native.Nat.{ℕ, ◌+◌, ◌-◌, ◌*◌, ◌/◌, ◌≤◌, ◌<◌}
use native.Mathlib.Omega.{arith}
use lib.Dec.{eqb}
use lib.ListN.{drop, set, take, length-set}
use lib.Seq.{drop-drop, drop-set-lt, drop-set-add, take-set-le, get_or-set_other}
use Rattle.permutations.specs.Partner.{partner}
use Rattle.std.proofs.Common.{if◌then◌else◌}
use Rattle.darts.specs.Map.{successor}
use Rattle.darts.specs.Operation.{Kind, kind_of, lead}
use Rattle.darts.specs.Tests.{near, far}
use Rattle.laws.proofs.bridge.AnyKind.{near_far}
use Rattle.laws.proofs.bridge.Standing.{live_iff}
use Rattle.forest.specs.Forest.{Falls, root}
use Rattle.area.specs.Area.{prev, table_in, past_in, forest_in, bound}
use Rattle.operations.specs.Edge.{Bounds}
use Rattle.operations.specs.Operate.{led, noted, operated}
use Rattle.operations.specs.Trees.{Outside}
use Rattle.operations.proofs.Operation.{lead_bounds}
use Rattle.operations.proofs.Outside.{set_forest}
use Rattle.engine.specs.Held.{Area, Ready}
use Rattle.engine.specs.Runs.{Stays}
use Rattle.engine.proofs.Area.{area_of, room_kept}
use Rattle.engine.proofs.Parts.{rest_from, bound_rest}

-- ---- an operation

pub outside_late : {D : ℕ} {w v : List ℕ} → Outside D w v → drop (3 * D + D / 2) v ≡ drop (3 * D + D / 2) w
outside_late {D} {w} {v} o = sym (drop-drop (D / 2) (3 * D) v) ∙ ap (drop (D / 2)) o.rest ∙ drop-drop (D / 2) (3 * D) w

bound_late : {D : ℕ} (w : List ℕ) (a x : ℕ) → a < D → x < D → drop (3 * D + D / 2) (bound D w a x) ≡ drop (3 * D + D / 2) w
bound_late {D} w a x a_d x_d = rest_from D (3 * D + D / 2) (bound D w a x) w (bound_rest D w a_d x_d) (omega arith)

module _ {D : ℕ} (w : List ℕ) where
  led_late : (k : Kind) (p : ℕ) → Bounds D w p (partner p) → drop (3 * D + D / 2) (led D w k p) ≡ drop (3 * D + D / 2) w
  unfolding led successor prev
  led_late k p b = go (eqb (near k (successor w p) (successor w (partner p))) (partner p))
    where
      l : (near k (successor w p) (successor w (partner p)) < D) × (far k (successor w p) (successor w (partner p)) < D)
      l = near_far (λ x. x < D) k b.first_next b.second_next

      go : (c : Bool) → drop (3 * D + D / 2) (if c then bound D w (prev D w p) (far k (successor w p) (successor w (partner p)))
          else bound D (bound D w (prev D w p) (near k (successor w p) (successor w (partner p)))) (prev D w (partner p)) (far k (successor w p) (successor w (partner p))))
          ≡ drop (3 * D + D / 2) w
      go true = bound_late w (prev D w p) _ b.first_before l.1
      go false = bound_late _ (prev D w (partner p)) _ b.second_before l.1 ∙ bound_late w (prev D w p) _ b.first_before l.0

  noted_late : (n k p : ℕ) → n < D / 2 → p < D → partner p < D → drop (3 * D + D / 2) (noted D n w k p) ≡ drop (3 * D + D / 2) w
  unfolding noted
  noted_late n k p few p_d q_d =
      drop-set-lt (3 * D + D / 2) (set (set w (D + p) D) (D + partner p) D) (3 * D + n) (2 * p + k) (omega arith)
      ∙ drop-set-lt (3 * D + D / 2) (set w (D + p) D) (D + partner p) D (omega arith)
      ∙ drop-set-lt (3 * D + D / 2) w (D + p) D (omega arith)

pub operated_late : {D : ℕ} {w : List ℕ} (n k e : ℕ) → n < D / 2 → Bounds D w (2 * e) (2 * e + 1)
    → drop (3 * D + D / 2) (operated D n w k e) ≡ drop (3 * D + D / 2) w
unfolding operated
operated_late {D} {w} n k e few b =
    let p : ℕ = lead (kind_of k) w e in
    let l = lead_bounds D (kind_of k) w e b in
    noted_late (led D w (kind_of k) p) n k p few l.first l.second ∙ led_late w (kind_of k) p l

-- ---- a note

module _ (D n : ℕ) (w : List ℕ) (t v : ℕ) (few : n ≤ D / 2) where
  abbrev p : ℕ
  p = 3 * D + D / 2 + t

  note_table : table_in D (set w p v) ≡ table_in D w
  note_table = take-set-le D w p v (omega arith)

  note_past : past_in D n (set w p v) ≡ past_in D n w
  note_past =
      let e : p ≡ 3 * D + (D / 2 + t) = omega arith in
      let late : drop (3 * D) (set w p v) ≡ set (drop (3 * D) w) (D / 2 + t) v = rw e (drop-set-add (3 * D) w (D / 2 + t) v) in
      ap (λ l. reverse (take (3 * D + n - 3 * D) l)) late
      ∙ ap reverse (take-set-le (3 * D + n - 3 * D) (drop (3 * D) w) (D / 2 + t) v (omega arith))

  note_prev : (x : ℕ) → x < D → prev D (set w p v) x ≡ prev D w x
  unfolding prev
  note_prev x h = get_or-set_other w p (D + x) v 0 (λ e. omega arith)

  note_area : Area D n w → Area D n (set w p v)
  note_area A =
      area_of n (set w p v) note_past (room_kept w (set w p v) (length-set w p v) A.room) A.few A.numbers (rw note_table A.stands)
      (rw note_table (λ x h. note_prev x ((live_iff D (past_in D n w) x).0 h).0 ∙ A.known x h))
      (λ x l h. rw (note_prev x l) (A.gones x l h))

-- A NOTE CHANGES NOTHING THAT IS HELD
pub note_stays : {D n k : ℕ} {w : List ℕ} → Ready D n k w → (t v : ℕ) → t < D / 2 → Stays D n k w (set w (3 * D + D / 2 + t) v)
note_stays {D} {n} {k} {w} ρ t v l =
    let few = ρ.area.few in
    let i : ℕ = 3 * D + D / 2 + t in
    let forest : forest_in D (set w i v) ≡ forest_in D w = set_forest D w i v ρ.area.room.fits (inr (omega arith)) in
    record {
      ready = record {
        kind = ρ.kind;
        area = note_area D n w t v few ρ.area;
        falls = subst Falls (sym forest) ρ.falls;
        roots = rw (ap root forest, note_table D n w t v few, note_past D n w t v few) ρ.roots;
      };
      table = note_table D n w t v few;
      past = note_past D n w t v few;
      beyond = record { size = length-set w i v; rest = drop-set-lt (4 * D) w i v (omega arith) };
    }
