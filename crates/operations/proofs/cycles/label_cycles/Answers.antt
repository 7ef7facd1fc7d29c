-- `operations::cycles::label_cycles` meets its contract: at each turn the classes of the first i darts have their lowest darts as parents,
-- and n counts the roots among these darts.
--
--   Labelling D k w₀ w n i == so far, from w₀ to w
--   roots_same           == the roots among the first darts, where their parents stay
--   turn_gone            == a gone dart is alone on its cycle, and its own parent
--   turn_child           == a dart that a lower one has reached
--   turn_root            == a survivor that none has reached, and its cycle marked
use mathlib.Core.List.{List}
use mathlib.Core.Bool.{Bool, true, false, ◌&&◌}
use mathlib.Core.Logic.{◌≢◌, inl, inr, ⊎_elim, by_cases}
use mathlib.Core.Path.{◌≡◌, refl, sym, ap, ◌∙◌, subst}
use Prim.Native.Nat.{ℕ, zero, suc, ◌+◌, ◌*◌, ◌≤◌, ◌<◌}
use native.Mathlib.Decide.{ℕ_discrete}
use native.Mathlib.Numerals.{add-one}
use native.Mathlib.Omega.{arith}
use lib.ListN.{get_or}
use borrow.Author.Tests.{lt-ltb, le-ltb, eq-eqb, ne_eqb}
use Rattle.permutations.specs.Perm.{Perm}
use Rattle.permutations.specs.Cycle.{Meets, meets_refl, meets_sym, meets_ind}
use Rattle.forest.specs.Forest.{Fresh}
use Rattle.forest.specs.Lowest.{Marked, lowest_fresh, lowest_passed, lowest_marked}
use Rattle.area.specs.Area.{prev, there, Room, forest_in}
use Rattle.operations.specs.Trees.{Outside}
use Rattle.operations.specs.Count.{roots_in}
use Rattle.operations.specs.Cycles.{step_in, MarkedIn}
use Rattle.operations.proofs.Outside.{outside_refl, outside_trans, outside_front, outside_there, forest_at}
use Rattle.operations.proofs.Steps.{step_stays, outside_step, cycle_classes}
use Rattle.operations.proofs.cycles.label_cycles.Invariants.{Labelling}
use Rattle.operations.proofs.cycles.label_cycles.Goals as goal
use Rattle.operations.proofs.cycles.label_cycles.Goals.{then-at-i+then-at-d, else-at-i, else-at-i-via-then-at-i+else-at-d, else-at-i-via-else-at-i}

and_none : (b : Bool) → (b && false) ≡ false
and_none true = refl
and_none false = refl

begin : {D k : ℕ} {w : List ℕ} → Perm D (step_in D k w) → Fresh D (forest_in D w) → Labelling D k w w 0 0
unfolding roots_in
begin {D} {k} {w} π fresh =
    record { low = omega arith; few = omega arith; sum = refl; outside = outside_refl D w; lowest = lowest_fresh (cycle_classes π) fresh }

roots_same : {D : ℕ} {w w' : List ℕ} → (m : ℕ) → m ≤ D → Outside D w w' → ((x : ℕ) → x < m → get_or w' (2 * D + x) 0 ≡ get_or w (2 * D + x) 0)
    → roots_in D w' m ≡ roots_in D w m
unfolding roots_in
roots_same zero h o same = refl
roots_same {D} {w} {w'} (suc m) h o same =
    rw (outside_there o m (omega arith), same m (omega arith), roots_same m (omega arith) o (λ x l. same x (omega arith))) refl

module _ {D k : ℕ} {w₀ w : List ℕ} {n i : ℕ} (room : Room D w₀) (π : Perm D (step_in D k w₀)) (now : Labelling D k w₀ w n i) (more : i < D) where
  same_perm : Perm D (step_in D k w)
  same_perm = subst (Perm D) (sym (outside_step now.outside room k)) π

  turn_child : get_or w (2 * D + i) 0 ≢ i → Labelling D k w₀ w n (i + 1)
  unfolding roots_in
  turn_child other =
      record {
        low = omega arith;
        few = omega (arith, now.few);
        sum = rw (add-one i, ne_eqb (get_or w (2 * D + i) 0) i other, and_none (there D w i)) now.sum;
        outside = now.outside;
        lowest = lowest_passed (cycle_classes π) now.lowest more (λ e. other (sym (forest_at D w i more) ∙ e));
      }

  -- the darts below i are on other cycles
  below_kept : get_or w (2 * D + i) 0 ≡ i → {w' : List ℕ} → MarkedIn D k i w w' → (x : ℕ) → x < i → get_or w' (2 * D + x) 0 ≡ get_or w (2 * D + x) 0
  below_kept own {w'} m x l =
      let M = subst (λ f. Marked (Meets f) D i (forest_in D w) (forest_in D w')) (outside_step now.outside room k) m.marked in
      let inside : x < D = omega arith in
      ⊎_elim
      (λ s. let q = now.lowest.low i x more l (meets_sym π s.0) in absurd (omega (arith, forest_at D w i more, own)))
      (λ s. sym (forest_at D w' x inside) ∙ s.1 ∙ forest_at D w x inside)
      (M.each x inside)

  still_own : {w' : List ℕ} → MarkedIn D k i w w' → get_or w' (2 * D + i) 0 ≡ i
  still_own {w'} m = sym (forest_at D w' i more) ∙ ⊎_elim (λ s. s.1) (λ s. absurd (s.0 (meets_refl (step_in D k w) i))) (m.marked.each i more)

  turn_root : get_or w (D + i) 0 < D → get_or w (2 * D + i) 0 ≡ i → {w' : List ℕ} → MarkedIn D k i w w' → Labelling D k w₀ w' (n + 1) (i + 1)
  unfolding roots_in there prev
  turn_root here own {w'} m =
      record {
        low = omega arith;
        few = omega (arith, now.few);
        sum = rw (add-one i, outside_front m.outside (D + i) (omega arith), lt-ltb (get_or w (D + i) 0) D here, eq-eqb (get_or w' (2 * D + i) 0) i (still_own m), add-one n)
            (ap suc (now.sum ∙ sym (roots_same i (omega arith) m.outside (below_kept own m))));
        outside = outside_trans now.outside m.outside;
        lowest = lowest_marked (cycle_classes π) now.lowest more (forest_at D w i more ∙ own)
            (subst (λ f. Marked (Meets f) D i (forest_in D w) (forest_in D w')) (outside_step now.outside room k) m.marked);
      }

  module _ (gone : D ≤ get_or w (D + i) 0) where
    stays : step_in D k w₀ i ≡ i
    stays = step_stays k w₀ more (omega (arith, outside_front now.outside (D + i) (omega arith)))

    alone : {z : ℕ} → Meets (step_in D k w₀) i z → z ≡ i
    alone m = meets_ind (step_in D k w₀) (λ z. z ≡ i) (λ z e. rw e stays) m refl

    own_parent : get_or (forest_in D w) i 0 ≡ i
    own_parent = alone (now.lowest.member i more)

    marked_alone : Marked (Meets (step_in D k w₀)) D i (forest_in D w) (forest_in D w)
    marked_alone =
        record {
          size = refl;
          each = λ z l.
              by_cases (ℕ_discrete z i)
              (λ e. inl (rw e (meets_refl (step_in D k w₀) i), rw e own_parent))
              (λ n. inr (λ m. n (alone (meets_sym π m)), refl));
        }

    turn_gone : Labelling D k w₀ w n (i + 1)
    unfolding roots_in there prev
    turn_gone =
        record {
          low = omega arith;
          few = omega (arith, now.few);
          sum = rw (add-one i, le-ltb (get_or w (D + i) 0) D gone) now.sum;
          outside = now.outside;
          lowest = lowest_marked (cycle_classes π) now.lowest more own_parent marked_alone;
        }

pub loop-i-init : goal.loop-i-init
loop-i-init c = begin c.requires.perm c.requires.fresh

pub label_cycle-requires-clause-perm : goal.label_cycle-requires-clause-perm
label_cycle-requires-clause-perm c = same_perm c.requires.room c.requires.perm c.loop-i.invariant c.loop-i-test.true

pub loop-i-preserved : goal.loop-i-preserved
loop-i-preserved c =
    let room = c.requires.room in
    let π = c.requires.perm in
    let l = c.loop-i.invariant in
    elim c.if-at-i.branch [
      | then-at-i+then-at-d w ↦ rw (w.work-is, w.n-is) (turn_root room π l c.loop-i-test.true (omega arith) (omega arith) w.label_cycle.ensures)
      | else-at-i w ↦ rw (w.work-is, w.n-is) (elim w.else-at-i.branch [
        | else-at-i-via-then-at-i+else-at-d v ↦ turn_gone room π l c.loop-i-test.true (omega arith)
        | else-at-i-via-else-at-i v ↦ turn_child room π l c.loop-i-test.true (λ e. v.if-at-i.false (c.at.ensures ∙ e))
      ])
    ]
