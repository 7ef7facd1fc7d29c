-- `writer::numbering::number_listed` meets its contract: each dart that is listed from here on has its first place from here on.
--   Placing D w₀ w left == that, with the bounds
use mathlib.Core.List.{List, ◌∷◌}
use mathlib.Core.Path.{◌≡◌, sym, ap, ◌∙◌}
use Prim.Native.Nat.{ℕ, suc, ◌+◌, ◌-◌, ◌*◌, ◌≤◌, ◌<◌}
use native.Mathlib.Decide.{ℕ_discrete}
use native.Mathlib.Omega.{arith}
use lib.ListN.{length, get_or, set, length-set}
use lib.Seq.{get_or-drop, get_or-set_same, get_or-set_other, take-set-le, drop-set-lt}
use Rattle.permutations.specs.Choice.{eqb_same, eqb_other}
use Rattle.darts.specs.File.{place_in}
use Rattle.slices.specs.Part.{part}
use Rattle.area.proofs.Parts.{part_cons}
use Rattle.writer.proofs.numbering.number_listed.Invariants.{Placing}
use Rattle.writer.proofs.numbering.number_listed.Goals as goal

-- the first place, once y stands before the others
first_place : {y x : ℕ} (ys : List ℕ) → x ≡ y → place_in (y ∷ ys) x ≡ 0
unfolding place_in
first_place ys e = rw (eqb_same e)

later_place : {y x : ℕ} (ys : List ℕ) → ¬ (x ≡ y) → place_in (y ∷ ys) x ≡ suc (place_in ys x)
unfolding place_in
later_place ys n = rw (eqb_other n)

module _ {D : ℕ} {w₀ w : List ℕ} {left : ℕ} (fits : 4 * D ≤ length w₀) (below : (i : ℕ) → i < D → get_or w₀ (2 * D + i) 0 < D) (g : Placing D w₀ w left) where
  module _ (more : 0 < left) {y : ℕ} (e : y ≡ get_or w (2 * D + (left - 1)) 0) where
    -- the list is as it was
    read : y ≡ get_or w₀ (2 * D + (left - 1)) 0
    read = e ∙ sym (get_or-drop (2 * D) w (left - 1) 0) ∙ ap (λ (z : List ℕ). get_or z (left - 1) 0) g.rest ∙ get_or-drop (2 * D) w₀ (left - 1) 0

    small : y < D
    small = rw read (below (left - 1) (omega (arith, g.bound)))

    go_on : Placing D w₀ (set w (D + y) (left - 1)) (left - 1)
    go_on = record {
      bound = omega (arith, g.bound);
      size = length-set w (D + y) (left - 1) ∙ g.size;
      table = take-set-le D w (D + y) (left - 1) (omega arith) ∙ g.table;
      rest = let s = small in drop-set-lt (2 * D) w (D + y) (left - 1) (omega arith) ∙ g.rest;
      places = λ x h. rw list (go x (ℕ_discrete x y) (rw list at h));
    }
      where
        later : List ℕ
        later = part (2 * D + left) (3 * D) w₀

        list : part (2 * D + (left - 1)) (3 * D) w₀ ≡ y ∷ part (2 * D + left) (3 * D) w₀
        list =
            let b = g.bound in
            let one : 2 * D + (left - 1) + 1 ≡ 2 * D + left = omega arith in
            rw (part_cons (2 * D + (left - 1)) (3 * D) w₀ (omega arith) (omega arith), ← read, one)

        go : (x : ℕ) → Dec (x ≡ y) → place_in (y ∷ later) x < D - (left - 1) → get_or (set w (D + y) (left - 1)) (D + x) 0 ≡ left - 1 + place_in (y ∷ later) x
        go x (yes k) h =
            let s = small in
            let z = g.size in
            rw (first_place later k, k) (get_or-set_same w (D + y) (left - 1) 0 (omega arith) ∙ omega arith)
        go x (no n) h =
            let m = later_place later n in
            get_or-set_other w (D + y) (D + x) (left - 1) 0 (λ k. n (omega arith)) ∙ g.places x (omega arith) ∙ omega arith

pub loop-i-preserved : goal.loop-i-preserved
loop-i-preserved c = go_on c.requires.room.fits c.requires.by_index c.loop-i.invariant c.loop-i-test.true c.at-x.ensures
