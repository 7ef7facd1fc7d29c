-- What stands outside of the forest's part, where only that part has changed.
--   outside_refl    == nothing has changed
--   outside_trans   == one change after another
--   outside_room    == the four parts still fit
--   outside_front   == each number of the first two parts is as it was
--   outside_rest    == so is each number from the history's part on
--   outside_there   == so is who survives
--   outside_around  == so is the dart after x round its vertex or face
--   forest_length   == the forest's part has D numbers
--   forest_at       == the number at x in the forest's part
--   set_forest      == a store outside of the forest's part does not change it
--   set_outside     == a store in the forest's part changes nothing else
--   set_front, set_rest == the same store before the forest's part, or after it, in both
use mathlib.Core.Logic.{◌⊎◌, inl, inr}
use mathlib.Core.List.{List, [], ◌∷◌}
use mathlib.Core.Path.{◌≡◌, refl, sym, ap, ◌∙◌}
use Prim.Native.Nat.{ℕ, zero, suc, ◌+◌, ◌*◌, ◌≤◌, ◌<◌}
use native.Mathlib.Nat.{zero-add, suc-add}
use native.Mathlib.Omega.{arith}
use lib.Dec.{ltb}
use lib.ListN.{length, get_or, set, take, drop, length-set}
use lib.Seq.{get_or-take, get_or-drop, ext_get_or, get_or-set_other, take-set-le, drop-set-lt}
use Rattle.permutations.specs.Partner.{partner}
use Rattle.permutations.proofs.PartnerLemmas.{partner_below}
use Rattle.darts.specs.Map.{successor}
use Rattle.slices.proofs.Part.{part_length, part_at}
use Rattle.area.specs.Area.{Room, prev, there, forest_in, around}
use Rattle.operations.specs.Trees.{Outside}

pub outside_refl : (D : ℕ) (w : List ℕ) → Outside D w w
outside_refl D w = record { size = refl; front = refl; rest = refl }

pub outside_trans : {D : ℕ} {u v w : List ℕ} → Outside D u v → Outside D v w → Outside D u w
outside_trans o p =
    record { size = p.size ∙ o.size; front = p.front ∙ o.front; rest = p.rest ∙ o.rest }

module _ {D : ℕ} {w w' : List ℕ} (o : Outside D w w') where
  pub outside_room : Room D w → Room D w'
  outside_room r = record { even = r.even; some = r.some; small = r.small; fits = omega (arith, o.size, r.fits) }

  pub outside_front : (x : ℕ) → x < 2 * D → get_or w' x 0 ≡ get_or w x 0
  outside_front x h =
      sym (get_or-take (2 * D) w' x 0 h) ∙ ap (λ (l : List ℕ). get_or l x 0) o.front ∙ get_or-take (2 * D) w x 0 h

  pub outside_rest : (i : ℕ) → get_or w' (3 * D + i) 0 ≡ get_or w (3 * D + i) 0
  outside_rest i =
      sym (get_or-drop (3 * D) w' i 0) ∙ ap (λ (l : List ℕ). get_or l i 0) o.rest ∙ get_or-drop (3 * D) w i 0

  pub outside_there : (x : ℕ) → x < D → there D w' x ≡ there D w x
  unfolding there prev
  outside_there x h = ap (λ (n : ℕ). ltb n D) (outside_front (D + x) (omega arith))

  pub outside_around : Room D w → (k x : ℕ) → x < D → around k w' x ≡ around k w x
  unfolding around successor
  outside_around r k x h =
      rw (outside_front x (omega arith), outside_front (partner x) (omega (arith, partner_below D x h r.even)))

pub forest_length : (D : ℕ) (w : List ℕ) → 4 * D ≤ length w → length (forest_in D w) ≡ D
forest_length D w room = part_length (2 * D) (3 * D) w (omega arith) ∙ omega arith

pub forest_at : (D : ℕ) (w : List ℕ) (x : ℕ) → x < D → get_or (forest_in D w) x 0 ≡ get_or w (2 * D + x) 0
forest_at D w x h = part_at (2 * D) (3 * D) w x (omega arith)

pub set_forest : (D : ℕ) (w : List ℕ) (i v : ℕ) → 4 * D ≤ length w → (i < 2 * D) ⊎ (3 * D ≤ i) → forest_in D (set w i v) ≡ forest_in D w
set_forest D w i v room away =
    ext_get_or 0 (forest_in D (set w i v)) (forest_in D w)
    (forest_length D (set w i v) (simp length-set room) ∙ sym (forest_length D w room))
    (λ x h.
    let l : x < D = omega (arith, forest_length D (set w i v) (simp length-set room)) in
    forest_at D (set w i v) x l ∙ get_or-set_other w i (2 * D + x) v 0 (other x l away) ∙ sym (forest_at D w x l))
  where
    other : (x : ℕ) → x < D → (i < 2 * D) ⊎ (3 * D ≤ i) → 2 * D + x ≡ i → ⊥
    other x l (inl h) e = omega arith
    other x l (inr h) e = omega arith

pub set_outside : (D : ℕ) (w : List ℕ) (x v : ℕ) → x < D → Outside D w (set w (2 * D + x) v)
set_outside D w x v h =
    record {
      size = length-set w (2 * D + x) v;
      front = take-set-le (2 * D) w (2 * D + x) v (omega arith);
      rest = drop-set-lt (3 * D) w (2 * D + x) v (omega arith);
    }

take-set-lt : (n : ℕ) (l : List ℕ) (i v : ℕ) → i < n → take n (set l i v) ≡ set (take n l) i v
take-set-lt zero l i v h = absurd (omega arith)
take-set-lt (suc n) [] i v h = refl
take-set-lt (suc n) (x ∷ l) zero v h = refl
take-set-lt (suc n) (x ∷ l) (suc i) v h = ap (λ r. x ∷ r) (take-set-lt n l i v (omega arith))

drop_set_le : (n : ℕ) (l : List ℕ) (i v : ℕ) → drop n (set l (n + i) v) ≡ set (drop n l) i v
drop_set_le zero l i v = rw (zero-add i) refl
drop_set_le (suc n) [] i v = refl
drop_set_le (suc n) (x ∷ l) i v = rw (suc-add n i) (drop_set_le n l i v)

module _ {D : ℕ} {w w' : List ℕ} (o : Outside D w w') where
  pub set_front : (i v : ℕ) → i < 2 * D → Outside D (set w i v) (set w' i v)
  set_front i v h =
      record {
        size = length-set w' i v ∙ o.size ∙ sym (length-set w i v);
        front = take-set-lt (2 * D) w' i v h ∙ ap (λ l. set l i v) o.front ∙ sym (take-set-lt (2 * D) w i v h);
        rest = drop-set-lt (3 * D) w' i v (omega arith) ∙ o.rest ∙ sym (drop-set-lt (3 * D) w i v (omega arith));
      }

  pub set_rest : (i v : ℕ) → Outside D (set w (3 * D + i) v) (set w' (3 * D + i) v)
  set_rest i v =
      record {
        size = length-set w' (3 * D + i) v ∙ o.size ∙ sym (length-set w (3 * D + i) v);
        front = take-set-le (2 * D) w' (3 * D + i) v (omega arith) ∙ o.front ∙ sym (take-set-le (2 * D) w (3 * D + i) v (omega arith));
        rest = drop_set_le (3 * D) w' i v ∙ ap (λ l. set l i v) o.rest ∙ sym (drop_set_le (3 * D) w i v);
      }
