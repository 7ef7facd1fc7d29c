-- Numbers put into a lent slice, one list after another.
--   put_none    == before anything is laid
--   put_length  == the slice keeps its length
--   put_on      == one list more
--   put_one     == one number more
--   room_first, room_then == where two lists have room, each has at its place
use mathlib.Core.Path.{◌≡◌, refl, sym, ap, ◌∙◌}
use mathlib.Core.List.{List, [], ◌∷◌, ◌++◌}
use Prim.Native.Nat.{ℕ, ◌+◌, ◌<◌}
use native.Mathlib.Nat.{add_assoc, add-zero}
use native.Mathlib.Omega.{arith}
use lib.ListN.{length, set, length-append, take-append-drop}
use Rattle.slices.specs.Laid.{laid, Space}
use Rattle.slices.proofs.Laid.{laid_one, laid_length, laid_on}
use Rattle.slices.specs.Put.{Put}

pub put_none : (w : List ℕ) (at : ℕ) → Put w w at at []
unfolding laid
put_none w at = record { slice = rw (add-zero at) (sym (take-append-drop at w)); next = sym (add-zero at) }

pub room_first : {w : List ℕ} {at : ℕ} {xs : List ℕ} (ys : List ℕ) → Space w at (xs ++ ys) → Space w at xs
room_first {w} {at} {xs} ys room = record { fits = omega (arith, room.fits, length-append xs ys) }

module _ {w w' : List ℕ} {at r : ℕ} {xs : List ℕ} where
  pub put_length : Space w at xs → Put w w' at r xs → length w' ≡ length w
  put_length room p = ap length p.slice ∙ laid_length w at xs room

  pub put_on : {w'' : List ℕ} {s : ℕ} {ys : List ℕ} → Space w at xs → Put w w' at r xs → Put w' w'' r s ys → Put w w'' at s (xs ++ ys)
  put_on {w''} {s} {ys} room p q =
      record {
        slice = q.slice ∙ rw (p.slice, p.next) (laid_on w at xs room ys);
        next = q.next ∙ rw (p.next, length-append xs ys) (add_assoc at (length xs) (length ys));
      }

  pub put_one : (v : ℕ) → at + length xs < length w → Put w w' at r xs → Put w (set w' r v) at (r + 1) (xs ++ (v ∷ []))
  put_one v h p =
      let room : Space w at xs = record { fits = omega arith } in
      let size : length w' ≡ length w = put_length room p in
      let next : r ≡ at + length xs = p.next in
      put_on room p (record { slice = laid_one w' r v (omega arith); next = refl })

  pub room_then : (ys : List ℕ) → Space w at (xs ++ ys) → Put w w' at r xs → Space w' r ys
  room_then ys room p = record { fits = omega (arith, room.fits, put_length (room_first ys room) p, p.next, length-append xs ys) }
