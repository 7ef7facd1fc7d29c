-- A part of a longer list, lent and put back.
--   part_length   == the part has e - a numbers
--   take_part     == all of it is taken
--   part_at       == what stands at i in the part stands at a + i in l
--   part_put      == the part that was put there is there
--   put_length    == l has kept its length
--   put_outside   == what stands before a, or from e on, has not changed
--   put_elsewhere == a part that lies before a, or from e on, has not changed
use mathlib.Core.Path.{◌≡◌, sym, ap, ◌∙◌}
use mathlib.Core.Logic.{◌⊎◌, inl, inr, ⊎_elim}
use mathlib.Core.List.{List, ◌++◌}
use Prim.Native.Nat.{ℕ, ◌+◌, ◌-◌, ◌≤◌, ◌<◌}
use native.Mathlib.Omega.{arith}
use lib.ListN.{length, get_or, take, drop, length-take, length-drop}
use lib.Seq.{take_all, take_at, drop_at, length-take-le, get_or-take, get_or-drop, ext_get_or}
use borrow.Rule.Slice.PartMut.{post_of, mid_len, same_len_mid, take_put, drop_put}
use Rattle.slices.specs.Part.{part, put}

pub part_length : (a e : ℕ) (l : List ℕ) → e ≤ length l → length (part a e l) ≡ e - a
part_length a e l inside = mid_len a e l inside

pub take_part : (a m : ℕ) (w : List ℕ) → a + m ≤ length w → take m (part a (a + m) w) ≡ part a (a + m) w
take_part a m w fits = take_all m (part a (a + m) w) (omega (arith, part_length a (a + m) w fits))

pub part_at : (a e : ℕ) (l : List ℕ) (i : ℕ) → i < e - a → get_or (part a e l) i 0 ≡ get_or l (a + i) 0
part_at a e l i h = get_or-take (e - a) (drop a l) i 0 h ∙ get_or-drop a l i 0

module _ (a e : ℕ) (l : List ℕ) (order : a ≤ e) (inside : e ≤ length l) where
  module _ (t : List ℕ) (size : length t ≡ e - a) where
    pub part_put : part a e (put a e l t) ≡ t
    part_put =
        ap (take (e - a)) (drop_at (take a l) (t ++ post_of a (e - a) l) a (length-take-le a l (omega arith)))
        ∙ take_at t (post_of a (e - a) l) (e - a) size

    pub put_length : length (put a e l t) ≡ length l
    put_length = same_len_mid a (e - a) l t (size ∙ sym (part_length a e l inside))

    pub put_outside : (i : ℕ) → (i < a) ⊎ (e ≤ i) → get_or (put a e l t) i 0 ≡ get_or l i 0
    put_outside i (inl h) =
        sym (get_or-take a (put a e l t) i 0 h)
        ∙ ap (λ (z : List ℕ). get_or z i 0) (take_put a (e - a) l t (omega arith))
        ∙ get_or-take a l i 0 h
    put_outside i (inr h) =
        let k : i ≡ e + (i - e) = omega arith in
        rw k
        (sym (get_or-drop e (put a e l t) (i - e) 0)
        ∙ ap (λ (z : List ℕ). get_or z (i - e) 0) (drop_put a e l t order inside size)
        ∙ get_or-drop e l (i - e) 0)

    pub put_elsewhere : (b f : ℕ) → (f ≤ a) ⊎ (e ≤ b) → part b f (put a e l t) ≡ part b f l
    put_elsewhere b f away =
        ext_get_or 0 (part b f (put a e l t)) (part b f l)
        (simp (length-take, length-drop, put_length))
        (λ i h.
        let k : i < f - b = omega (arith, length-take (f - b) (drop b (put a e l t))) in
        part_at b f (put a e l t) i k
        ∙ put_outside (b + i) (⊎_elim (λ m. inl (omega arith)) (λ m. inr (omega arith)) away)
        ∙ sym (part_at b f l i k))
