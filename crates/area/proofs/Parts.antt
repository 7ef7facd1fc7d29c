-- Parts of a list, as `part` has them.
--
--   part_cons  == a part that begins at i: the number at i, then the part from i + 1 on
--   part_none  == a part that ends where it begins has no numbers
--   part_inner == a part of a part is a part
use mathlib.Core.List.{List, [], ◌∷◌}
use mathlib.Core.Path.{◌≡◌, sym, ap, ◌∙◌}
use Prim.Native.Nat.{ℕ, suc, ◌+◌, ◌-◌, ◌≤◌, ◌<◌}
use native.Mathlib.Numerals.{add-one}
use native.Mathlib.Omega.{arith}
use lib.ListN.{length, get_or}
use lib.Seq.{drop-cons, ext_get_or}
use Rattle.slices.specs.Part.{part}
use Rattle.slices.proofs.Part.{part_length, part_at}

pub part_cons : (i e : ℕ) (l : List ℕ) → i < e → e ≤ length l → part i e l ≡ get_or l i 0 ∷ part (i + 1) e l
part_cons i e l more inside =
    let one : e - i ≡ suc (e - (i + 1)) = omega arith in
    let here : i < length l = omega arith in
    rw (one, drop-cons l i 0 here, add-one i)

pub part_none : (i e : ℕ) (l : List ℕ) → e ≤ i → part i e l ≡ []
part_none i e l none = let zero : e - i ≡ 0 = omega arith in rw zero

pub part_inner : (a b f e : ℕ) (l : List ℕ) → a + e ≤ b → b ≤ length l → part f e (part a b l) ≡ part (a + f) (a + e) l
part_inner a b f e l inner inside =
    let outer = part_length a b l inside in
    let left : length (part f e (part a b l)) ≡ e - f = part_length f e (part a b l) (omega arith) in
    let right : length (part (a + f) (a + e) l) ≡ a + e - (a + f) = part_length (a + f) (a + e) l (omega arith) in
    let both : e - f ≡ a + e - (a + f) = omega arith in
    ext_get_or 0 (part f e (part a b l)) (part (a + f) (a + e) l)
    (left ∙ both ∙ sym right)
    (λ i h.
    let k : i < e - f = rw left at h in
    let j : a + (f + i) ≡ a + f + i = omega arith in
    part_at f e (part a b l) i k
    ∙ part_at a b l (f + i) (omega arith)
    ∙ ap (λ (n : ℕ). get_or l n 0) j
    ∙ sym (part_at (a + f) (a + e) l i (omega arith)))
