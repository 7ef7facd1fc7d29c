-- Numbers laid into a lent slice.
--   laid_one    == a number that is stored is laid
--   laid_length == the slice keeps its length
--   laid_on     == what is laid after what was laid is laid with it
--   laid_rest   == what stands past it stays
--   laid_front  == so does what stands before it
--   laid_early  == a part that ends before it, too
--   laid_there  == and it is where it was laid
--   laid_at     == number by number
--   laid_before == a number that is stored just before what was laid is laid with it
--   laid_over   == what is laid at the front is laid over
--   laid_part   == numbers copied over the front of a lent part are laid from where the part begins
use mathlib.Core.Path.{◌≡◌, sym, ap, ◌∙◌}
use mathlib.Core.List.{List, [], ◌∷◌, ◌++◌, append_assoc}
use Prim.Native.Nat.{ℕ, suc, ◌+◌, ◌-◌, ◌≤◌, ◌<◌}
use native.Mathlib.Nat.{add_assoc, zero-add}
use native.Mathlib.Numerals.{add-one}
use native.Mathlib.Omega.{arith}
use lib.ListN.{length, get_or, take, drop, set, length-append, length-take, length-drop, take-append-drop, get_or-append}
use lib.Seq.{set_split, take_at, drop_at, take-append-le, take-append_seam, take-take, take-add, length-take-le, drop-append-add, drop-append-le, drop-drop, get_or-drop}
use Rattle.slices.specs.Over.{over}
use Rattle.slices.specs.Part.{part, put}
use Rattle.slices.specs.Laid.{laid, Space}

-- a part is what the front of the list has from its place on
part_front : (a e : ℕ) (l : List ℕ) → a ≤ e → e ≤ length l → drop a (take e l) ≡ part a e l
part_front a e l h inside =
    let k : e ≡ a + (e - a) = omega arith in
    ap (drop a) (ap (λ m. take m l) k ∙ take-add a (e - a) l) ∙ drop_at (take a l) (part a e l) a (length-take-le a l (omega arith))

module _ (w : List ℕ) (at : ℕ) where
  pub laid_one : (v : ℕ) → at < length w → set w at v ≡ laid w at (v ∷ [])
  unfolding laid
  laid_one v h = set_split w at v h ∙ rw (add-one at)

  module _ (xs : List ℕ) (room : Space w at xs) where
    pub laid_length : length (laid w at xs) ≡ length w
    unfolding laid
    laid_length = simp (length-append, length-take, length-drop) (omega (arith, room.fits))

    -- up to the end of what was laid
    abbrev front : List ℕ
    front = take at w ++ xs

    front_length : length front ≡ at + length xs
    front_length = simp (length-append, length-take) (omega arith)

    pub laid_on : (ys : List ℕ) → laid (laid w at xs) (at + length xs) ys ≡ laid w at (xs ++ ys)
    unfolding laid
    laid_on ys =
        let rest : List ℕ = drop (at + length xs) w in
        let split : take at w ++ (xs ++ rest) ≡ front ++ rest = sym (append_assoc (take at w) xs rest) in
        let early : take (at + length xs) (front ++ rest) ≡ front = take_at front rest (at + length xs) front_length in
        let late : drop (at + length xs + length ys) (front ++ rest) ≡ drop (at + length (xs ++ ys)) w =
        ap (λ (n : ℕ). drop (n + length ys) (front ++ rest)) (sym front_length)
        ∙ drop-append-add front rest (length ys)
        ∙ drop-drop (length ys) (at + length xs) w
        ∙ ap (λ (n : ℕ). drop n w) (add_assoc at (length xs) (length ys) ∙ ap (λ (n : ℕ). at + n) (sym (length-append xs ys))) in
        rw split (rw (early, late) (simp append_assoc))

    pub laid_rest : (n : ℕ) → at + length xs ≤ n → drop n (laid w at xs) ≡ drop n w
    unfolding laid
    laid_rest n past =
        let rest : List ℕ = drop (at + length xs) w in
        let more : ℕ = n - (at + length xs) in
        let all : n ≡ at + length xs + more = omega arith in
        let here : n ≡ length front + more = all ∙ ap (λ (k : ℕ). k + more) (sym front_length) in
        ap (drop n) (sym (append_assoc (take at w) xs rest))
        ∙ ap (λ (k : ℕ). drop k (front ++ rest)) here
        ∙ drop-append-add front rest more
        ∙ drop-drop more (at + length xs) w
        ∙ ap (λ (k : ℕ). drop k w) (sym all)

    pub laid_front : (n : ℕ) → n ≤ at → take n (laid w at xs) ≡ take n w
    unfolding laid
    laid_front n h =
        take-append-le n (take at w) (xs ++ drop (at + length xs) w) (simp length-take (omega arith)) ∙ take-take n at w h

    from_there : drop at (laid w at xs) ≡ xs ++ drop (at + length xs) w
    unfolding laid
    from_there = drop_at (take at w) (xs ++ drop (at + length xs) w) at (length-take-le at w (omega (arith, room.fits)))

    pub laid_there : part at (at + length xs) (laid w at xs) ≡ xs
    laid_there =
        let size : at + length xs - at ≡ length xs = omega arith in
        rw (size, from_there) (take-append_seam xs (drop (at + length xs) w))

    pub laid_at : (i : ℕ) → i < length xs → get_or (laid w at xs) (at + i) 0 ≡ get_or xs i 0
    laid_at i h = sym (get_or-drop at (laid w at xs) i 0) ∙ rw from_there (get_or-append xs (drop (at + length xs) w) 0 i h)

    pub laid_early : (m e : ℕ) → m ≤ e → e ≤ at → part m e (laid w at xs) ≡ part m e w
    laid_early m e h k =
        sym (part_front m e (laid w at xs) h (rw laid_length (omega (arith, room.fits)))) ∙ ap (drop m) (laid_front e k)
        ∙ part_front m e w h (omega (arith, room.fits))

-- what was laid, and what stands behind it
laid_behind : (w : List ℕ) (p v : ℕ) (xs : List ℕ) → Space w (p + 1) xs → take p w ++ (v ∷ drop (suc p) (laid w (p + 1) xs)) ≡ laid w p (v ∷ xs)
unfolding laid
laid_behind w p v xs later =
    let there : drop (p + 1) (take (p + 1) w ++ (xs ++ drop (p + 1 + length xs) w)) ≡ xs ++ drop (p + 1 + length xs) w =
    drop_at (take (p + 1) w) (xs ++ drop (p + 1 + length xs) w) (p + 1) (length-take-le (p + 1) w (omega (arith, later.fits))) in
    let one : suc p ≡ p + 1 = sym (add-one p) in
    let far : p + 1 + length xs ≡ p + suc (length xs) = omega arith in
    rw (one, there, far)

pub laid_before : (w : List ℕ) (p v : ℕ) (xs : List ℕ) → Space w p (v ∷ xs) → set (laid w (p + 1) xs) p v ≡ laid w p (v ∷ xs)
laid_before w p v xs room =
    let later : Space w (p + 1) xs = record { fits = omega (arith, room.fits) } in
    let size : length (laid w (p + 1) xs) ≡ length w = laid_length w (p + 1) xs later in
    set_split (laid w (p + 1) xs) p v (omega (arith, room.fits))
    ∙ rw (laid_front w (p + 1) xs later p (omega arith)) (laid_behind w p v xs later)

pub laid_over : (w xs : List ℕ) → laid w 0 xs ≡ over xs w
unfolding over laid
laid_over w xs = rw zero-add

-- what is left of a part, and what comes after it
rest : (n k : ℕ) (l : List ℕ) → n ≤ k → k ≤ length l → drop n (take k l) ++ drop k l ≡ drop n l
rest n k l h inside =
    sym (drop-append-le n (take k l) (drop k l) (simp length-take (omega arith))) ∙ ap (drop n) (take-append-drop k l)

module _ (w : List ℕ) (a e : ℕ) (inside : e ≤ length w) where
  pub laid_part : (xs : List ℕ) → a + length xs ≤ e → put a e w (over xs (part a e w)) ≡ laid w a xs
  unfolding over laid
  laid_part xs fits =
      ap (λ (z : List ℕ). take a w ++ z)
      (append_assoc xs (drop (length xs) (part a e w)) (drop (e - a) (drop a w))
      ∙ ap (λ (z : List ℕ). xs ++ z)
      (rest (length xs) (e - a) (drop a w) (omega arith) (simp length-drop (omega arith)) ∙ drop-drop (length xs) a w))
