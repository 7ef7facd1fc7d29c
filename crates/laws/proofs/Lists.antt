-- A property of each of a list, lists in another order, and map beside take, drop and reverse.
--   Each P xs   == P holds of each of xs
--   perm_length == another order has the same length
use mathlib.Core.List.{List, [], ◌∷◌, ◌++◌, map, reverse, reverse_aux, reverse-append, reverse-reverse, Permᴰ}
use mathlib.Core.Path.{◌≡◌, refl, sym, ap, ◌∙◌}
use mathlib.Mathlib.Data.List.Basic.{map-reverse_aux}
use Prim.Native.Nat.{ℕ, zero, suc, ◌<◌}
use native.Mathlib.Omega.{arith}
use lib.ListN.{length, get_or, take, drop}

abbrev pub Each : {A : Type 0} → (A → Type 0) → List A → Type 0
Each P [] = Unit {0}
Each P (x ∷ xs) = P x × Each P xs

-- place by place
pub each_at : (P : ℕ → Type 0) (l : List ℕ) → ((i : ℕ) → i < length l → P (get_or l i 0)) → Each P l
each_at P [] f = tt
each_at P (x ∷ l) f = (f 0 (omega arith), each_at P l (λ i h. f (suc i) (omega arith)))

pub each_reverse : (P : ℕ → Type 0) (l r : List ℕ) → Each P l → Each P r → Each P (reverse_aux l r)
each_reverse P [] r a b = b
each_reverse P (x ∷ l) r a b = each_reverse P l (x ∷ r) a.1 (a.0, b)

pub perm_length : {A : Type 0} {l k : List A} → Permᴰ l k → length l ≡ length k
perm_length Permᴰ.nil = refl
perm_length (Permᴰ.cons e p) = ap suc (perm_length p)
perm_length (Permᴰ.swap e f) = refl
perm_length (Permᴰ.trans p q) = perm_length p ∙ perm_length q

-- the history of a past that goes on
pub reverse_onto : (numbers past : List ℕ) → reverse (reverse numbers ++ past) ≡ reverse past ++ numbers
reverse_onto numbers past = reverse-append (reverse numbers) past ∙ ap (λ l. reverse past ++ l) (reverse-reverse numbers)

module _ (f : ℕ → ℕ) where
  pub take_map : (n : ℕ) (l : List ℕ) → take n (map f l) ≡ map f (take n l)
  take_map zero l = refl
  take_map (suc n) [] = refl
  take_map (suc n) (x ∷ l) = ap (λ r. f x ∷ r) (take_map n l)

  pub drop_map : (n : ℕ) (l : List ℕ) → drop n (map f l) ≡ map f (drop n l)
  drop_map zero l = refl
  drop_map (suc n) [] = refl
  drop_map (suc n) (x ∷ l) = drop_map n l

  pub reverse_map : (l : List ℕ) → reverse (map f (reverse l)) ≡ map f l
  reverse_map l = sym (map-reverse_aux f (reverse l) []) ∙ ap (map f) (reverse-reverse l)
