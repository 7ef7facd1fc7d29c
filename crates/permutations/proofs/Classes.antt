-- Counting the classes of an equivalence on a list of numbers.
--   classes r l     == how many classes r has on l: an element counts if r joins it to no later one
--   Equiv r         == r is an equivalence
--   joins r p q x y == r joins x and y once the classes of p and q are one
use mathlib.Core.Bool.{Bool, ◌||◌, ◌&&◌, true, or-true, false, or-false, and-true, or_comm, and_comm}
use mathlib.Core.List.{List, [], ◌∷◌, Permᴰ}
use mathlib.Core.Logic.Iff
use mathlib.Core.Logic.{◌↔◌, ◌⊎◌, ⊎_elim, inl, inr}
use mathlib.Core.Path.{◌≡◌, refl, ap₂, ap, subst, sym, ◌∙◌}
use Prim.Native.Nat.{ℕ, suc, ◌+◌}
use native.Mathlib.Numerals.{add-one}
use native.Mathlib.Omega.{arith}
use lib.Dec.{T}
use Rattle.permutations.specs.Choice.{pick, T→true, T-ext, true→T, or_iff, and_iff, or_intro, or_cases}
use Rattle.permutations.specs.Live.{any, has, any_ext, has_head, has_tail, any_perm, any_or, any_has}

unfoldable pub classes : (ℕ → ℕ → Bool) → List ℕ → ℕ
classes r [] = 0
classes r (x ∷ l) = pick (any (r x) l) (classes r l) (suc (classes r l))

pub record Equiv (r : ℕ → ℕ → Bool) : Type 0 where
  pub self : (x : ℕ) → T (r x x)
  pub flip : (x y : ℕ) → T (r x y) → T (r y x)
  pub chain : (x y z : ℕ) → T (r x y) → T (r y z) → T (r x z)

unfoldable pub joins : (ℕ → ℕ → Bool) → ℕ → ℕ → ℕ → ℕ → Bool
joins r p q x y = r x y || ((r x p || r x q) && (r y p || r y q))

-- ---- only what r says of the elements matters

pub classes_ext : (r s : ℕ → ℕ → Bool) (l : List ℕ) → ((x y : ℕ) → T (has l x) → T (has l y) → r x y ≡ s x y) → classes r l ≡ classes s l
unfolding classes
classes_ext r s [] e = refl
classes_ext r s (x ∷ l) e =
    ap₂ (λ b n. pick b n (suc n)) (any_ext (r x) (s x) l (λ y h. e x y (has_head x l) (has_tail x y l h)))
    (classes_ext r s l (λ y z h k. e y z (has_tail x y l h) (has_tail x z l k)))

-- ---- an element that r joins to another of the list can be left out

pub classes_drop : (r : ℕ → ℕ → Bool) (p : ℕ) (l : List ℕ) → T (any (r p) l) → classes r (p ∷ l) ≡ classes r l
unfolding classes
classes_drop r p l h = rw (T→true (any (r p) l) h)

-- ---- the order of the list does not matter

module _ {r : ℕ → ℕ → Bool} (E : Equiv r) where
  flip_eq : (x y : ℕ) → r x y ≡ r y x
  flip_eq x y = T-ext (r x y) (r y x) (E.flip x y) (E.flip y x)

  -- what r joins is joined to the same
  same_row : (x y : ℕ) → T (r x y) → (l : List ℕ) → any (r x) l ≡ any (r y) l
  same_row x y h l =
      any_ext (r x) (r y) l (λ z k. T-ext (r x z) (r y z) (E.chain y x z (E.flip x y h)) (E.chain x y z h))

  classes_swap : (x y : ℕ) (l : List ℕ) → classes r (x ∷ y ∷ l) ≡ classes r (y ∷ x ∷ l)
  unfolding classes any
  classes_swap x y l = rw (flip_eq y x) (go (r x y) refl (any (r x) l) (any (r y) l) refl refl)
    where
      go : (b : Bool) → r x y ≡ b → (c d : Bool) → any (r x) l ≡ c → any (r y) l ≡ d
          → pick (b || c) (pick d (classes r l) (suc (classes r l))) (suc (pick d (classes r l) (suc (classes r l))))
          ≡ pick (b || d) (pick c (classes r l) (suc (classes r l))) (suc (pick c (classes r l) (suc (classes r l))))
      go b e true true h k = rw (or-true b)
      go b e false false h k = refl
      go true e true false h k = absurd (subst T (sym h ∙ same_row x y (true→T e) l ∙ k) tt)
      go true e false true h k = absurd (subst T (sym (sym h ∙ same_row x y (true→T e) l ∙ k)) tt)
      go false e true false h k = refl
      go false e false true h k = refl

  pub classes_perm : {l m : List ℕ} → Permᴰ l m → classes r l ≡ classes r m
  unfolding classes
  classes_perm Permᴰ.nil = refl
  classes_perm (Permᴰ.cons {a} {b} {l₂ = m} e d) = rw (e, any_perm (r b) d, classes_perm d)
  classes_perm (Permᴰ.swap {a} {b} {l = l} e k) = classes_swap a b l ∙ ap₂ (λ x y. classes r (x ∷ y ∷ l)) k e
  classes_perm (Permᴰ.trans c d) = classes_perm c ∙ classes_perm d

-- ---- joining two classes takes one away

-- where e says what r is, this is what `joins` is
pub joins_iff : (r : ℕ → ℕ → Bool) {R : ℕ → ℕ → Type 0} → ((x y : ℕ) → T (r x y) ↔ R x y) → (p q x y : ℕ)
    → T (joins r p q x y) ↔ (R x y ⊎ ((R x p ⊎ R x q) × (R y p ⊎ R y q)))
unfolding joins
joins_iff r e p q x y =
    or_iff (r x y) ((r x p || r x q) && (r y p || r y q)) (e x y)
    (and_iff (r x p || r x q) (r y p || r y q) (or_iff (r x p) (r x q) (e x p) (e x q)) (λ h. or_iff (r y p) (r y q) (e y p) (e y q)))

add_left : (a b : Bool) (c d : ℕ) → c ≡ d + pick (a && b) 1 0 → pick a c (suc c) ≡ pick (a || b) d (suc d) + pick b 1 0
add_left true true c d e = e
add_left true false c d e = e
add_left false true c d e = omega arith
add_left false false c d e = omega arith

add_none : (k : Bool) (c d n : ℕ) → c ≡ d + n → pick k c (suc c) ≡ pick k d (suc d) + n
add_none true c d n e = e
add_none false c d n e = omega arith

module _ {r : ℕ → ℕ → Bool} (E : Equiv r) (p q : ℕ) where
  -- an element of p's class or q's is now joined to both classes
  row_joined : (x : ℕ) → T (r p x) ⊎ T (r q x) → (l : List ℕ) → any (joins r p q x) l ≡ (any (r p) l || any (r q) l)
  row_joined x o l = any_ext (joins r p q x) (λ z. r p z || r q z) l row ∙ any_or (r p) (r q) l
    where
      on : T (r x p) ⊎ T (r x q)
      on = ⊎_elim (λ t. inl (E.flip p x t)) (λ t. inr (E.flip q x t)) o

      row : (z : ℕ) → T (has l z) → joins r p q x z ≡ (r p z || r q z)
      row z k = T-ext (joins r p q x z) (r p z || r q z)
          (λ t. or_intro (r p z) (r q z) (⊎_elim
          (λ h. ⊎_elim (λ s. inl (E.chain p x z s h)) (λ s. inr (E.chain q x z s h)) o)
          (λ h. ⊎_elim (λ s. inl (E.flip z p s)) (λ s. inr (E.flip z q s)) h.1) ((joins_iff r (λ y z. Iff.rfl) p q x z).0 t)))
          (λ t. (joins_iff r (λ y z. Iff.rfl) p q x z).1 (inr (on, ⊎_elim (λ s. inl (E.flip p z s)) (λ s. inr (E.flip q z s)) (or_cases (r p z) (r q z) t))))

  -- any other is joined to the same as before
  row_other : (x : ℕ) → r p x ≡ false → r q x ≡ false → (l : List ℕ) → any (joins r p q x) l ≡ any (r x) l
  unfolding joins
  row_other x e k l = any_ext (joins r p q x) (r x) l (λ z h. rw (flip_eq E x p, e, flip_eq E x q, k) (or-false (r x z)))

  -- one class fewer, if both are on the list
  classes_fall : ¬ (T (r p q)) → (l : List ℕ) → classes r l ≡ classes (joins r p q) l + pick (any (r p) l && any (r q) l) 1 0
  unfolding classes any
  classes_fall apart [] = refl
  classes_fall apart (x ∷ l) = go (classes_fall apart l) (r p x) (r q x) refl refl
    where
      go : classes r l ≡ classes (joins r p q) l + pick (any (r p) l && any (r q) l) 1 0
          → (b c : Bool) → r p x ≡ b → r q x ≡ c
          → pick (any (r x) l) (classes r l) (suc (classes r l))
          ≡ pick (any (joins r p q x) l) (classes (joins r p q) l) (suc (classes (joins r p q) l)) + pick ((b || any (r p) l) && (c || any (r q) l)) 1 0
      go ih true true e k = absurd (apart (E.chain p x q (true→T e) (E.flip q x (true→T k))))
      go ih true false e k =
          rw (← same_row E p x (true→T e) l, row_joined x (inl (true→T e)) l)
          (add_left (any (r p) l) (any (r q) l) (classes r l) (classes (joins r p q) l) ih)
      go ih false true e k =
          rw (← same_row E q x (true→T k) l, row_joined x (inr (true→T k)) l, and-true, or_comm (any (r p) l) (any (r q) l))
          (add_left (any (r q) l) (any (r p) l) (classes r l) (classes (joins r p q) l)
          (ih ∙ ap (λ b. classes (joins r p q) l + pick b 1 0) (and_comm (any (r p) l) (any (r q) l))))
      go ih false false e k =
          rw (row_other x e k l)
          (add_none (any (r x) l) (classes r l) (classes (joins r p q) l) (pick (any (r p) l && any (r q) l) 1 0) ih)

  pub classes_join : ¬ (T (r p q)) → (l : List ℕ) → T (has l p) → T (has l q) → classes r l ≡ suc (classes (joins r p q) l)
  classes_join apart l hp hq =
      classes_fall apart l
      ∙ rw (T→true (any (r p) l) (any_has (r p) l p hp (E.self p)), T→true (any (r q) l) (any_has (r q) l q hq (E.self q))) (add-one (classes (joins r p q) l))
