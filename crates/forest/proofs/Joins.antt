-- What a find and a join do to "has the same root", for callers: they cite these laws, and not the text of `linked`.
--
--   linked_higher == the higher of two joined roots gives way to the lower
--   linked_other  == any other root stays
--   linked_self   == a root joined with itself: nothing changes
--   find_keeps    == after a find every number has the root that it had
--   join_turned   == it does not matter which of the two numbers of a join is named first
--   join_merges   == after a join two numbers have the same root exactly where they had before, or where each belonged to x or to y
--   join_apart    == before a join that answers yes there were two roots
--   join_together == before a join that answers no there was one
--   join_no_keeps == after a join that answers no every number has the root that it had
use mathlib.Core.Path.{◌≡◌, sym, ap, ◌∙◌, fun_ext}
use mathlib.Core.Logic.{◌≢◌, ◌⊎◌, inl, inr, ⊎_elim, ◌↔◌, by_cases}
use mathlib.Core.Bool.{Bool, true, false, not, not-not}
use mathlib.Core.List.{List}
use Prim.Native.Nat.{ℕ, min, max}
use native.Mathlib.Omega.{arith}
use native.Mathlib.Decide.{ℕ_discrete}
use lib.Dec.{eqb}
use borrow.Author.Tests.{eqb-true, eqb-false, eq-eqb, ne_eqb}
use Rattle.forest.specs.Forest.{root, linked, apart, Found, Joined}

module _ (u v : ℕ) where
  pub linked_higher : (r : ℕ) → r ≡ max u v → linked u v r ≡ min u v
  unfolding linked
  linked_higher r e = rw (eq-eqb r (max u v) e)

  pub linked_other : (r : ℕ) → r ≢ max u v → linked u v r ≡ r
  unfolding linked
  linked_other r n = rw (ne_eqb r (max u v) n)

  linked_turned : (r : ℕ) → linked u v r ≡ linked v u r
  unfolding linked
  linked_turned r =
      let higher : max u v ≡ max v u = omega arith in
      let lower : min u v ≡ min v u = omega arith in
      rw (higher, lower)

  -- the two roots, and no others, become the lower of them
  abbrev Among : ℕ → Type 0
  Among r = (r ≡ u) ⊎ (r ≡ v)

  among_lower : (r : ℕ) → Among r → linked u v r ≡ min u v
  among_lower r a = by_cases (ℕ_discrete r (max u v)) (linked_higher r) (λ n. linked_other r n ∙ ⊎_elim (λ e. omega arith) (λ e. omega arith) a)

  lower_among : (r : ℕ) → linked u v r ≡ min u v → Among r
  lower_among r h = by_cases (ℕ_discrete r u) inl (λ n. by_cases (ℕ_discrete r v) inr (λ m. absurd (omega (arith, linked_other r (omega arith)))))

  linked_same : (r s : ℕ) → (linked u v r ≡ linked u v s) ↔ ((r ≡ s) ⊎ (Among r × Among s))
  linked_same r s = (there (ℕ_discrete r (max u v)) (ℕ_discrete s (max u v)), back)
    where
      both : linked u v r ≡ min u v → linked u v s ≡ min u v → (r ≡ s) ⊎ (Among r × Among s)
      both g h = inr (lower_among r g, lower_among s h)

      there : Dec (r ≡ max u v) → Dec (s ≡ max u v) → linked u v r ≡ linked u v s → (r ≡ s) ⊎ (Among r × Among s)
      there (yes e) _ h = both (linked_higher r e) (sym h ∙ linked_higher r e)
      there (no n) (yes e) h = both (h ∙ linked_higher s e) (linked_higher s e)
      there (no n) (no m) h = inl (sym (linked_other r n) ∙ h ∙ linked_other s m)

      back : (r ≡ s) ⊎ (Among r × Among s) → linked u v r ≡ linked u v s
      back (inl e) = ap (linked u v) e
      back (inr a) = among_lower r a.0 ∙ sym (among_lower s a.1)

pub linked_self : (u r : ℕ) → linked u u r ≡ r
linked_self u r =
    by_cases (ℕ_discrete r (max u u))
    (λ e. linked_higher u u r e ∙ omega arith)
    (linked_other u u r)

apart_turned : (t : List ℕ) (x y : ℕ) → apart t x y ≡ apart t y x
unfolding apart
apart_turned t x y =
    by_cases (ℕ_discrete (root t x) (root t y))
    (λ e. rw (eq-eqb (root t x) (root t y) e, eq-eqb (root t y) (root t x) (sym e)))
    (λ n. rw (ne_eqb (root t x) (root t y) n, ne_eqb (root t y) (root t x) (λ e. n (sym e))))

pub find_keeps : {t t' : List ℕ} {x r : ℕ} → Found t t' x r → root t' ≡ root t
find_keeps found = fun_ext found.roots

module _ {t t' : List ℕ} {x y : ℕ} where
  pub join_turned : {r : Bool} → Joined t t' x y r → Joined t t' y x r
  join_turned joined =
      record {
        answer = joined.answer ∙ apart_turned t x y;
        roots = λ z. joined.roots z ∙ linked_turned (root t x) (root t y) (root t z);
        falls = joined.falls;
        size = joined.size;
      }

  pub join_merges : {r : Bool} → Joined t t' x y r → (z w : ℕ)
      → (root t' z ≡ root t' w)
      ↔ ((root t z ≡ root t w) ⊎ (((root t z ≡ root t x) ⊎ (root t z ≡ root t y)) × ((root t w ≡ root t x) ⊎ (root t w ≡ root t y))))
  join_merges joined z w = rw (joined.roots z, joined.roots w) (linked_same (root t x) (root t y) (root t z) (root t w))

  -- whether the roots are one, read off the answer
  one_root : {r : Bool} → Joined t t' x y r → eqb (root t x) (root t y) ≡ not r
  unfolding apart
  one_root joined = sym (ap not joined.answer ∙ not-not (eqb (root t x) (root t y)))

  pub join_apart : Joined t t' x y true → root t x ≢ root t y
  join_apart joined = eqb-false (root t x) (root t y) (one_root joined)

  pub join_together : Joined t t' x y false → root t x ≡ root t y
  join_together joined = eqb-true (root t x) (root t y) (one_root joined)

  pub join_no_keeps : Joined t t' x y false → root t' ≡ root t
  join_no_keeps joined = fun_ext (λ z. joined.roots z ∙ rw (join_together joined) (linked_self (root t y) (root t z)))
