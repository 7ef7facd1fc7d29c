-- The members of a list of numbers, and lists without repetition.
--   Distinct l       == no number stands in l twice
--   has_cons, has_append == the members of a list in two parts
--   distinct_append  == two lists without repetition, and without a common member, are one without repetition
--   append_distinct  == and the other way round
--   same_members     == of two lists without repetition and with the same members, either is the other rearranged
use mathlib.Core.List.Permᴰ
use mathlib.Core.List.{List, [], ◌∷◌, ◌++◌, Permᴰ}
use mathlib.Core.Logic.{◌≢◌, ◌↔◌, ◌⊎◌, inl, inr, ⊎_elim}
use mathlib.Core.Path.{◌≡◌, refl, sym, subst}
use Prim.Native.Nat.{ℕ}
use native.Mathlib.Decide.{ℕ_discrete}
use lib.Dec.{T, eqb}
use Rattle.permutations.specs.Choice.{eqb_iff, or_iff}
use Rattle.permutations.specs.Live.{any, has}

abbrev pub Distinct : List ℕ → Type 0
Distinct [] = Unit {0}
Distinct (x ∷ l) = (¬ T (has l x)) × Distinct l

-- ---- the members of a list

pub has_none : (y : ℕ) → ¬ T (has [] y)
unfolding has any
has_none y h = h

pub has_cons : (x : ℕ) (l : List ℕ) (y : ℕ) → T (has (x ∷ l) y) ↔ ((y ≡ x) ⊎ T (has l y))
unfolding has any
has_cons x l y = or_iff (eqb y x) (any (eqb y) l) (eqb_iff y x) (λ h. h, λ h. h)

pub has_append : (l m : List ℕ) (y : ℕ) → T (has (l ++ m) y) ↔ (T (has l y) ⊎ T (has m y))
has_append [] m y = (inr, ⊎_elim (λ h. absurd (has_none y h)) (λ h. h))
has_append (x ∷ l) m y = (
  λ h. ⊎_elim (λ e. inl ((has_cons x l y).1 (inl e)))
      (λ k. ⊎_elim (λ a. inl ((has_cons x l y).1 (inr a))) inr ((has_append l m y).0 k)) ((has_cons x (l ++ m) y).0 h),
  λ h. (has_cons x (l ++ m) y).1 (⊎_elim
      (λ a. ⊎_elim inl (λ k. inr ((has_append l m y).1 (inl k))) ((has_cons x l y).0 a))
      (λ b. inr ((has_append l m y).1 (inr b))) h),
)

-- ---- lists without repetition

pub distinct_append : (l m : List ℕ) → Distinct l → Distinct m → ((y : ℕ) → T (has l y) → ¬ T (has m y)) → Distinct (l ++ m)
distinct_append [] m a b apart = b
distinct_append (x ∷ l) m a b apart = (
  λ h. ⊎_elim a.0 (apart x ((has_cons x l x).1 (inl refl))) ((has_append l m x).0 h),
  distinct_append l m a.1 b (λ y h. apart y ((has_cons x l y).1 (inr h))),
)

pub append_distinct : (l m : List ℕ) → Distinct (l ++ m) → Distinct m × ((y : ℕ) → T (has l y) → ¬ T (has m y))
append_distinct [] m d = (d, λ y h. absurd (has_none y h))
append_distinct (x ∷ l) m d =
    let rest = append_distinct l m d.1 in (
      rest.0,
      λ y h k. ⊎_elim (λ (e : y ≡ x). d.0 ((has_append l m x).1 (inr (subst (λ z. T (has m z)) e k)))) (λ a. rest.1 y a k) ((has_cons x l y).0 h),
    )

-- ---- the same members

-- the member x of m, put first
record Out (x : ℕ) (m : List ℕ) : Type 0 where
  rest : List ℕ
  first : Permᴰ (x ∷ rest) m
  distinct : Distinct rest
  gone : ¬ T (has rest x)
  members : (y : ℕ) → y ≢ x → T (has rest y) ↔ T (has m y)

out_first : (x z : ℕ) (m : List ℕ) → x ≡ z → Distinct (z ∷ m) → Out x (z ∷ m)
out_first x z m e d = record {
  rest = m;
  first = Permᴰ.cons e (Permᴰ.refl m);
  distinct = d.1;
  gone = λ h. d.0 (subst (λ w. T (has m w)) e h);
  members = λ y n. (
    λ h. (has_cons z m y).1 (inr h),
    λ h. ⊎_elim (λ (k : y ≡ z). absurd (n (subst (λ w. y ≡ w) (sym e) k))) (λ k. k) ((has_cons z m y).0 h),
  );
}

out_later : (x z : ℕ) (m : List ℕ) → x ≢ z → Distinct (z ∷ m) → Out x m → Out x (z ∷ m)
out_later x z m n d O = record {
  rest = z ∷ O.rest;
  first = Permᴰ.trans (Permᴰ.swap refl refl) (Permᴰ.cons refl O.first);
  distinct = (λ h. d.0 ((O.members z (λ e. n (sym e))).0 h), O.distinct);
  gone = λ h. ⊎_elim n O.gone ((has_cons z O.rest x).0 h);
  members = λ y k. (
    λ h. (has_cons z m y).1 (⊎_elim inl (λ a. inr ((O.members y k).0 a)) ((has_cons z O.rest y).0 h)),
    λ h. (has_cons z O.rest y).1 (⊎_elim inl (λ a. inr ((O.members y k).1 a)) ((has_cons z m y).0 h)),
  );
}

out : (x : ℕ) (m : List ℕ) → Distinct m → T (has m x) → Out x m
out x [] d h = absurd (has_none x h)
out x (z ∷ m) d h = go (ℕ_discrete x z) (out x m d.1)
  where
    go : Dec (x ≡ z) → (T (has m x) → Out x m) → Out x (z ∷ m)
    go (yes e) later = out_first x z m e d
    go (no n) later = out_later x z m n d (later (⊎_elim (λ e. absurd (n e)) (λ k. k) ((has_cons z m x).0 h)))

no_members : (m : List ℕ) → ((y : ℕ) → ¬ T (has m y)) → Permᴰ [] m
no_members [] none = Permᴰ.nil
no_members (x ∷ m) none = absurd (none x ((has_cons x m x).1 (inl refl)))

pub same_members : (l m : List ℕ) → Distinct l → Distinct m → ((y : ℕ) → T (has l y) ↔ T (has m y)) → Permᴰ l m
same_members [] m a b same = no_members m (λ y h. has_none y ((same y).1 h))
same_members (x ∷ l) m a b same =
    let O = out x m b ((same x).0 ((has_cons x l x).1 (inl refl))) in
    Permᴰ.trans (Permᴰ.cons refl (same_members l O.rest a.1 O.distinct (λ y. (to O y, from O y)))) O.first
  where
    to : (O : Out x m) (y : ℕ) → T (has l y) → T (has O.rest y)
    to O y h = (O.members y (λ e. a.0 (subst (λ w. T (has l w)) e h))).1 ((same y).0 ((has_cons x l y).1 (inr h)))

    from : (O : Out x m) (y : ℕ) → T (has O.rest y) → T (has l y)
    from O y h =
        let n : y ≢ x = λ e. O.gone (subst (λ w. T (has O.rest w)) e h) in
        ⊎_elim (λ e. absurd (n e)) (λ k. k) ((has_cons x l y).0 ((same y).1 ((O.members y n).0 h)))
