-- The one after a number in a list without repetition.
--   one b x      == x alone where the test b passes, and else nothing
--   Distinct r   == no number stands in r twice
--   has_append, has_one == what stands in the parts of a round
--   next_after   == the one after d is the first of those that follow d, and then of those that go before
--   has_index    == what stands in a list has a place there
--   next_has     == the one after stands there too
--   next_one     == no two have the same one after them
--   round_meets  == going from each to the next leads from the first to all
use mathlib.Core.Bool.{Bool, true, false}
use mathlib.Core.List.{List, [], ◌∷◌, ◌++◌}
use mathlib.Core.Logic.{◌≢◌, ◌↔◌, ◌⊎◌, inl, inr, ⊎_elim}
use mathlib.Core.Path.{◌≡◌, refl, sym, ap, ◌∙◌, subst}
use Prim.Native.Nat.{ℕ, zero, suc, ◌<◌}
use native.Mathlib.Decide.{dec_lt}
use native.Mathlib.Nat.{not-suc-le-zero}
use native.Mathlib.Omega.{arith}
use lib.Dec.{T, eqb, eqb_refl, eqb→eq}
use lib.ListN.{length, get_or}
use Rattle.permutations.specs.Choice.{or_intro, or_cases, not_T→false, eqb_same, eqb_other, eqb_iff}
use Rattle.permutations.specs.Cycle.{Meets, meets_refl, meets_next, meets_trans}
use Rattle.std.proofs.Common.{if◌then◌else◌}
use Rattle.grids.specs.Base.{has, next_or, next_in}

abbrev pub one : Bool → ℕ → List ℕ
one b x = if b then x ∷ [] else []

abbrev pub Distinct : List ℕ → Type 0
Distinct [] = Unit {0}
Distinct (x ∷ r) = (¬ T (has x r)) × Distinct r

-- ---- what a list has

pub has_append : (d : ℕ) (r s : List ℕ) → T (has d (r ++ s)) ↔ (T (has d r) ⊎ T (has d s))
unfolding has
has_append d [] s = (inr, ⊎_elim (λ h. absurd h) (λ h. h))
has_append d (x ∷ r) s = (
  λ h. ⊎_elim (λ e. inl (or_intro (eqb x d) (has d r) (inl e)))
      (λ t. ⊎_elim (λ k. inl (or_intro (eqb x d) (has d r) (inr k))) inr ((has_append d r s).0 t)) (or_cases (eqb x d) (has d (r ++ s)) h),
  λ h. or_intro (eqb x d) (has d (r ++ s))
      (⊎_elim (λ t. ⊎_elim inl (λ k. inr ((has_append d r s).1 (inl k))) (or_cases (eqb x d) (has d r) t)) (λ k. inr ((has_append d r s).1 (inr k))) h),
)

pub has_one : (d : ℕ) (b : Bool) (x : ℕ) → T (has d (one b x)) ↔ (T b × (x ≡ d))
unfolding has
has_one d true x = (
  λ h. (tt, ⊎_elim (eqb_iff x d).0 (λ k. absurd k) (or_cases (eqb x d) false h)),
  λ h. or_intro (eqb x d) false (inl ((eqb_iff x d).1 h.1)),
)
has_one d false x = (λ h. absurd h, λ h. h.0)

pub distinct_one : (b : Bool) (x : ℕ) → Distinct (one b x)
unfolding has
distinct_one true x = (λ h. h, tt)
distinct_one false x = tt

-- ---- the one after d

-- `first` comes after the last
or_after : (first d : ℕ) (p s : List ℕ) → ¬ T (has d p) → next_or first d (p ++ (d ∷ s)) ≡ get_or (s ++ (first ∷ [])) 0 0
unfolding next_or has
or_after first d [] [] n = refl
or_after first d [] (y ∷ s) n = rw (eqb_same {m = d} {n = d} refl)
or_after first d (x ∷ []) s n =
    rw (not_T→false (eqb x d) (λ e. n (or_intro (eqb x d) false (inl e)))) (or_after first d [] s (λ h. h))
or_after first d (x ∷ (z ∷ p)) s n =
    rw (not_T→false (eqb x d) (λ e. n (or_intro (eqb x d) (has d (z ∷ p)) (inl e))))
    (or_after first d (z ∷ p) s (λ h. n (or_intro (eqb x d) (has d (z ∷ p)) (inr h))))

pub next_after : (d : ℕ) (p s : List ℕ) → ¬ T (has d p) → next_in d (p ++ (d ∷ s)) ≡ get_or (s ++ (p ++ (d ∷ []))) 0 0
unfolding next_in
next_after d p s n = or_after (get_or (p ++ (d ∷ s)) 0 0) d p s n ∙ turned p s
  where
    turned : (p s : List ℕ) → get_or (s ++ (get_or (p ++ (d ∷ s)) 0 0 ∷ [])) 0 0 ≡ get_or (s ++ (p ++ (d ∷ []))) 0 0
    turned [] [] = refl
    turned (x ∷ p) [] = refl
    turned p (y ∷ s) = refl

-- ---- place by place

pub has_index : (d : ℕ) (r : List ℕ) → T (has d r) → (i : ℕ) × (i < length r) × (get_or r i 0 ≡ d)
unfolding has
has_index d [] h = absurd h
has_index d (x ∷ r) h =
    ⊎_elim (λ e. (0, omega arith, eqb→eq x d e)) (λ t. let (i, l, e) = has_index d r t in (suc i, omega arith, e))
    (or_cases (eqb x d) (has d r) h)

index_has : (r : List ℕ) (i : ℕ) → i < length r → T (has (get_or r i 0) r)
unfolding has
index_has [] i h = absurd (not-suc-le-zero h)
index_has (x ∷ r) zero h = or_intro (eqb x x) (has x r) (inl (eqb_refl x))
index_has (x ∷ r) (suc i) h = or_intro (eqb x (get_or r i 0)) (has (get_or r i 0) r) (inr (index_has r i (omega arith)))

first_other : (x : ℕ) (r : List ℕ) (i : ℕ) → Distinct (x ∷ r) → i < length r → x ≢ get_or r i 0
first_other x r i n h e = n.0 (subst (λ z. T (has z r)) (sym e) (index_has r i h))

index_one : (r : List ℕ) → Distinct r → (i j : ℕ) → i < length r → j < length r → get_or r i 0 ≡ get_or r j 0 → i ≡ j
index_one [] n i j h k e = absurd (not-suc-le-zero h)
index_one (x ∷ r) n zero zero h k e = refl
index_one (x ∷ r) n zero (suc j) h k e = absurd (first_other x r j n (omega arith) e)
index_one (x ∷ r) n (suc i) zero h k e = absurd (first_other x r i n (omega arith) (sym e))
index_one (x ∷ r) n (suc i) (suc j) h k e = ap suc (index_one r n.1 i j (omega arith) (omega arith) e)

or_at : (first : ℕ) (r : List ℕ) (i : ℕ) → Distinct r → suc i < length r → next_or first (get_or r i 0) r ≡ get_or r (suc i) 0
unfolding next_or
or_at first [] i n h = absurd (omega arith)
or_at first (x ∷ []) i n h = absurd (omega arith)
or_at first (x ∷ (y ∷ r)) zero n h = rw (eqb_same {m = x} {n = x} refl)
or_at first (x ∷ (y ∷ r)) (suc i) n h = rw (eqb_other (first_other x (y ∷ r) i n (omega arith))) (or_at first (y ∷ r) i n.1 (omega arith))

or_last : (first : ℕ) (r : List ℕ) (i : ℕ) → Distinct r → suc i ≡ length r → next_or first (get_or r i 0) r ≡ first
unfolding next_or
or_last first [] i n h = refl
or_last first (x ∷ []) i n h = refl
or_last first (x ∷ (y ∷ r)) zero n h = absurd (omega arith)
or_last first (x ∷ (y ∷ r)) (suc i) n h = rw (eqb_other (first_other x (y ∷ r) i n (omega arith))) (or_last first (y ∷ r) i n.1 (omega arith))

module _ (r : List ℕ) (n : Distinct r) where
  next_at : (i : ℕ) → suc i < length r → next_in (get_or r i 0) r ≡ get_or r (suc i) 0
  unfolding next_in
  next_at i h = or_at (get_or r 0 0) r i n h

  next_last : (i : ℕ) → suc i ≡ length r → next_in (get_or r i 0) r ≡ get_or r 0 0
  unfolding next_in
  next_last i h = or_last (get_or r 0 0) r i n h

  pub next_has : (d : ℕ) → T (has d r) → T (has (next_in d r) r)
  next_has d h = let (i, l, e) = has_index d r h in subst (λ z. T (has (next_in z r) r)) e (go i l (dec_lt (suc i) (length r)))
    where
      go : (i : ℕ) → i < length r → Dec (suc i < length r) → T (has (next_in (get_or r i 0) r) r)
      go i l (yes k) = rw (next_at i k) (index_has r (suc i) k)
      go i l (no k) = rw (next_last i (omega arith)) (index_has r 0 (omega arith))

  pub next_one : (a b : ℕ) → T (has a r) → T (has b r) → next_in a r ≡ next_in b r → a ≡ b
  next_one a b h k e =
      let (i, l, p) = has_index a r h in
      let (j, m, q) = has_index b r k in
      let s : next_in (get_or r i 0) r ≡ next_in (get_or r j 0) r = ap (λ z. next_in z r) p ∙ e ∙ ap (λ z. next_in z r) (sym q) in
      sym p ∙ ap (λ z. get_or r z 0) (go i j l m s (dec_lt (suc i) (length r)) (dec_lt (suc j) (length r))) ∙ q
    where
      go : (i j : ℕ) → i < length r → j < length r → next_in (get_or r i 0) r ≡ next_in (get_or r j 0) r
          → Dec (suc i < length r) → Dec (suc j < length r) → i ≡ j
      go i j l m s (yes u) (yes v) = let z = index_one r n (suc i) (suc j) u v (sym (next_at i u) ∙ s ∙ next_at j v) in omega arith
      go i j l m s (yes u) (no v) =
          let z = index_one r n (suc i) 0 u (omega arith) (sym (next_at i u) ∙ s ∙ next_last j (omega arith)) in
          absurd (omega arith)
      go i j l m s (no u) (yes v) =
          let z = index_one r n 0 (suc j) (omega arith) v (sym (next_last i (omega arith)) ∙ s ∙ next_at j v) in
          absurd (omega arith)
      go i j l m s (no u) (no v) = omega arith

  pub round_meets : (f : ℕ → ℕ) → ((z : ℕ) → T (has z r) → f z ≡ next_in z r) → (i : ℕ) → i < length r → Meets f (get_or r 0 0) (get_or r i 0)
  round_meets f goes zero h = meets_refl f (get_or r 0 0)
  round_meets f goes (suc i) h =
      let z = get_or r i 0 in
      let l : i < length r = omega arith in
      subst (Meets f (get_or r 0 0)) (goes z (index_has r i l) ∙ next_at i h) (meets_trans f (round_meets f goes i l) (meets_next f z))
