-- Tests, and the choice by a test.
--   pick b x y == x where the test b passes, y where it fails
--   T b        == the test b passes (the library's)
--   eqb m n    == the test whether m and n are the same number (the library's)
use Rattle.std.specs.Prelude.{Bool, true, false, ◌||◌, ◌&&◌, not, ◌≢◌, ◌↔◌, ◌⊎◌, ◌≡◌, refl, ℕ, T, eqb}
use Rattle.std.proofs.Common.{inl, inr, ⊎_elim, subst, sym, eqb→eq, T_not}
use Rattle.std.proofs.Math.Dec.{eqb_refl, not_T}
use mathlib.Core.Logic.Iff

abbrev pub pick {ℓ} : {A : Type ℓ} → Bool → A → A → A
pick true a b = a
pick false a b = b

-- ---- what a test says

pub T? : (b : Bool) → Dec (T b)
T? true = yes tt
T? false = no (λ t. t)

pub T→true : (b : Bool) → T b → b ≡ true
T→true true t = refl
T→true false t = absurd t

pub not_T→false : (b : Bool) → ¬ (T b) → b ≡ false
not_T→false true t = absurd (t tt)
not_T→false false t = refl

pub true→T : {b : Bool} → b ≡ true → T b
true→T e = subst T (sym e) tt

-- two tests that pass together are the same
pub T-ext : (a b : Bool) → (T a → T b) → (T b → T a) → a ≡ b
T-ext true true f g = refl
T-ext true false f g = absurd (f tt)
T-ext false true f g = absurd (g tt)
T-ext false false f g = refl

-- ---- the test for the same number

pub eqb_same : {m n : ℕ} → m ≡ n → eqb m n ≡ true
eqb_same {m} {n} e = T→true (eqb m n) (subst (λ (k : ℕ). T (eqb m k)) e (eqb_refl m))

pub eqb_other : {m n : ℕ} → m ≢ n → eqb m n ≡ false
eqb_other {m} {n} h = not_T→false (eqb m n) (λ t. h (eqb→eq m n t))

pub eqb_iff : (m n : ℕ) → T (eqb m n) ↔ (m ≡ n)
eqb_iff m n = (eqb→eq m n, λ e. true→T (eqb_same e))

-- ---- several tests

pub or_intro : (a b : Bool) → T a ⊎ T b → T (a || b)
or_intro true b h = tt
or_intro false b (inl t) = absurd t
or_intro false b (inr t) = t

pub or_cases : (a b : Bool) → T (a || b) → T a ⊎ T b
or_cases true b t = inl tt
or_cases false b t = inr t

pub and_intro : (a b : Bool) → T a → T b → T (a && b)
and_intro true b s t = t
and_intro false b s t = s

pub and_left : (a b : Bool) → T (a && b) → T a
and_left true b t = tt
and_left false b t = t

pub and_right : (a b : Bool) → T (a && b) → T b
and_right true b t = t
and_right false b t = absurd t

pub ⊎_iff : {A B C D : Type 0} → A ↔ C → B ↔ D → (A ⊎ B) ↔ (C ⊎ D)
⊎_iff e k = (⊎_elim (λ a. inl (e.0 a)) (λ b. inr (k.0 b)), ⊎_elim (λ c. inl (e.1 c)) (λ d. inr (k.1 d)))

pub or_iff : (a b : Bool) {A B : Type 0} → T a ↔ A → T b ↔ B → T (a || b) ↔ (A ⊎ B)
or_iff a b e k = Iff.trans (or_cases a b, or_intro a b) (⊎_iff e k)

-- the second test needs to be right only where the first one passes
pub and_iff : (a b : Bool) {A B : Type 0} → T a ↔ A → (A → T b ↔ B) → T (a && b) ↔ (A × B)
and_iff a b e k = (λ t. let x = e.0 (and_left a b t) in (x, (k x).0 (and_right a b t)), λ h. and_intro a b (e.1 h.0) ((k h.0).1 h.1))

pub not_iff : (b : Bool) {B : Type 0} → T b ↔ B → T (not b) ↔ (¬ B)
not_iff b e = (λ t x. T_not b t (e.1 x), λ n. not_T b (λ t. n (e.0 t)))
