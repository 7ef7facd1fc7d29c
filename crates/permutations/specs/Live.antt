-- Which numbers are live, and the list of them.
--   off live p   == live, but for p
--   any t l      == some number of the list l passes the test t
--   has l x      == x is in the list l
--   darts live n == the live numbers below n, the highest first
use Rattle.std.specs.Prelude.{Bool, not, ◌&&◌, false, ◌||◌, true, ◌≢◌, ◌⊎◌, ◌≡◌, refl, ℕ, zero, suc, ◌<◌, eqb, T}
use Rattle.std.proofs.Math.Bool.{and_assoc, and_comm, or_assoc, or_comm}
use mathlib.Core.List.Permᴰ
use mathlib.Core.List.{List, [], ◌∷◌, Permᴰ}
use Rattle.std.proofs.Common.{inl, inr, ⊎_elim, subst, sym, ◌∙◌, ap, ap₂, not-suc-le-zero, arith, eqb→eq}
use Rattle.std.proofs.Math.Path.{fun_ext}
use Rattle.std.proofs.Math.Decide.{ℕ_discrete}
use Rattle.std.proofs.Math.Dec.{eqb_refl}
use Rattle.permutations.specs.Choice.{pick, eqb_other, eqb_same, and_right, or_intro, or_cases, T→true}

unfoldable pub off : (ℕ → Bool) → ℕ → ℕ → Bool
off live p x = not (eqb x p) && live x

unfoldable pub any : (ℕ → Bool) → List ℕ → Bool
any t [] = false
any t (x ∷ l) = t x || any t l

unfoldable pub has : List ℕ → ℕ → Bool
has l x = any (eqb x) l

unfoldable pub darts : (ℕ → Bool) → ℕ → List ℕ
darts live zero = []
darts live (suc n) = pick (live n) (n ∷ darts live n) (darts live n)

-- ---- live, but for one

module _ (live : ℕ → Bool) where
  pub off_other : {p x : ℕ} → x ≢ p → off live p x ≡ live x
  unfolding off
  off_other n = rw (eqb_other n)

  pub off_self : {p x : ℕ} → x ≡ p → off live p x ≡ false
  unfolding off
  off_self e = rw (eqb_same e)

  pub off_ne : {p x : ℕ} → T (off live p x) → x ≢ p
  off_ne t e = subst T (off_self e) t

  pub off_was : (p x : ℕ) → T (off live p x) → T (live x)
  unfolding off
  off_was p x t = and_right (not (eqb x p)) (live x) t

-- two numbers can be taken off in either order
pub off_comm : (live : ℕ → Bool) (p u : ℕ) → off (off live p) u ≡ off (off live u) p
unfolding off
off_comm live p u = fun_ext (λ x. let a = not (eqb x u) in let b = not (eqb x p) in
    sym (and_assoc a b (live x)) ∙ ap (λ c. c && live x) (and_comm a b) ∙ and_assoc b a (live x))

-- ---- some number of a list

pub any_or : (s t : ℕ → Bool) (l : List ℕ) → any (λ x. s x || t x) l ≡ (any s l || any t l)
unfolding any
any_or s t [] = refl
any_or s t (x ∷ l) = rw (any_or s t l) (mix (s x) (t x) (any s l) (any t l))
  where
    mix : (a b c d : Bool) → ((a || b) || (c || d)) ≡ ((a || c) || (b || d))
    mix true b c d = refl
    mix false true true d = refl
    mix false true false d = refl
    mix false false c d = refl

pub any_perm : (t : ℕ → Bool) {l m : List ℕ} → Permᴰ l m → any t l ≡ any t m
unfolding any
any_perm t Permᴰ.nil = refl
any_perm t (Permᴰ.cons e d) = ap₂ ◌||◌ (ap t e) (any_perm t d)
any_perm t (Permᴰ.swap {a} {b} {l = l} e k) =
    sym (or_assoc (t a) (t b) (any t l)) ∙ ap (λ c. c || any t l) (or_comm (t a) (t b)) ∙ or_assoc (t b) (t a) (any t l)
    ∙ ap₂ (λ x y. t x || (t y || any t l)) k e
any_perm t (Permᴰ.trans c d) = any_perm t c ∙ any_perm t d

pub has_head : (x : ℕ) (l : List ℕ) → T (has (x ∷ l) x)
unfolding has any
has_head x l = or_intro (eqb x x) (any (eqb x) l) (inl (eqb_refl x))

pub has_tail : (x y : ℕ) (l : List ℕ) → T (has l y) → T (has (x ∷ l) y)
unfolding has any
has_tail x y l h = or_intro (eqb y x) (any (eqb y) l) (inr h)

has_cases : (x y : ℕ) (l : List ℕ) → T (has (x ∷ l) y) → (y ≡ x) ⊎ T (has l y)
unfolding has any
has_cases x y l h = ⊎_elim (λ e. inl (eqb→eq y x e)) inr (or_cases (eqb y x) (any (eqb y) l) h)

pub any_has : (t : ℕ → Bool) (l : List ℕ) (x : ℕ) → T (has l x) → T (t x) → T (any t l)
unfolding any has
any_has t [] x h k = h
any_has t (y ∷ l) x h k =
    or_intro (t y) (any t l) (⊎_elim (λ e. inl (subst (λ z. T (t z)) e k)) (λ m. inr (any_has t l x m k)) (has_cases y x l h))

-- only the elements matter
pub any_ext : (s t : ℕ → Bool) (l : List ℕ) → ((x : ℕ) → T (has l x) → s x ≡ t x) → any s l ≡ any t l
unfolding any
any_ext s t [] e = refl
any_ext s t (x ∷ l) e = ap₂ ◌||◌ (e x (has_head x l)) (any_ext s t l (λ y h. e y (has_tail x y l h)))

-- ---- the list of the live numbers

pub has_darts : (live : ℕ → Bool) (n x : ℕ) → T (has (darts live n) x) → (x < n) × T (live x)
unfolding darts has any
has_darts live zero x h = absurd h
has_darts live (suc n) x h = go (live n) refl (has_darts live n x) h
  where
    go : (b : Bool) → live n ≡ b → (T (has (darts live n) x) → (x < n) × T (live x))
        → T (has (pick b (n ∷ darts live n) (darts live n)) x) → (x < suc n) × T (live x)
    go false e ih h = let i = ih h in (omega arith, i.1)
    go true e ih h = ⊎_elim (λ (k : x ≡ n). (omega arith, rw (ap live k, e) tt)) (λ t. let i = ih t in (omega arith, i.1)) (has_cases n x (darts live n) h)

pub darts_has : (live : ℕ → Bool) (n x : ℕ) → x < n → T (live x) → T (has (darts live n) x)
unfolding darts
darts_has live zero x h t = absurd (not-suc-le-zero h)
darts_has live (suc n) x h t = go (ℕ_discrete x n) (darts_has live n x)
  where
    go : Dec (x ≡ n) → (x < n → T (live x) → T (has (darts live n) x)) → T (has (pick (live n) (n ∷ darts live n) (darts live n)) x)
    go (yes e) ih = rw (← e, T→true (live x) t) (has_head x (darts live x))
    go (no m) ih = put (live n) (ih (omega arith) t)
      where
        put : (b : Bool) → T (has (darts live n) x) → T (has (pick b (n ∷ darts live n) (darts live n)) x)
        put true k = has_tail n x (darts live n) k
        put false k = k

darts_same : (live new : ℕ → Bool) (n : ℕ) → ((x : ℕ) → x < n → live x ≡ new x) → darts live n ≡ darts new n
unfolding darts
darts_same live new zero e = refl
darts_same live new (suc n) e = ap₂ (λ b l. pick b (n ∷ l) l) (e n (omega arith)) (darts_same live new n (λ x h. e x (omega arith)))

-- a live number can be put first
pub darts_out : (live : ℕ → Bool) (p n : ℕ) → p < n → T (live p) → Permᴰ (darts live n) (p ∷ darts (off live p) n)
unfolding darts
darts_out live p zero h t = absurd (not-suc-le-zero h)
darts_out live p (suc n) h t = go (ℕ_discrete n p) (darts_out live p n)
  where
    go : Dec (n ≡ p) → (p < n → T (live p) → Permᴰ (darts live n) (p ∷ darts (off live p) n))
        → Permᴰ (pick (live n) (n ∷ darts live n) (darts live n)) (p ∷ pick (off live p n) (n ∷ darts (off live p) n) (darts (off live p) n))
    go (yes e) ih =
        let rest : darts live n ≡ darts (off live p) n = darts_same live (off live p) n (λ x l. let m : x ≢ p = omega arith in sym (off_other live m)) in
        rw (off_self live e, ap live e, T→true (live p) t, ← rest) (Permᴰ.cons e (Permᴰ.refl (darts live n)))
    go (no m) ih = rw (off_other live m) (put (live n) (ih (omega arith) t))
      where
        put : (b : Bool) {l k : List ℕ} → Permᴰ l (p ∷ k) → Permᴰ (pick b (n ∷ l) l) (p ∷ pick b (n ∷ k) k)
        put true d = Permᴰ.trans (Permᴰ.cons refl d) (Permᴰ.swap refl refl)
        put false d = d
