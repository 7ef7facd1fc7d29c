-- Cycles that are numbered: where each cycle has a number below n and each such number is some cycle's, there are n cycles.
--   hits L l c         == some element of the list l has the number c
--   classes_hit        == the classes on a list are as many as the numbers that are hit
--   cycles_numbered    == the cycles of a permutation on the live numbers are as many as their numbers
use mathlib.Core.Bool.{Bool, true, false, ◌||◌}
use mathlib.Core.List.{List, [], ◌∷◌}
use mathlib.Core.Logic.Iff
use mathlib.Core.Logic.{◌≢◌, ◌↔◌, ⊎_elim}
use mathlib.Core.Path.{◌≡◌, refl, sym, ap, ap₂, ◌∙◌}
use Prim.Native.Nat.{ℕ, zero, suc, ◌<◌}
use native.Mathlib.Decide.{ℕ_discrete}
use native.Mathlib.Nat.{not-suc-le-zero}
use native.Mathlib.Omega.{arith}
use lib.Dec.{T, eqb}
use lib.ListN.{length}
use Rattle.permutations.specs.Choice.{pick, T→true, T-ext, eqb_same, eqb_other, eqb_iff, or_cases}
use Rattle.permutations.specs.Perm.{Perm}
use Rattle.permutations.specs.Cycle.{meets_in, meets_iff}
use Rattle.permutations.specs.Live.{any, has, darts, any_ext, any_has, has_head, has_tail, has_darts, darts_has}
use Rattle.permutations.specs.Labels.{Labels}
use Rattle.permutations.proofs.Classes.{classes}
use Rattle.permutations.proofs.Cycles.{cycles}

abbrev hits : (ℕ → ℕ) → List ℕ → ℕ → Bool
hits L l c = any (λ x. eqb (L x) c) l

-- ---- how many numbers below n pass a test

count_same : (p q : ℕ → Bool) (n : ℕ) → ((c : ℕ) → c < n → p c ≡ q c) → length (darts p n) ≡ length (darts q n)
unfolding darts
count_same p q zero e = refl
count_same p q (suc n) e = step (p n) (q n) (e n (omega arith)) (count_same p q n (λ c h. e c (omega arith)))
  where
    step : (a b : Bool) → a ≡ b → length (darts p n) ≡ length (darts q n)
        → length (pick a (n ∷ darts p n) (darts p n)) ≡ length (pick b (n ∷ darts q n) (darts q n))
    step true b e k = rw (← e) (ap suc k)
    step false b e k = rw (← e) k

count_none : (n : ℕ) → length (darts (λ c. false) n) ≡ 0
unfolding darts
count_none zero = refl
count_none (suc n) = count_none n

count_all : (p : ℕ → Bool) (n : ℕ) → ((c : ℕ) → c < n → T (p c)) → length (darts p n) ≡ n
unfolding darts
count_all p zero h = refl
count_all p (suc n) h = rw (T→true (p n) (h n (omega arith))) (ap suc (count_all p n (λ c l. h c (omega arith))))

-- one more number passes, unless it did before
count_more : (a : ℕ) (p : ℕ → Bool) (n : ℕ) → a < n
    → length (darts (λ c. eqb a c || p c) n) ≡ pick (p a) (length (darts p n)) (suc (length (darts p n)))
unfolding darts
count_more a p zero h = absurd (not-suc-le-zero h)
count_more a p (suc n) h = go (ℕ_discrete a n) (count_more a p n)
  where
    last : (b : Bool) (k : ℕ) → length (darts p n) ≡ k
        → suc k ≡ pick b (length (pick b (n ∷ darts p n) (darts p n))) (suc (length (pick b (n ∷ darts p n) (darts p n))))
    last true k e = ap suc (sym e)
    last false k e = ap suc (sym e)

    earlier : (a b : Bool) (l : List ℕ) → length l ≡ pick b (length (darts p n)) (suc (length (darts p n)))
        → length (pick a (n ∷ l) l) ≡ pick b (length (pick a (n ∷ darts p n) (darts p n))) (suc (length (pick a (n ∷ darts p n) (darts p n))))
    earlier true true l e = ap suc e
    earlier true false l e = ap suc e
    earlier false true l e = e
    earlier false false l e = e

    go : Dec (a ≡ n) → (a < n → length (darts (λ c. eqb a c || p c) n) ≡ pick (p a) (length (darts p n)) (suc (length (darts p n))))
        → length (darts (λ c. eqb a c || p c) (suc n)) ≡ pick (p a) (length (darts p (suc n))) (suc (length (darts p (suc n))))
    go (yes e) rest =
        let same : length (darts (λ c. eqb a c || p c) n) ≡ length (darts p n) =
        count_same (λ c. eqb a c || p c) p n (λ c l. let m : a ≢ c = omega arith in rw (eqb_other m)) in
        rw (eqb_same e, ap p e) (last (p n) (length (darts (λ c. eqb a c || p c) n)) (sym same))
    go (no m) rest = rw (eqb_other m) (earlier (p n) (p a) (darts (λ c. eqb a c || p c) n) (rest (omega arith)))

-- ---- the classes of a list whose elements are numbered

classes_hit : (r : ℕ → ℕ → Bool) (L : ℕ → ℕ) (n : ℕ) (l : List ℕ) → ((x y : ℕ) → T (has l x) → T (has l y) → T (r x y) ↔ (L x ≡ L y))
    → ((x : ℕ) → T (has l x) → L x < n) → classes r l ≡ length (darts (hits L l) n)
unfolding classes any
classes_hit r L n [] same small = sym (count_none n)
classes_hit r L n (x ∷ l) same small =
    ap₂ (λ b k. pick b k (suc k)) row
    (classes_hit r L n l (λ y z h k. same y z (has_tail x y l h) (has_tail x z l k)) (λ y h. small y (has_tail x y l h)))
    ∙ sym (count_more (L x) (hits L l) n (small x (has_head x l)))
  where
    row : any (r x) l ≡ hits L l (L x)
    row = any_ext (r x) (λ z. eqb (L z) (L x)) l (λ z h.
        let i = same x z (has_head x l) (has_tail x z l h) in
        T-ext (r x z) (eqb (L z) (L x)) (λ t. (eqb_iff (L z) (L x)).1 (sym (i.0 t))) (λ t. i.1 (sym ((eqb_iff (L z) (L x)).0 t))))

-- THE CYCLES ARE AS MANY AS THEIR NUMBERS
pub cycles_numbered : {D : ℕ} {f : ℕ → ℕ} {live : ℕ → Bool} {L : ℕ → ℕ} → Perm D f → ((x : ℕ) → T (live x) → x < D) → Labels live f L
    → (n : ℕ) → ((x : ℕ) → T (live x) → L x < n) → ((c : ℕ) → c < n → (x : ℕ) × T (live x) × (L x ≡ c)) → cycles D live f ≡ n
unfolding cycles
cycles_numbered {D} {f} {live} {L} π inside Λ n small every =
    classes_hit (meets_in f D) L n (darts live D)
    (λ x y h k. Iff.symm (Iff.trans (Λ.says x y (has_darts live D x h).1 (has_darts live D y k).1) (meets_iff π x y)))
    (λ x h. small x (has_darts live D x h).1)
    ∙ count_all (hits L (darts live D)) n (λ c h.
    let (x, t, e) = every c h in
    any_has (λ z. eqb (L z) c) (darts live D) x (darts_has live D x (inside x t) t) ((eqb_iff (L x) c).1 e))

-- ---- cycles that are labelled alike

some_hit : (L : ℕ → ℕ) (l : List ℕ) (c : ℕ) → T (hits L l c) → (x : ℕ) × T (has l x) × (L x ≡ c)
unfolding any
some_hit L [] c h = absurd h
some_hit L (x ∷ l) c h =
    ⊎_elim (λ t. (x, has_head x l, (eqb_iff (L x) c).0 t)) (λ t. let r = some_hit L l c t in (r.0, has_tail x r.0 l r.1, r.2)) (or_cases (eqb (L x) c) (hits L l c) h)

module _ {D : ℕ} {f : ℕ → ℕ} {live : ℕ → Bool} {L : ℕ → ℕ} (π : Perm D f) (Λ : Labels live f L) (n : ℕ) (small : (x : ℕ) → T (live x) → L x < n) where
  pub cycles_hit : cycles D live f ≡ length (darts (hits L (darts live D)) n)
  unfolding cycles
  cycles_hit =
      classes_hit (meets_in f D) L n (darts live D)
      (λ x y h k. Iff.symm (Iff.trans (Λ.says x y (has_darts live D x h).1 (has_darts live D y k).1) (meets_iff π x y)))
      (λ x h. small x (has_darts live D x h).1)

hits_over : (D : ℕ) (live new : ℕ → Bool) {L M : ℕ → ℕ} → ((y : ℕ) → T (new y) → y < D) → ((x : ℕ) → T (live x) → (y : ℕ) × T (new y) × (M y ≡ L x))
    → (c : ℕ) → T (hits L (darts live D) c) → T (hits M (darts new D) c)
hits_over D live new {L} {M} inside covers c h =
    let (x, k, e) = some_hit L (darts live D) c h in
    let (y, t, d) = covers x (has_darts live D x k).1 in
    any_has (λ z. eqb (M z) c) (darts new D) y (darts_has new D y (inside y t) t) ((eqb_iff (M y) c).1 (d ∙ e))

-- WHERE THE SAME LABELS ARE USED THERE ARE AS MANY CYCLES
pub cycles_alike : {D : ℕ} {f g : ℕ → ℕ} {live new : ℕ → Bool} {L M : ℕ → ℕ} → Perm D f → Perm D g → Labels live f L → Labels new g M
    → ((x : ℕ) → T (live x) → x < D) → ((y : ℕ) → T (new y) → y < D)
    → ((x : ℕ) → T (live x) → (y : ℕ) × T (new y) × (M y ≡ L x)) → ((y : ℕ) → T (new y) → (x : ℕ) × T (live x) × (L x ≡ M y))
    → (n : ℕ) → ((x : ℕ) → T (live x) → L x < n) → cycles D live f ≡ cycles D new g
cycles_alike {D} {f} {g} {live} {new} {L} {M} π ρ Λ Μ inside inside' there back n small =
    let small' : (y : ℕ) → T (new y) → M y < n = λ y t. let (x, s, e) = back y t in let k = small x s in omega arith in
    cycles_hit π Λ n small
    ∙ count_same (hits L (darts live D)) (hits M (darts new D)) n (λ c h.
    T-ext (hits L (darts live D) c) (hits M (darts new D) c) (hits_over D live new inside' there c) (hits_over D new live inside back c))
    ∙ sym (cycles_hit ρ Μ n small')
