-- How many cycles a permutation has on the live numbers, and what the two operations do to that.
--   cycles D live f == how many cycles f has on the live numbers below D, each counted at its lowest number
use mathlib.Core.Bool.{Bool}
use mathlib.Core.List.{Permᴰ, ◌∷◌}
use mathlib.Core.Logic.Iff
use mathlib.Core.Logic.{◌↔◌, ◌≢◌, inl, inr}
use mathlib.Core.Path.{refl, sym, ◌≡◌, ◌∙◌, ap}
use Prim.Native.Nat.{ℕ, ◌<◌, suc}
use lib.Dec.{T}
use Rattle.permutations.specs.Choice.{T-ext}
use Rattle.permutations.specs.Perm.{Perm}
use Rattle.permutations.specs.Splice.{skip, skip_perm, splice}
use Rattle.permutations.proofs.SpliceLemmas.{splice_perm}
use Rattle.permutations.specs.Cycle.{meets_in, meets_iff, meets_refl, meets_sym, meets_trans, Meets}
use Rattle.permutations.specs.Joined.{Joined, skip_meets, On}
use Rattle.permutations.proofs.JoinedLemmas.{splice_meets}
use Rattle.permutations.specs.Live.{darts, off, off_ne, off_was, has, darts_has, has_darts, darts_out, off_other, any_has, has_tail, has_head}
use Rattle.permutations.proofs.Classes.{classes, Equiv, joins, joins_iff, classes_drop, classes_ext, classes_perm, classes_join}

unfoldable pub cycles : ℕ → (ℕ → Bool) → (ℕ → ℕ) → ℕ
cycles D live f = classes (meets_in f D) (darts live D)

-- ---- being on one cycle is an equivalence, and splice joins two of its classes

module _ {D : ℕ} {f : ℕ → ℕ} (π : Perm D f) where
  pub meets_equiv : Equiv (meets_in f D)
  meets_equiv = record {
    self = λ x. (meets_iff π x x).0 (meets_refl f x);
    flip = λ x y t. (meets_iff π y x).0 (meets_sym π ((meets_iff π x y).1 t));
    chain = λ x y z s t. (meets_iff π x z).0 (meets_trans f ((meets_iff π x y).1 s) ((meets_iff π y z).1 t));
  }

  pub joined_iff : (p q x y : ℕ) → T (joins (meets_in f D) p q x y) ↔ Joined f p q x y
  joined_iff = joins_iff (meets_in f D) (λ x y. Iff.symm (meets_iff π x y))

module _ {D : ℕ} {f : ℕ → ℕ} (π : Perm D f) (live : ℕ → Bool) (small : (x : ℕ) → T (live x) → x < D)
    (p q : ℕ) (pq : p ≢ q) (pl : T (live p)) (ql : T (live q)) where
  -- ---- the numbers left when p and q are gone

  left : ℕ → Bool
  left = off (off live p) q

  left_ne : {x : ℕ} → T (left x) → (x ≢ p) × (x ≢ q)
  unfolding left
  left_ne {x} t = (off_ne live (off_was (off live p) q x t), off_ne (off live p) t)

  left_has : (x : ℕ) → T (left x) → T (has (darts left D) x)
  unfolding left
  left_has x t = darts_has left D x (small x (off_was live p x (off_was (off live p) q x t))) t

  has_left : (x : ℕ) → T (has (darts left D) x) → T (left x)
  has_left x h = (has_darts left D x h).1

  both_out : Permᴰ (darts live D) (p ∷ q ∷ darts left D)
  unfolding left
  both_out =
      Permᴰ.trans (darts_out live p D (small p pl) pl)
      (Permᴰ.cons refl (darts_out (off live p) q D (small q ql) (rw (off_other live (λ e. pq (sym e))) ql)))

  -- p and q need not be counted where r joins each to a number that is left
  both_drop : (r : ℕ → ℕ → Bool) (x y : ℕ) → T (left x) → T (left y) → T (r p x) → T (r q y)
      → classes r (p ∷ q ∷ darts left D) ≡ classes r (darts left D)
  both_drop r x y lx ly mx my =
      classes_drop r p (q ∷ darts left D) (any_has (r p) (q ∷ darts left D) x (has_tail q x (darts left D) (left_has x lx)) mx)
      ∙ classes_drop r q (darts left D) (any_has (r q) (darts left D) y (left_has y ly) my)

  -- of the numbers left only what is neither p nor q matters
  left_same : (r s : ℕ → ℕ → Bool) → ((u v : ℕ) → (u ≢ p) × (u ≢ q) → (v ≢ p) × (v ≢ q) → T (r u v) ↔ T (s u v))
      → classes r (darts left D) ≡ classes s (darts left D)
  left_same r s e =
      classes_ext r s (darts left D) (λ u v hu hv.
      let i = e u v (left_ne (has_left u hu)) (left_ne (has_left v hv)) in
      T-ext (r u v) (s u v) i.0 i.1)

  -- ---- skip keeps the number of cycles, if something is left of p's cycle and of q's

  pub skip_cycles : (x y : ℕ) → T (off (off live p) q x) → T (off (off live p) q y) → Meets f p x → Meets f q y
      → cycles D (off (off live p) q) (skip f p q) ≡ cycles D live f
  unfolding cycles left
  skip_cycles x y lx ly mx my =
      sym (classes_perm (meets_equiv π) both_out
      ∙ both_drop (meets_in f D) x y lx ly ((meets_iff π p x).0 mx) ((meets_iff π q y).0 my)
      ∙ left_same (meets_in f D) (meets_in (skip f p q) D) same)
    where
      same : (u v : ℕ) → (u ≢ p) × (u ≢ q) → (v ≢ p) × (v ≢ q) → T (meets_in f D u v) ↔ T (meets_in (skip f p q) D u v)
      same u v nu nv =
          Iff.trans (Iff.symm (meets_iff π u v))
          (Iff.trans (Iff.symm (skip_meets f nu.0 nu.1 nv.0 nv.1)) (meets_iff (skip_perm π p q) u v))

  -- ---- splice of two cycles takes one away, if something is left of one of them

  pub splice_cycles : ¬ Meets f p q → (x : ℕ) → T (off (off live p) q x) → On f p q x
      → cycles D live f ≡ suc (cycles D (off (off live p) q) (splice f p q))
  unfolding cycles left
  splice_cycles apart x lx on =
      let r = joins (meets_in f D) p q in
      let l = darts left D in
      classes_perm (meets_equiv π) both_out
      ∙ classes_join (meets_equiv π) p q (λ t. apart ((meets_iff π p q).1 t)) (p ∷ q ∷ l) (has_head p (q ∷ l)) (has_tail p q (q ∷ l) (has_head q l))
      ∙ ap suc (both_drop r x x lx lx (joined (inl (meets_refl f p))) (joined (inr (meets_refl f q))) ∙ left_same r (meets_in (splice f p q) D) same)
    where
      joined : {u : ℕ} → On f p q u → T (joins (meets_in f D) p q u x)
      joined {u} o = (joined_iff π p q u x).1 (inr (o, on))

      same : (u v : ℕ) → (u ≢ p) × (u ≢ q) → (v ≢ p) × (v ≢ q) → T (joins (meets_in f D) p q u v) ↔ T (meets_in (splice f p q) D u v)
      same u v nu nv =
          Iff.trans (joined_iff π p q u v)
          (Iff.trans (Iff.symm (splice_meets π p q (small p pl) (small q ql) apart nu.0 nu.1 nv.0 nv.1))
          (meets_iff (splice_perm π p q (small p pl) (small q ql)) u v))
