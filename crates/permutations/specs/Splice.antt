-- The two operations on a permutation f at a pair p, q: both leave p and q out, and splice first exchanges where p and q lead.
--   skip f p q    == f with p and q left out
--   swap p q x    == p and q exchanged
--   crossed f p q == f, but p leads where q led, and q where p led
--   splice f p q  == crossed f p q, with p and q left out
use Rattle.std.specs.Prelude.{◌⊎◌, ◌≢◌, ◌≡◌, refl, ℕ, eqb}
use Rattle.std.proofs.Common.{inl, inr, ◌∙◌, sym}
use Rattle.std.proofs.Math.Path.{ap, fun_ext}
use Rattle.std.proofs.Math.Decide.{ℕ_discrete}
use Rattle.permutations.specs.Choice.{pick, eqb_same, eqb_other}
use Rattle.permutations.specs.Perm.{without, Perm, without_perm, without_fixed, without_self, inj, without_over, without_keep}

unfoldable pub skip : (ℕ → ℕ) → ℕ → ℕ → ℕ → ℕ
skip f p q = without (without f p) q

unfoldable pub swap : ℕ → ℕ → ℕ → ℕ
swap p q x = pick (eqb x p) q (pick (eqb x q) p x)

unfoldable pub crossed : (ℕ → ℕ) → ℕ → ℕ → ℕ → ℕ
crossed f p q x = f (swap p q x)

unfoldable pub splice : (ℕ → ℕ) → ℕ → ℕ → ℕ → ℕ
splice f p q = skip (crossed f p q) p q

-- ---- skip

pub skip_perm : {D : ℕ} {f : ℕ → ℕ} → Perm D f → (p q : ℕ) → Perm D (skip f p q)
unfolding skip
skip_perm π p q = without_perm (without_perm π p) q

pub skip_fixed : (f : ℕ → ℕ) (p q x : ℕ) → f x ≡ x → skip f p q x ≡ x
unfolding skip
skip_fixed f p q x e = without_fixed (without f p) q x (without_fixed f p x e)

pub skip_at : (f : ℕ → ℕ) {p q x : ℕ} → (x ≡ p) ⊎ (x ≡ q) → skip f p q x ≡ x
unfolding skip
skip_at f {p} {q} {x} (inl e) = without_fixed (without f p) q x (without_self f e ∙ sym e)
skip_at f {p} {q} {x} (inr e) = without_self (without f p) e ∙ sym e

-- leaving out passes an injective β that leaves p and q where they are

without_after : (h β : ℕ → ℕ) → ((x y : ℕ) → β x ≡ β y → x ≡ y) → {p : ℕ} → β p ≡ p
    → (λ (x : ℕ). without h p (β x)) ≡ without (λ x. h (β x)) p
unfolding without
without_after h β one {p} at = fun_ext (λ x. rw (test x, at))
  where
    test : (x : ℕ) → eqb (β x) p ≡ eqb x p
    test x = go (ℕ_discrete x p)
      where
        go : Dec (x ≡ p) → eqb (β x) p ≡ eqb x p
        go (yes e) = eqb_same (ap β e ∙ at) ∙ sym (eqb_same e)
        go (no n) = eqb_other (λ k. n (one x p (k ∙ sym at))) ∙ sym (eqb_other n)

pub skip_after : (h β : ℕ → ℕ) → ((x y : ℕ) → β x ≡ β y → x ≡ y) → {p q : ℕ} → β p ≡ p → β q ≡ q
    → (λ (x : ℕ). skip h p q (β x)) ≡ skip (λ x. h (β x)) p q
unfolding skip
skip_after h β one {p} {q} atp atq = without_after (without h p) β one atq ∙ ap (λ k. without k q) (without_after h β one atp)

-- ---- exchange

module _ {p q x : ℕ} where
  pub swap_left : x ≡ p → swap p q x ≡ q
  unfolding swap
  swap_left e = rw (eqb_same e)

  pub swap_right : x ≡ q → swap p q x ≡ p
  unfolding swap
  swap_right e = go (ℕ_discrete x p)
    where
      go : Dec (x ≡ p) → swap p q x ≡ p
      go (yes k) = rw (eqb_same k) (sym e ∙ k)
      go (no n) = rw (eqb_other n, eqb_same e)

  pub swap_other : x ≢ p → x ≢ q → swap p q x ≡ x
  unfolding swap
  swap_other n m = rw (eqb_other n, eqb_other m)

pub swap_swap : (p q x : ℕ) → swap p q (swap p q x) ≡ x
swap_swap p q x = go (ℕ_discrete x p) (ℕ_discrete x q)
  where
    go : Dec (x ≡ p) → Dec (x ≡ q) → swap p q (swap p q x) ≡ x
    go (yes e) d = rw (swap_left e, swap_right refl) (sym e)
    go (no n) (yes e) = rw (swap_right e, swap_left refl) (sym e)
    go (no n) (no m) = rw (swap_other n m, swap_other n m)

pub swap_inj : (p q x y : ℕ) → swap p q x ≡ swap p q y → x ≡ y
swap_inj p q x y e = sym (swap_swap p q x) ∙ ap (swap p q) e ∙ swap_swap p q y

-- ---- what skip writes: only the numbers before p and before q lead elsewhere

module _ {D : ℕ} {f : ℕ → ℕ} (π : Perm D f) {p q : ℕ} (pq : p ≢ q) {x : ℕ} (xp : x ≢ p) (xq : x ≢ q) where
  -- what is before p now leads where p led; if that was to q, then where q led
  pub skip_before_p : f x ≡ p → skip f p q x ≡ pick (eqb (f p) q) (f q) (f p)
  unfolding skip
  skip_before_p e = go (ℕ_discrete (f p) q)
    where
      a : without f p x ≡ f p
      a = without_over f xp e

      go : Dec (f p ≡ q) → without (without f p) q x ≡ pick (eqb (f p) q) (f q) (f p)
      go (yes k) =
          rw (eqb_same k)
          (without_over (without f p) xq (a ∙ k) ∙ without_keep f (λ z. pq (sym z)) (λ z. xq (inj π (e ∙ sym z))))
      go (no k) = rw (eqb_other k) (without_keep (without f p) xq (λ z. k (sym a ∙ z)) ∙ a)

  pub skip_before_q : f x ≡ q → skip f p q x ≡ pick (eqb (f q) p) (f p) (f q)
  unfolding skip
  skip_before_q e =
      let a : without f p x ≡ q = without_keep f xp (λ k. pq (sym k ∙ e)) ∙ e in
      without_over (without f p) xq a ∙ go (ℕ_discrete (f q) p)
    where
      go : Dec (f q ≡ p) → without f p q ≡ pick (eqb (f q) p) (f p) (f q)
      go (yes k) = rw (eqb_same k) (without_over f (λ z. pq (sym z)) k)
      go (no k) = rw (eqb_other k) (without_keep f (λ z. pq (sym z)) k)

  pub skip_other : f x ≢ p → f x ≢ q → skip f p q x ≡ f x
  unfolding skip
  skip_other n m =
      let a = without_keep f xp n in
      without_keep (without f p) xq (λ z. m (sym a ∙ z)) ∙ a
