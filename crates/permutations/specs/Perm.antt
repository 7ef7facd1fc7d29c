-- A permutation of the numbers that moves only numbers below D, and leaving one number out of it.
--   Perm D f    == f has an inverse, and leaves every number from D on where it is
--   without f p == f with p left out: p stays where it is, and what went to p goes on to where p went
use Rattle.std.specs.Prelude.{◌≢◌, ◌≡◌, refl, ℕ, ◌≤◌, ◌<◌, eqb}
use Rattle.std.proofs.Common.{sym, ◌∙◌, ap, arith}
use Rattle.std.proofs.Math.Decide.{dec_lt, ℕ_discrete}
use Rattle.permutations.specs.Choice.{pick, eqb_same, eqb_other}

pub record Perm (D : ℕ) (f : ℕ → ℕ) : Type 0 where
  pub inv : ℕ → ℕ
  pub back : (x : ℕ) → inv (f x) ≡ x
  pub forth : (x : ℕ) → f (inv x) ≡ x
  pub still : (x : ℕ) → D ≤ x → f x ≡ x

module _ {D : ℕ} {f : ℕ → ℕ} (π : Perm D f) where
  pub inj : {x y : ℕ} → f x ≡ f y → x ≡ y
  inj {x} {y} e = sym (π.back x) ∙ ap π.inv e ∙ π.back y

  -- the numbers below D are permuted among themselves
  pub below : {x : ℕ} → x < D → f x < D
  below {x} h = go (dec_lt (f x) D)
    where
      go : Dec (f x < D) → f x < D
      go (yes l) = l
      go (no n) = let e : f x ≡ x = inj (π.still (f x) (omega arith)) in rw e h

-- ---- one number left out

unfoldable pub without : (ℕ → ℕ) → ℕ → ℕ → ℕ
without f p x = pick (eqb x p) p (pick (eqb (f x) p) (f p) (f x))

module _ (f : ℕ → ℕ) {p x : ℕ} where
  pub without_self : x ≡ p → without f p x ≡ p
  unfolding without
  without_self e = rw (eqb_same e)

  pub without_over : x ≢ p → f x ≡ p → without f p x ≡ f p
  unfolding without
  without_over n e = rw (eqb_other n, eqb_same e)

  pub without_keep : x ≢ p → f x ≢ p → without f p x ≡ f x
  unfolding without
  without_keep n m = rw (eqb_other n, eqb_other m)

-- a number that f leaves where it is stays so
pub without_fixed : (f : ℕ → ℕ) (p x : ℕ) → f x ≡ x → without f p x ≡ x
without_fixed f p x e = go (ℕ_discrete x p)
  where
    go : Dec (x ≡ p) → without f p x ≡ x
    go (yes k) = without_self f k ∙ sym k
    go (no n) = without_keep f n (λ k. n (sym e ∙ k)) ∙ e

-- what undoes f undoes it with p left out, too
without_undone : (f g : ℕ → ℕ) → ((x : ℕ) → g (f x) ≡ x) → (p x : ℕ) → without g p (without f p x) ≡ x
without_undone f g back p x = go (ℕ_discrete x p) (ℕ_discrete (f x) p)
  where
    go : Dec (x ≡ p) → Dec (f x ≡ p) → without g p (without f p x) ≡ x
    go (yes e) d = rw (without_self f e, without_self g refl) (sym e)
    go (no n) (yes e) =
        let fp : f p ≢ p = λ k. n (sym (back x) ∙ ap g (e ∙ sym k) ∙ back p) in
        rw (without_over f n e, without_over g fp (back p)) (ap g (sym e) ∙ back x)
    go (no n) (no m) = rw (without_keep f n m, without_keep g m (λ k. n (sym (back x) ∙ k))) (back x)

pub without_perm : {D : ℕ} {f : ℕ → ℕ} → Perm D f → (p : ℕ) → Perm D (without f p)
without_perm {D} {f} π p = record {
  inv = without π.inv p;
  back = without_undone f π.inv π.back p;
  forth = without_undone π.inv f π.forth p;
  still = λ x h. without_fixed f p x (π.still x h);
}
