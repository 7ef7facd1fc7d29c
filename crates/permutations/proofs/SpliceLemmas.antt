-- What holds of a permutation crossed at p and q, and of splice.
use Rattle.std.specs.Prelude.{◌≢◌, ◌≡◌, refl, ℕ, ◌<◌, eqb}
use Rattle.std.proofs.Common.{◌∙◌, sym}
use Rattle.std.proofs.Math.Path.{ap}
use native.Mathlib.Omega.{arith}
use Rattle.permutations.specs.Choice.{pick}
use Rattle.permutations.specs.Perm.{Perm}
use Rattle.permutations.specs.Splice.{skip_perm, swap, swap_left, swap_right, swap_other, swap_swap, crossed, splice, skip_before_p, skip_before_q, skip_other}

-- ---- crossing, and splice

module _ (f : ℕ → ℕ) {p q x : ℕ} where
  pub crossed_left : x ≡ p → crossed f p q x ≡ f q
  unfolding crossed
  crossed_left e = ap f (swap_left e)

  pub crossed_right : x ≡ q → crossed f p q x ≡ f p
  unfolding crossed
  crossed_right e = ap f (swap_right e)

  pub crossed_other : x ≢ p → x ≢ q → crossed f p q x ≡ f x
  unfolding crossed
  crossed_other n m = ap f (swap_other n m)

module _ {D : ℕ} {f : ℕ → ℕ} (π : Perm D f) (p q : ℕ) (p_d : p < D) (q_d : q < D) where
  pub crossed_perm : Perm D (crossed f p q)
  unfolding crossed
  crossed_perm = record {
    inv = λ x. swap p q (π.inv x);
    back = λ x. rw π.back (swap_swap p q x);
    forth = λ x. rw swap_swap (π.forth x);
    still = λ x h. let n : x ≢ p = omega arith in let m : x ≢ q = omega arith in ap f (swap_other n m) ∙ π.still x h;
  }

  pub splice_perm : Perm D (splice f p q)
  unfolding splice
  splice_perm = skip_perm crossed_perm p q

-- ---- what splice writes: only the numbers before p and before q lead elsewhere

module _ {D : ℕ} {f : ℕ → ℕ} (π : Perm D f) {p q : ℕ} (p_d : p < D) (q_d : q < D) (pq : p ≢ q) {x : ℕ} (xp : x ≢ p) (xq : x ≢ q) where
  at_x : crossed f p q x ≡ f x
  at_x = crossed_other f xp xq

  at_p : crossed f p q p ≡ f q
  at_p = crossed_left f {p = p} {q = q} refl

  at_q : crossed f p q q ≡ f p
  at_q = crossed_right f {p = p} {q = q} refl

  -- what is before p now leads where q led; if that was to q itself, then where p led
  pub splice_before_p : f x ≡ p → splice f p q x ≡ pick (eqb (f q) q) (f p) (f q)
  unfolding splice
  splice_before_p e = skip_before_p (crossed_perm π p q p_d q_d) pq xp xq (at_x ∙ e) ∙ rw (at_p, at_q)

  pub splice_before_q : f x ≡ q → splice f p q x ≡ pick (eqb (f p) p) (f q) (f p)
  unfolding splice
  splice_before_q e = skip_before_q (crossed_perm π p q p_d q_d) pq xp xq (at_x ∙ e) ∙ rw (at_p, at_q)

  pub splice_other : f x ≢ p → f x ≢ q → splice f p q x ≡ f x
  unfolding splice
  splice_other n m = skip_other (crossed_perm π p q p_d q_d) pq xp xq (λ k. n (sym at_x ∙ k)) (λ k. m (sym at_x ∙ k)) ∙ at_x
