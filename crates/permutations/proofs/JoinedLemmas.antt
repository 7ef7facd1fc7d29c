-- Who is on whose cycle after splice: the cycles of p and q are one.
use Rattle.std.specs.Prelude.{◌≢◌, ◌↔◌, ◌≡◌, refl, ℕ, ◌<◌}
use Rattle.std.proofs.Common.{⊎_elim, inl, inr}
use Rattle.std.proofs.Math.Decide.{ℕ_discrete}
use Rattle.permutations.specs.Perm.{Perm}
use Rattle.permutations.specs.Splice.{crossed, splice}
use Rattle.permutations.specs.Cycle.{Meets, meets_trans, meets_next, meets_ind, meets_refl, meets_back, meets_sym}
use Rattle.permutations.specs.Joined.{On, Joined, skip_meets}
use Rattle.permutations.proofs.SpliceLemmas.{crossed_left, crossed_right, crossed_other, crossed_perm}

-- ---- crossing p and q joins at most their two cycles

module _ {D : ℕ} {f : ℕ → ℕ} (π : Perm D f) (p q : ℕ) where
  on_next : (z : ℕ) → On f p q z → On f p q (f z)
  on_next z = ⊎_elim (λ m. inl (meets_trans f (meets_back π z) m)) (λ m. inr (meets_trans f (meets_back π z) m))

  joined_step : (x z : ℕ) → Joined f p q x z → Joined f p q x (crossed f p q z)
  joined_step x z j = go (ℕ_discrete z p) (ℕ_discrete z q) j
    where
      go : Dec (z ≡ p) → Dec (z ≡ q) → Joined f p q x z → Joined f p q x (crossed f p q z)
      go (yes e) d j =
          rw (crossed_left f e) (inr (⊎_elim (λ m. inl (rw e at m)) (λ b. b.0) j, inr (meets_back π q)))
      go (no n) (yes e) j =
          rw (crossed_right f e) (inr (⊎_elim (λ m. inr (rw e at m)) (λ b. b.0) j, inl (meets_back π p)))
      go (no n) (no m) j =
          rw (crossed_other f n m) (⊎_elim (λ m. inl (meets_trans f m (meets_next f z))) (λ b. inr (b.0, on_next z b.1)) j)

  crossed_meets : {x y : ℕ} → Meets (crossed f p q) x y → Joined f p q x y
  crossed_meets {x} {y} m = meets_ind (crossed f p q) (Joined f p q x) (joined_step x) m (inl (meets_refl f x))

-- ---- and it joins them, if they are two

module _ {D : ℕ} {f : ℕ → ℕ} (π : Perm D f) (p q : ℕ) (p_d : p < D) (q_d : q < D) (apart : ¬ Meets f p q) where
  around_step : (z : ℕ) → Meets f p z × Meets (crossed f p q) q z → Meets f p (f z) × Meets (crossed f p q) q (f z)
  around_step z h = (meets_trans f h.0 (meets_next f z), go (ℕ_discrete z p))
    where
      not_q : z ≢ q
      not_q e = apart (rw e at h.0)

      go : Dec (z ≡ p) → Meets (crossed f p q) q (f z)
      go (yes e) = rw (e, ← crossed_right f {p = p} {q = q} refl) (meets_next (crossed f p q) q)
      go (no n) = rw (← crossed_other f n not_q) (meets_trans (crossed f p q) h.1 (meets_next (crossed f p q) z))

  -- from q, which leads to f p now, all of p's cycle is walked, up to p
  around : Meets (crossed f p q) q p
  around =
      (meets_ind f (λ z. Meets f p z × Meets (crossed f p q) q z) around_step (meets_back π p)
      (meets_next f p, rw (← crossed_right f {p = p} {q = q} refl) (meets_next (crossed f p q) q))).1

  crossed_step : (z : ℕ) → Meets (crossed f p q) z (f z)
  crossed_step z = go (ℕ_discrete z p) (ℕ_discrete z q)
    where
      go : Dec (z ≡ p) → Dec (z ≡ q) → Meets (crossed f p q) z (f z)
      go (yes e) d =
          rw (e, ← crossed_right f {p = p} {q = q} refl)
          (meets_trans (crossed f p q) (meets_sym (crossed_perm π p q p_d q_d) around) (meets_next (crossed f p q) q))
      go (no n) (yes e) =
          rw (e, ← crossed_left f {p = p} {q = q} refl) (meets_trans (crossed f p q) around (meets_next (crossed f p q) p))
      go (no n) (no m) = rw (← crossed_other f n m) (meets_next (crossed f p q) z)

  meets_crossed : {x y : ℕ} → Meets f x y → Meets (crossed f p q) x y
  meets_crossed {x} {y} m =
      meets_ind f (λ z. Meets (crossed f p q) x z) (λ z k. meets_trans (crossed f p q) k (crossed_step z)) m (meets_refl (crossed f p q) x)

  on_crossed : {x : ℕ} → On f p q x → Meets (crossed f p q) x p
  on_crossed = ⊎_elim meets_crossed (λ m. meets_trans (crossed f p q) (meets_crossed m) around)

  joined_crossed : {x y : ℕ} → Joined f p q x y → Meets (crossed f p q) x y
  joined_crossed =
      ⊎_elim meets_crossed
      (λ b. meets_trans (crossed f p q) (on_crossed b.0) (meets_sym (crossed_perm π p q p_d q_d) (on_crossed b.1)))

  -- SPLICE: among the numbers left, the same are on one cycle as before, but p's and q's cycles are now one
  pub splice_meets : {x y : ℕ} → x ≢ p → x ≢ q → y ≢ p → y ≢ q → Meets (splice f p q) x y ↔ Joined f p q x y
  unfolding splice
  splice_meets xp xq yp yq =
      let e = skip_meets (crossed f p q) {p = p} {q = q} xp xq yp yq in
      (λ m. crossed_meets π p q (e.0 m), λ j. e.1 (joined_crossed j))
