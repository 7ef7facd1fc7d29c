-- Two pairs with no number in common: the operations at them can be done in either order.
--   Apart p q u v == neither p nor q is u or v
use mathlib.Core.Logic.Iff
use mathlib.Core.Logic.{◌≢◌, inl, ⊎_elim, inr, ◌↔◌}
use mathlib.Core.Path.{ap, sym, ◌≡◌, ◌∙◌, fun_ext, refl}
use Prim.Native.Nat.{ℕ, ◌<◌}
use native.Mathlib.Decide.{ℕ_discrete}
use Rattle.permutations.specs.Perm.{Perm, without, without_self, without_keep, without_over, inj, without_perm}
use Rattle.permutations.specs.Splice.{skip, crossed, skip_after, swap, swap_inj, swap_other, swap_left, swap_right, splice}
use Rattle.permutations.proofs.SpliceLemmas.{crossed_perm}
use Rattle.permutations.specs.Cycle.{Meets, meets_trans, meets_sym}
use Rattle.permutations.specs.Joined.{On, skip_meets}
use Rattle.permutations.proofs.JoinedLemmas.{splice_meets}

pub record Apart (p q u v : ℕ) : Type 0 where
  pub pu : p ≢ u
  pub pv : p ≢ v
  pub qu : q ≢ u
  pub qv : q ≢ v

pub apart_sym : {p q u v : ℕ} → Apart p q u v → Apart u v p q
apart_sym a = record { pu = λ e. a.pu (sym e); pv = λ e. a.qu (sym e); qu = λ e. a.pv (sym e); qv = λ e. a.qv (sym e) }

-- ---- two numbers can be left out in either order, and so two pairs

module _ {D : ℕ} {f : ℕ → ℕ} (π : Perm D f) (p q x : ℕ) (pq : p ≢ q) where
  comm_self : x ≡ p → without (without f p) q x ≡ without (without f q) p x
  comm_self e =
      let s : without f p x ≡ p = without_self f e in
      without_keep (without f p) (λ k. pq (sym e ∙ k)) (λ k. pq (sym s ∙ k)) ∙ s ∙ sym (without_self (without f q) e)

  comm_over : x ≢ p → x ≢ q → f x ≡ p → without (without f p) q x ≡ without (without f q) p x
  comm_over n m e = go (ℕ_discrete (f p) q)
    where
      a : without f p x ≡ f p
      a = without_over f n e

      b : without f q x ≡ p
      b = without_keep f m (λ k. pq (sym e ∙ k)) ∙ e

      go : Dec (f p ≡ q) → without (without f p) q x ≡ without (without f q) p x
      go (yes k) =
          without_over (without f p) m (a ∙ k)
          ∙ without_keep f (λ z. pq (sym z)) (λ z. m (inj π (e ∙ sym z)))
          ∙ sym (without_over (without f q) n b ∙ without_over f pq k)
      go (no k) =
          without_keep (without f p) m (λ z. k (sym a ∙ z)) ∙ a ∙ sym (without_over (without f q) n b ∙ without_keep f pq k)

  comm_keep : x ≢ p → x ≢ q → f x ≢ p → f x ≢ q → without (without f p) q x ≡ without (without f q) p x
  comm_keep n m k l =
      let a = without_keep f n k in
      let b = without_keep f m l in
      without_keep (without f p) m (λ z. l (sym a ∙ z)) ∙ a ∙ sym (without_keep (without f q) n (λ z. k (sym b ∙ z)) ∙ b)

without_comm : {D : ℕ} {f : ℕ → ℕ} → Perm D f → (p q : ℕ) → without (without f p) q ≡ without (without f q) p
without_comm {D} {f} π p q = fun_ext (λ x. go x (ℕ_discrete p q) (ℕ_discrete x p) (ℕ_discrete x q) (ℕ_discrete (f x) p) (ℕ_discrete (f x) q))
  where
    go : (x : ℕ) → Dec (p ≡ q) → Dec (x ≡ p) → Dec (x ≡ q) → Dec (f x ≡ p) → Dec (f x ≡ q)
        → without (without f p) q x ≡ without (without f q) p x
    go x (yes e) xp xq fp fq = rw e
    go x (no n) (yes e) xq fp fq = comm_self π p q x n e
    go x (no n) (no xp) (yes e) fp fq = sym (comm_self π q p x (λ k. n (sym k)) e)
    go x (no n) (no xp) (no xq) (yes e) fq = comm_over π p q x n xp xq e
    go x (no n) (no xp) (no xq) (no fp) (yes e) = sym (comm_over π q p x (λ k. n (sym k)) xq xp e)
    go x (no n) (no xp) (no xq) (no fp) (no fq) = comm_keep π p q x n xp xq fp fq

skip_without : {D : ℕ} {f : ℕ → ℕ} → Perm D f → (p q u : ℕ) → skip (without f u) p q ≡ without (skip f p q) u
unfolding skip
skip_without π p q u = ap (λ h. without h q) (without_comm π u p) ∙ without_comm (without_perm π p) u q

pub skip_skip : {D : ℕ} {f : ℕ → ℕ} → Perm D f → (p q u v : ℕ) → skip (skip f u v) p q ≡ skip (skip f p q) u v
unfolding skip
skip_skip π p q u v = skip_without (without_perm π u) p q v ∙ ap (λ h. without h v) (skip_without π p q u)

-- ---- crossing passes skip and crossing

crossed_skip : (f : ℕ → ℕ) {p q u v : ℕ} → Apart p q u v → crossed (skip f p q) u v ≡ skip (crossed f u v) p q
unfolding crossed
crossed_skip f {p} {q} {u} {v} a = skip_after f (swap u v) (swap_inj u v) (swap_other a.pu a.pv) (swap_other a.qu a.qv)

swap_comm : {p q u v : ℕ} → Apart p q u v → (x : ℕ) → swap p q (swap u v x) ≡ swap u v (swap p q x)
swap_comm {p} {q} {u} {v} a x = go (ℕ_discrete x p) (ℕ_discrete x q) (ℕ_discrete x u) (ℕ_discrete x v)
  where
    b : Apart u v p q
    b = apart_sym a

    go : Dec (x ≡ p) → Dec (x ≡ q) → Dec (x ≡ u) → Dec (x ≡ v) → swap p q (swap u v x) ≡ swap u v (swap p q x)
    go (yes e) xq xu xv = rw (e, swap_other a.pu a.pv, swap_left refl) (sym (swap_other a.qu a.qv))
    go (no n) (yes e) xu xv = rw (e, swap_other a.qu a.qv, swap_right refl) (sym (swap_other a.pu a.pv))
    go (no n) (no m) (yes e) xv = rw (e, swap_left refl, swap_other b.pu b.pv) (swap_other b.qu b.qv ∙ sym (swap_left refl))
    go (no n) (no m) (no k) (yes e) = rw (e, swap_right refl, swap_other b.qu b.qv) (swap_other b.pu b.pv ∙ sym (swap_right refl))
    go (no n) (no m) (no k) (no l) = rw (swap_other k l, swap_other n m) (sym (swap_other k l))

crossed_crossed : (f : ℕ → ℕ) {p q u v : ℕ} → Apart p q u v → crossed (crossed f p q) u v ≡ crossed (crossed f u v) p q
unfolding crossed
crossed_crossed f a = fun_ext (λ x. ap f (swap_comm a x))

-- ---- splice passes skip, and splice passes splice

module _ {D : ℕ} {f : ℕ → ℕ} (π : Perm D f) {p q u v : ℕ} (a : Apart p q u v) (u_d : u < D) (v_d : v < D) where
  pub splice_skip : splice (skip f p q) u v ≡ skip (splice f u v) p q
  unfolding splice
  splice_skip = ap (λ h. skip h u v) (crossed_skip f a) ∙ skip_skip (crossed_perm π u v u_d v_d) u v p q

  pub splice_splice : p < D → q < D → splice (splice f p q) u v ≡ splice (splice f u v) p q
  unfolding splice
  splice_splice p_d q_d =
      ap (λ h. skip h u v) (crossed_skip (crossed f p q) a)
      ∙ ap (λ h. skip (skip h p q) u v) (crossed_crossed f a)
      ∙ skip_skip (crossed_perm (crossed_perm π u v u_d v_d) p q p_d q_d) u v p q
      ∙ ap (λ h. skip h p q) (sym (crossed_skip (crossed f u v) (apart_sym a)))

-- ---- the numbers of each pair on two cycles

module _ {D : ℕ} {f : ℕ → ℕ} (π : Perm D f) {p q u v : ℕ} (a : Apart p q u v) where
  splice_two_first : p < D → q < D → ¬ Meets f p q → ¬ Meets (splice f p q) u v → ¬ Meets f u v
  splice_two_first p_d q_d pq uv m =
      let b = apart_sym a in
      uv ((splice_meets π p q p_d q_d pq b.pu b.pv b.qu b.qv).1 (inl m))

  -- if p, q are on two cycles, and then u, v are, then u, v are, and then p, q are
  pub splice_two : p < D → q < D → u < D → v < D → ¬ Meets f p q → ¬ Meets (splice f p q) u v → (¬ Meets f u v) × (¬ Meets (splice f u v) p q)
  splice_two p_d q_d u_d v_d pq uv = (
    splice_two_first p_d q_d pq uv,
    λ m. ⊎_elim pq (λ h. cases h.0 h.1) ((splice_meets π u v u_d v_d (splice_two_first p_d q_d pq uv) a.pu a.pv a.qu a.qv).0 m),
  )
    where
      joined : On f p q u → On f p q v → ⊥
      joined x y =
          let b = apart_sym a in
          uv ((splice_meets π p q p_d q_d pq b.pu b.pv b.qu b.qv).1 (inr (x, y)))

      cases : On f u v p → On f u v q → ⊥
      cases (inl x) (inl y) = pq (meets_trans f x (meets_sym π y))
      cases (inl x) (inr y) = joined (inl (meets_sym π x)) (inr (meets_sym π y))
      cases (inr x) (inl y) = joined (inr (meets_sym π y)) (inl (meets_sym π x))
      cases (inr x) (inr y) = pq (meets_trans f x (meets_sym π y))

-- skipping u, v changes nothing of p, q
pub skip_two : (f : ℕ → ℕ) {p q u v : ℕ} → Apart p q u v → (¬ Meets (skip f u v) p q) ↔ (¬ Meets f p q)
skip_two f a = Iff.not (skip_meets f a.pu a.pv a.qu a.qv)
