-- Who is on whose cycle after the two operations: skip keeps it, and splice of two cycles makes them one (proofs/JoinedLemmas).
--   On f p q x       == x is on p's cycle or on q's
--   Joined f p q x y == x and y are on one cycle of f, or each is on p's or q's
--   past f p z       == z, or if that is p what comes after it
use Rattle.std.specs.Prelude.{◌⊎◌, ◌≢◌, ◌↔◌, ◌≡◌, ℕ, eqb}
use Rattle.std.proofs.Math.Decide.{ℕ_discrete}
use Rattle.permutations.specs.Choice.{pick, eqb_same, eqb_other}
use Rattle.permutations.specs.Perm.{without, without_self, without_over, without_keep}
use Rattle.permutations.specs.Splice.{skip}
use Rattle.permutations.specs.Cycle.{Meets, meets_eq, meets_trans, meets_next, meets_ind, meets_refl}

abbrev pub On : (ℕ → ℕ) → ℕ → ℕ → ℕ → Type 0
On f p q x = Meets f x p ⊎ Meets f x q

abbrev pub Joined : (ℕ → ℕ) → ℕ → ℕ → ℕ → ℕ → Type 0
Joined f p q x y = Meets f x y ⊎ (On f p q x × On f p q y)

-- ---- leaving one number out keeps the cycles

module _ (f : ℕ → ℕ) (p : ℕ) where
  without_step : (z : ℕ) → Meets f z (without f p z)
  without_step z = go (ℕ_discrete z p) (ℕ_discrete (f z) p)
    where
      go : Dec (z ≡ p) → Dec (f z ≡ p) → Meets f z (without f p z)
      go (yes e) d = rw (without_self f e) (meets_eq f e)
      go (no n) (yes e) =
          rw (without_over f n e) (meets_trans f (meets_next f z) (rw e (meets_next f p)))
      go (no n) (no m) = rw (without_keep f n m) (meets_next f z)

  pub without_meets : {x y : ℕ} → Meets (without f p) x y → Meets f x y
  without_meets {x} {y} m =
      meets_ind (without f p) (λ z. Meets f x z) (λ z h. meets_trans f h (without_step z)) m (meets_refl f x)

  past : ℕ → ℕ
  past z = pick (eqb z p) (f p) z

  past_p : {z : ℕ} → z ≡ p → past z ≡ f p
  unfolding past
  past_p e = rw (eqb_same e)

  past_other : {z : ℕ} → z ≢ p → past z ≡ z
  unfolding past
  past_other n = rw (eqb_other n)

  past_fp : past (f p) ≡ f p
  past_fp = go (ℕ_discrete (f p) p)
    where
      go : Dec (f p ≡ p) → past (f p) ≡ f p
      go (yes e) = past_p e
      go (no n) = past_other n

  past_step : (x z : ℕ) → Meets (without f p) x (past z) → Meets (without f p) x (past (f z))
  past_step x z h = go (ℕ_discrete z p) (ℕ_discrete (f z) p)
    where
      go : Dec (z ≡ p) → Dec (f z ≡ p) → Meets (without f p) x (past (f z))
      go (yes e) d = rw (e, past_fp) (rw (past_p e) at h)
      go (no n) (yes e) =
          rw (past_p e, ← without_over f n e) (meets_trans (without f p) (rw (past_other n) at h) (meets_next (without f p) z))
      go (no n) (no m) =
          rw (past_other m, ← without_keep f n m) (meets_trans (without f p) (rw (past_other n) at h) (meets_next (without f p) z))

  pub meets_without : {x y : ℕ} → x ≢ p → y ≢ p → Meets f x y → Meets (without f p) x y
  meets_without {x} {y} nx ny m =
      rw (past_other ny) at (meets_ind f (λ z. Meets (without f p) x (past z)) (past_step x) m (rw (past_other nx) (meets_refl (without f p) x)))

-- SKIP: among the numbers left, the same are on one cycle as before
pub skip_meets : (f : ℕ → ℕ) {p q x y : ℕ} → x ≢ p → x ≢ q → y ≢ p → y ≢ q → Meets (skip f p q) x y ↔ Meets f x y
unfolding skip
skip_meets f {p} {q} xp xq yp yq = (
  λ m. without_meets f p (without_meets (without f p) q m),
  λ m. meets_without (without f p) q xq yq (meets_without f p xp yp m),
)
