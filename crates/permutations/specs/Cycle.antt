-- Walking by a permutation: which numbers are on one cycle.
--   walk f k x      == where k steps of f lead from x
--   Meets f x y     == y is met on the walk from x
--   meets_in f n x y == the test whether y is met within n steps
--   Round π x       == some 1 to D steps lead from x back to x (one step, from D on)
use Rattle.std.specs.Prelude.{Bool, ◌||◌, ◌⊎◌, ◌↔◌, ◌≡◌, T, eqb}
use Rattle.std.proofs.Math.Logic.{inl, inr}
use Rattle.std.proofs.Common.{⊎_elim, ◌∙◌, subst, suc-mul, mod-lt, div-add-mod', not-suc-le-zero, le_of_suc-le-suc, eqb→eq}
use Rattle.std.proofs.Math.Path.{refl, ap, sym}
use Prim.Native.Nat.{ℕ, zero, suc, ◌-◌, ◌+◌, ◌<◌, ◌≤◌, ◌*◌, ◌%◌, ◌/◌}
use Rattle.std.proofs.Math.Decide.{dec_lt}
use Rattle.std.proofs.Math.Nat.{zero-add, suc-add, zero-mul}
use native.Mathlib.Omega.{arith}
use Rattle.std.proofs.Math.Dec.{eqb_refl}
use Rattle.permutations.specs.Choice.{or_cases, or_intro, T?}
use Rattle.permutations.specs.Perm.{Perm, inj, below}
use Rattle.permutations.specs.Pigeonhole.{pigeonhole}

unfoldable pub walk : (ℕ → ℕ) → ℕ → ℕ → ℕ
walk f zero x = x
walk f (suc k) x = walk f k (f x)

pub record Meets (f : ℕ → ℕ) (x y : ℕ) : Type 0 where
  pub steps : ℕ
  pub there : walk f steps x ≡ y

unfoldable pub meets_in : (ℕ → ℕ) → ℕ → ℕ → ℕ → Bool
meets_in f zero x y = eqb x y
meets_in f (suc n) x y = eqb x y || meets_in f n (f x) y

-- ---- walking, and meeting on the way

module _ (f : ℕ → ℕ) where
  pub walk_add : (j k x : ℕ) → walk f (j + k) x ≡ walk f k (walk f j x)
  unfolding walk
  walk_add zero k x = rw zero-add
  walk_add (suc j) k x = rw suc-add (walk_add j k (f x))

  pub meets_refl : (x : ℕ) → Meets f x x
  unfolding walk
  meets_refl x = record { steps = 0; there = refl }

  pub meets_eq : {x y : ℕ} → x ≡ y → Meets f x y
  unfolding walk
  meets_eq e = record { steps = 0; there = e }

  pub meets_next : (x : ℕ) → Meets f x (f x)
  unfolding walk
  meets_next x = record { steps = 1; there = refl }

  pub meets_trans : {x y z : ℕ} → Meets f x y → Meets f y z → Meets f x z
  meets_trans {x} {y} {z} a b = record {
    steps = a.steps + b.steps;
    there = walk_add a.steps b.steps x ∙ ap (walk f b.steps) a.there ∙ b.there;
  }

  pub walk_ind : (P : ℕ → Type 0) → ((z : ℕ) → P z → P (f z)) → (k x : ℕ) → P x → P (walk f k x)
  unfolding walk
  walk_ind P step zero x h = h
  walk_ind P step (suc k) x h = walk_ind P step k (f x) (step x h)

  -- what holds of x, and of f z whenever of z, holds of all that x meets
  pub meets_ind : (P : ℕ → Type 0) → ((z : ℕ) → P z → P (f z)) → {x y : ℕ} → Meets f x y → P x → P y
  meets_ind P step {x} {y} m h = subst P m.there (walk_ind P step m.steps x h)

-- ---- a permutation's walk comes back, so meeting goes both ways

module _ {D : ℕ} {f : ℕ → ℕ} (π : Perm D f) where
  walk_inj : (k : ℕ) {x y : ℕ} → walk f k x ≡ walk f k y → x ≡ y
  unfolding walk
  walk_inj zero e = e
  walk_inj (suc k) e = inj π (walk_inj k e)

  walk_below : (k x : ℕ) → x < D → walk f k x < D
  walk_below k x h = walk_ind f (λ z. z < D) (λ z l. below π l) k x h

  record Round (x : ℕ) : Type 0 where
    turn : ℕ
    some : 0 < turn
    short : (turn ≤ 1) ⊎ (turn ≤ D)
    again : walk f turn x ≡ x

  round : (x : ℕ) → Round x
  unfolding walk
  round x = go (dec_lt x D)
    where
      go : Dec (x < D) → Round x
      go (no n) = record { turn = 1; some = omega arith; short = inl (omega arith); again = π.still x (omega arith) }
      go (yes l) =
          let c = pigeonhole D (λ i. walk f i x) (λ i h. walk_below i x l) in
          let e : c.second - c.first + c.first ≡ c.second = omega arith in
          record {
            turn = c.second - c.first;
            some = omega arith;
            short = inr (omega arith);
            again = walk_inj c.first (sym (walk_add f (c.second - c.first) c.first x)
                ∙ ap (λ n. walk f n x) e ∙ sym c.same);
          }

  pub meets_back : (x : ℕ) → Meets f (f x) x
  unfolding walk
  meets_back x =
      let r = round x in
      let e : suc (r.turn - 1) ≡ r.turn = omega arith in
      record { steps = r.turn - 1; there = ap (λ n. walk f n x) e ∙ r.again }

  pub meets_sym : {x y : ℕ} → Meets f x y → Meets f y x
  meets_sym {x} {y} m = meets_ind f (λ z. Meets f z x) (λ z h. meets_trans f (meets_back z) h) m (meets_refl f x)

  many_rounds : (x n q : ℕ) → walk f n x ≡ x → walk f (q * n) x ≡ x
  unfolding walk
  many_rounds x n zero e = rw zero-mul
  many_rounds x n (suc q) e = rw (suc-mul, walk_add, many_rounds x n q e) e

  -- to meet y at all is to meet it within D steps
  pub soon : {x y : ℕ} → Meets f x y → (k : ℕ) × (k ≤ D) × (walk f k x ≡ y)
  soon {x} {y} m =
      let r = round x in
      let k = m.steps in
      let n = r.turn in
      let less : k % n < n = mod-lt k r.some in
      let e : walk f (k % n) x ≡ y =
      sym (ap (walk f (k % n)) (many_rounds x n (k / n) r.again))
      ∙ sym (walk_add f (k / n * n) (k % n) x) ∙ ap (λ i. walk f i x) (div-add-mod' k n) ∙ m.there in
      (k % n, ⊎_elim (λ h. omega arith) (λ h. omega arith) r.short, e)

-- ---- the test is right

meets_in_sound : (f : ℕ → ℕ) (n x y : ℕ) → T (meets_in f n x y) → Meets f x y
unfolding meets_in
meets_in_sound f zero x y t = meets_eq f (eqb→eq x y t)
meets_in_sound f (suc n) x y t =
    ⊎_elim (λ s. meets_eq f (eqb→eq x y s)) (λ s. meets_trans f (meets_next f x) (meets_in_sound f n (f x) y s))
    (or_cases (eqb x y) (meets_in f n (f x) y) t)

meets_in_complete : (f : ℕ → ℕ) (n x k : ℕ) → k ≤ n → T (meets_in f n x (walk f k x))
unfolding meets_in walk
meets_in_complete f zero x zero h = eqb_refl x
meets_in_complete f zero x (suc k) h = absurd (not-suc-le-zero h)
meets_in_complete f (suc n) x zero h = or_intro (eqb x x) (meets_in f n (f x) x) (inl (eqb_refl x))
meets_in_complete f (suc n) x (suc k) h =
    let y = walk f k (f x) in
    or_intro (eqb x y) (meets_in f n (f x) y) (inr (meets_in_complete f n (f x) k (le_of_suc-le-suc h)))

module _ {D : ℕ} {f : ℕ → ℕ} (π : Perm D f) (x y : ℕ) where
  pub meets_iff : Meets f x y ↔ T (meets_in f D x y)
  meets_iff = (
    λ m. let s = soon π m in subst (λ z. T (meets_in f D x z)) s.2 (meets_in_complete f D x s.0 s.1),
    meets_in_sound f D x y,
  )

  pub meets? : Dec (Meets f x y)
  meets? = go (T? (meets_in f D x y))
    where
      go : Dec (T (meets_in f D x y)) → Dec (Meets f x y)
      go (yes t) = yes (meets_iff.1 t)
      go (no n) = no (λ m. n (meets_iff.0 m))
