-- More numbers below n than n are not all different.
--   close v a == a, with the gap at v closed
--   Clash h n == two different places up to n where h has the same value
use Rattle.std.specs.Prelude.{not, Bool, true, false, ◌⊎◌, ◌≢◌, ◌≡◌, refl, ℕ, ◌<◌, zero, ◌-◌, suc, ◌≤◌, ltb, T}
use Rattle.std.proofs.Common.{inr, inl, ⊎_elim, subst, sym, not-suc-le-zero, arith, ltb→lt, nltb→le}
use Rattle.std.proofs.Math.Decide.{ℕ_discrete, dec_lt}
use Rattle.permutations.specs.Choice.{pick}

find : (h : ℕ → ℕ) (v n : ℕ) → ((i : ℕ) × (i < n) × (h i ≡ v)) ⊎ ((i : ℕ) → i < n → h i ≢ v)
find h v zero = inr (λ i l. absurd (not-suc-le-zero l))
find h v (suc n) = go (ℕ_discrete (h n) v) (find h v n)
  where
    go : Dec (h n ≡ v) → ((i : ℕ) × (i < n) × (h i ≡ v)) ⊎ ((i : ℕ) → i < n → h i ≢ v)
        → ((i : ℕ) × (i < suc n) × (h i ≡ v)) ⊎ ((i : ℕ) → i < suc n → h i ≢ v)
    go (yes e) r = inl (n, omega arith, e)
    go (no m) (inl r) = inl (r.0, omega arith, r.2)
    go (no m) (inr r) = inr (λ i l. last i l (dec_lt i n))
      where
        last : (i : ℕ) → i < suc n → Dec (i < n) → h i ≢ v
        last i l (yes k) = r i k
        last i l (no k) = let e : i ≡ n = omega arith in rw e m

-- a, with the gap at v closed
close : ℕ → ℕ → ℕ
close v a = pick (ltb v a) (a - 1) a

close_either : (v a : ℕ) → ((v < a) × (close v a ≡ a - 1)) ⊎ ((a ≤ v) × (close v a ≡ a))
unfolding close
close_either v a = go (ltb v a) refl
  where
    go : (b : Bool) → ltb v a ≡ b → ((v < a) × (pick b (a - 1) a ≡ a - 1)) ⊎ ((a ≤ v) × (pick b (a - 1) a ≡ a))
    go true e = inl (ltb→lt v a (subst T (sym e) tt), refl)
    go false e = inr (nltb→le v a (subst (λ b. T (not b)) (sym e) tt), refl)

close_inj : (v a b : ℕ) → a ≢ v → b ≢ v → close v a ≡ close v b → a ≡ b
close_inj v a b m n e = go (close_either v a) (close_either v b)
  where
    go : ((v < a) × (close v a ≡ a - 1)) ⊎ ((a ≤ v) × (close v a ≡ a))
        → ((v < b) × (close v b ≡ b - 1)) ⊎ ((b ≤ v) × (close v b ≡ b)) → a ≡ b
    go (inl x) (inl y) = omega arith
    go (inl x) (inr y) = omega arith
    go (inr x) (inl y) = omega arith
    go (inr x) (inr y) = omega arith

close_below : (v a m : ℕ) → a ≢ v → v < suc m → a < suc m → close v a < m
close_below v a m n l k = ⊎_elim (λ x. omega arith) (λ x. omega arith) (close_either v a)

-- the values at `first` and `second`, two different places up to n, are the same
pub record Clash (h : ℕ → ℕ) (n : ℕ) : Type 0 where
  pub first : ℕ
  pub second : ℕ
  pub order : first < second
  pub last : second ≤ n
  pub same : h first ≡ h second

pub pigeonhole : (n : ℕ) (h : ℕ → ℕ) → ((i : ℕ) → i ≤ n → h i < n) → Clash h n
pigeonhole zero h l = absurd (not-suc-le-zero (l 0 (omega arith)))
pigeonhole (suc m) h l = go (λ r. pigeonhole m (λ i. close (h (suc m)) (h i)) (λ i k.
    close_below (h (suc m)) (h i) m (r i (omega arith)) (l (suc m) (omega arith)) (l i (omega arith)))) (find h (h (suc m)) (suc m))
  where
    go : (((i : ℕ) → i < suc m → h i ≢ h (suc m)) → Clash (λ i. close (h (suc m)) (h i)) m)
        → ((i : ℕ) × (i < suc m) × (h i ≡ h (suc m))) ⊎ ((i : ℕ) → i < suc m → h i ≢ h (suc m)) → Clash h (suc m)
    go rest (inl r) = record { first = r.0; second = suc m; order = r.1; last = omega arith; same = r.2 }
    go rest (inr r) =
        let c = rest r in
        record {
          first = c.first;
          second = c.second;
          order = c.order;
          last = omega arith;
          same = close_inj (h (suc m)) (h c.first) (h c.second) (r c.first (omega arith)) (r c.second (omega arith)) c.same;
        }
