-- Tests 1 and 2 of one history number, and tests 6 to 15 of one operation, for both kinds at once.
--   Fit now p near far == the tests of an operation with the lead p: `now` tells the survivors, `near` and `far` where the darts before p and
--                         before q lead
use mathlib.Core.Bool.{Bool, ◌&&◌, not}
use mathlib.Core.List.{List, ◌∷◌}
use mathlib.Core.Logic.Iff
use mathlib.Core.Logic.{◌≢◌, ◌↔◌}
use mathlib.Core.Path.{◌≡◌, refl, sym}
use Prim.Native.Nat.{ℕ, ◌*◌, ◌/◌, ◌%◌, ◌<◌}
use native.Mathlib.Omega.{arith}
use native.Mathlib.Decide.{ℕ_discrete}
use lib.Dec.{T, eqb, ltb, ltb→lt, lt→ltb}
use Rattle.permutations.specs.Choice.{pick, T-ext, eqb_same, eqb_other, eqb_iff, and_iff, not_iff}
use Rattle.permutations.specs.Partner.{partner}
use Rattle.darts.specs.Map.{successor, gone, survives}
use Rattle.darts.specs.Operation.{Kind, contraction, removal, kind_of, lead_of}
use Rattle.laws.proofs.bridge.Standing.{live}
use Rattle.laws.proofs.bridge.Relink.{near_entry, far_entry}
use Rattle.darts.specs.Tests.{numbered, near, far, fits}

-- TESTS 1 AND 2 SAY THAT THE LEAD OF EACH OPERATION SURVIVES THE ONES BEFORE IT
pub numbered_iff : (D h : ℕ) (past : List ℕ) → T (numbered D (h ∷ past)) ↔ (T (live D past (lead_of h)) × T (numbered D past))
unfolding numbered live survives lead_of
numbered_iff D h past =
    let p = h / 2 in
    let i = and_iff (ltb h (2 * D)) _ (below D h) (λ b. and_iff (not (gone past p)) (numbered D past) Iff.rfl (λ s. Iff.rfl)) in
    let j = and_iff (ltb p D) (not (gone past p)) (ltb→lt p D, lt→ltb p D) (λ b. Iff.rfl) in
    (λ n. let (b, s) = i.0 n in (j.1 (b, s.0), s.1), λ n. let (b, s) = j.0 n.0 in i.1 (b, (s, n.1)))
  where
    below : (D h : ℕ) → T (ltb h (2 * D)) ↔ (h / 2 < D)
    below D h = (λ l. let k = ltb→lt h (2 * D) l in omega arith, λ l. lt→ltb h (2 * D) (omega arith))

pub data Fit (now : ℕ → Bool) (p near far : ℕ) : Type 0 where
  one : near ≡ partner p → T (now far) → Fit now p near far
  two : near ≢ partner p → p % 2 ≡ 0 → T (now near) → T (now far) → near ≢ far → Fit now p near far

module _ (now : ℕ → Bool) where
  two_iff : (r s : ℕ) → T (now r && (now s && not (eqb r s))) ↔ (T (now r) × (T (now s) × (r ≢ s)))
  two_iff r s = and_iff (now r) _ Iff.rfl (λ h. and_iff (now s) _ Iff.rfl (λ k. not_iff (eqb r s) (eqb_iff r s)))

  -- the tests of r and s do not depend on their order
  pub any_order : (k : Kind) (r s : ℕ) → (let n : ℕ = near k r s in let f : ℕ = far k r s in
      (now r && (now s && not (eqb r s))) ≡ (now n && (now f && not (eqb n f))))
  unfolding near
  any_order removal r s = refl
  any_order contraction r s = T-ext _ _ (turn r s) (turn s r)
    where
      turn : (r s : ℕ) → T (now r && (now s && not (eqb r s))) → T (now s && (now r && not (eqb s r)))
      turn r s h = let (a, b) = (two_iff r s).0 h in (two_iff s r).1 (b.0, (a, λ e. b.1 (sym e)))

  fit_iff : (k : Kind) (p r s : ℕ) → (let n : ℕ = near k r s in let f : ℕ = far k r s in
      T (pick (eqb n (partner p)) (now f) (eqb (p % 2) 0 && (now r && (now s && not (eqb r s))))) ↔ Fit now p n f)
  fit_iff k p r s = go (ℕ_discrete (near k r s) (partner p))
    where
      go : Dec (near k r s ≡ partner p)
          → T (pick (eqb (near k r s) (partner p)) (now (far k r s)) (eqb (p % 2) 0 && (now r && (now s && not (eqb r s))))) ↔ Fit now p (near k r s) (far k r s)
      go (yes e) = rw (eqb_same e) (λ h. one e h, single)
        where
          single : Fit now p (near k r s) (far k r s) → T (now (far k r s))
          single (one i h) = h
          single (two n i a b d) = b
      go (no n) =
          let i = and_iff (eqb (p % 2) 0) _ (eqb_iff (p % 2) 0) (λ h. two_iff (near k r s) (far k r s)) in
          rw (eqb_other n, any_order k r s) (λ h. let (a, b) = i.0 h in two n a b.0 b.1.0 b.1.1, λ f. i.1 (double f))
        where
          double : Fit now p (near k r s) (far k r s) → (p % 2 ≡ 0) × (T (now (near k r s)) × (T (now (far k r s)) × (near k r s ≢ far k r s)))
          double (one i h) = absurd (n i)
          double (two m i a b d) = (i, (a, (b, d)))

-- THE TESTS OF AN OPERATION SAY THAT IT FITS
pub fits_iff : (D : ℕ) (t : List ℕ) (h : ℕ) (past : List ℕ) → (let k : Kind = kind_of h in let p : ℕ = lead_of h in
    T (fits D t h past) ↔ Fit (live D (h ∷ past)) p (near_entry k t p) (far_entry k t p))
unfolding fits
fits_iff D t h past =
    let k = kind_of h in
    let p = lead_of h in
    fit_iff (live D (h ∷ past)) k p (successor t p) (successor t (partner p))
