-- Tests 3 to 5 hold exactly of a table that holds a map of its survivors.
--   Led t past d x  == some survivor below d leads to x
--   Link D t past x == what tests 3 to 5 say of dart x
use mathlib.Core.Bool.{Bool, true, false, ◌||◌, ◌&&◌, not}
use mathlib.Core.List.{List}
use mathlib.Core.Logic.Iff
use mathlib.Core.Logic.{◌≢◌, ◌↔◌, ◌⊎◌, inl, inr, ⊎_elim}
use mathlib.Core.Path.{◌≡◌, sym}
use Prim.Native.Nat.{ℕ, zero, suc, ◌+◌, ◌%◌, ◌<◌, ◌≤◌}
use native.Mathlib.Decide.{ℕ_discrete, dec_lt}
use native.Mathlib.Nat.{not-suc-le-zero}
use native.Mathlib.Omega.{arith}
use lib.Dec.{T, eqb, ltb, ltb→lt, lt→ltb}
use lib.ListN.{length}
use Rattle.permutations.specs.Choice.{T?, T→true, not_T→false, eqb_iff, and_iff, or_iff, not_iff}
use Rattle.std.proofs.Common.{if◌then◌else◌}
use Rattle.darts.specs.Map.{successor, gone, survives, culprits, passed}
use Rattle.laws.specs.Standing.{Standing}
use Rattle.laws.proofs.bridge.Standing.{live, live_iff, entry_live, entry_one}
use Rattle.laws.proofs.bridge.StandsBy.{stands_by}
use Rattle.darts.specs.Tests.{led, links, blamed, links_from, survivors_test, linked}

record Led (t past : List ℕ) (d x : ℕ) : Type 0 where
  dart : ℕ
  lower : dart < d
  survivor : T (survives past dart)
  leads : successor t dart ≡ x

led_iff : (t past : List ℕ) (d x : ℕ) → T (led t past d x) ↔ Led t past d x
unfolding led
led_iff t past zero x = (λ h. absurd h, λ l. absurd (not-suc-le-zero l.lower))
led_iff t past (suc d) x = step (led_iff t past d x)
  where
    here : T (survives past d && eqb (successor t d) x) ↔ (T (survives past d) × (successor t d ≡ x))
    here = and_iff (survives past d) (eqb (successor t d) x) Iff.rfl (λ s. eqb_iff (successor t d) x)

    step : T (led t past d x) ↔ Led t past d x → T ((survives past d && eqb (successor t d) x) || led t past d x) ↔ Led t past (suc d) x
    step rest =
        let i = or_iff (survives past d && eqb (successor t d) x) (led t past d x) here rest in (
          λ h. ⊎_elim
              (λ e. record { dart = d; lower = omega arith; survivor = e.0; leads = e.1 })
              (λ l. record { dart = l.dart; lower = omega (arith, l.lower); survivor = l.survivor; leads = l.leads }) (i.0 h),
          λ l. i.1 (go l (ℕ_discrete l.dart d)),
        )
      where
        go : (l : Led t past (suc d) x) → Dec (l.dart ≡ d) → (T (survives past d) × (successor t d ≡ x)) ⊎ Led t past d x
        go l (yes e) = inl (rw (← e) l.survivor, rw (← e) l.leads)
        go l (no n) = inr (record { dart = l.dart; lower = omega (arith, l.lower); survivor = l.survivor; leads = l.leads })

record Link (D : ℕ) (t past : List ℕ) (x : ℕ) : Type 0 where
  inside : successor t x < D
  onward : T (survives past x) → T (survives past (successor t x))
  alone : T (survives past x) → (y : ℕ) → y < x → T (survives past y) → successor t y ≢ successor t x

unless_iff : (g b : Bool) {B : Type 0} → T b ↔ B → T (g || b) ↔ (T (not g) → B)
unless_iff true b e = (λ h k. absurd k, λ h. tt)
unless_iff false b e = (λ h k. e.0 h, λ h. e.1 (h tt))

module _ (D : ℕ) (t past : List ℕ) where
  link_iff : (x : ℕ) → T (links D t past x) ↔ Link D t past x
  unfolding links survives
  link_iff x = (
    λ h. let (i, s) = tests.0 h in record {
      inside = i;
      onward = λ l. (s l).0;
      alone = λ l y b k e. (s l).1 (record { dart = y; lower = b; survivor = k; leads = e });
    },
    λ l. tests.1 (l.inside, λ s. (l.onward s, λ d. l.alone s d.dart d.lower d.survivor d.leads)),
  )
    where
      y : ℕ
      y = successor t x

      tests : T (links D t past x) ↔ ((y < D) × (T (survives past x) → T (survives past y) × (¬ Led t past x y)))
      tests = and_iff (ltb y D) _ (ltb→lt y D, lt→ltb y D) (λ i. unless_iff (gone past x) _
          (and_iff (survives past y) (not (led t past x y)) Iff.rfl (λ s. not_iff (led t past x y) (led_iff t past x y))))

  -- the test is passed where each of the n darts from y on is linked
  from_iff : (n y : ℕ) → T (passed (links_from D t past n y)) ↔ ((x : ℕ) → y ≤ x → x < y + n → Link D t past x)
  unfolding links_from
  from_iff zero y = (λ h x l b. absurd (omega arith), λ h. tt)
  from_iff (suc n) y = go (T? (links D t past y)) (from_iff n (suc y))
    where
      go : Dec (T (links D t past y)) → T (passed (links_from D t past n (suc y))) ↔ ((x : ℕ) → suc y ≤ x → x < suc y + n → Link D t past x)
          → T (passed (if links D t past y then links_from D t past n (suc y) else culprits y (blamed D t past y)))
          ↔ ((x : ℕ) → y ≤ x → x < y + suc n → Link D t past x)
      go (yes k) i = rw (T→true (links D t past y) k)
          (λ h x l b. first x l b (ℕ_discrete x y) (i.0 h), λ f. i.1 (λ x l b. f x (omega arith) (omega arith)))
        where
          first : (x : ℕ) → y ≤ x → x < y + suc n → Dec (x ≡ y) → ((x : ℕ) → suc y ≤ x → x < suc y + n → Link D t past x) → Link D t past x
          first x l b (yes e) f = rw e ((link_iff y).0 k)
          first x l b (no m) f = f x (omega arith) (omega arith)
      go (no k) i = rw (not_T→false (links D t past y) k) (λ h. absurd h, λ f. k ((link_iff y).1 (f y (omega arith) (omega arith))))

  linked_iff : T (linked D t past) ↔ ((x : ℕ) → x < D → Link D t past x)
  unfolding survivors_test
  linked_iff = (λ h x b. (from_iff D 0).0 h x (omega arith) (omega arith), λ f. (from_iff D 0).1 (λ x l b. f x (omega arith)))

  -- TESTS 3 TO 5 HOLD EXACTLY OF A TABLE THAT STANDS
  pub linked_stands : D % 2 ≡ 0 → length t ≡ D → T (linked D t past) ↔ Standing D t past
  linked_stands even size = (λ h. stand (linked_iff.0 h), λ S. linked_iff.1 (link S))
    where
      stand : ((x : ℕ) → x < D → Link D t past x) → Standing D t past
      stand f = stands_by D t past even size (λ x h. (f x h).inside) onward alone
        where
          onward : (x : ℕ) → T (live D past x) → T (live D past (successor t x))
          onward x h =
              let (b, s) = (live_iff D past x).0 h in
              (live_iff D past (successor t x)).1 ((f x b).inside, (f x b).onward s)

          alone : (x y : ℕ) → T (live D past x) → T (live D past y) → successor t x ≡ successor t y → x ≡ y
          alone x y h k e = go ((live_iff D past x).0 h) ((live_iff D past y).0 k) (dec_lt x y) (dec_lt y x)
            where
              go : (x < D) × T (survives past x) → (y < D) × T (survives past y) → Dec (x < y) → Dec (y < x) → x ≡ y
              go (b, s) (c, u) (yes l) d = absurd ((f y c).alone u x l s e)
              go (b, s) (c, u) (no n) (yes l) = absurd ((f x b).alone s y l u (sym e))
              go (b, s) (c, u) (no n) (no m) = omega arith

      link : Standing D t past → (x : ℕ) → x < D → Link D t past x
      link S x b = record {
        inside = S.inside x b;
        onward = λ s. ((live_iff D past (successor t x)).0 (entry_live S x (lives x b s))).1;
        alone = λ s y l k e. let c : y < D = omega arith in
            let i = entry_one S y (lives y c k) x (lives x b s) e in omega arith;
      }
        where
          lives : (x : ℕ) → x < D → T (survives past x) → T (live D past x)
          lives x b s = (live_iff D past x).1 (b, s)
