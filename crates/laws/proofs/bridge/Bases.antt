-- A base: where no dart is bad, the table is a permutation of all darts.
--   bad D t d  == the search stops at d: its successor is no dart, or a lower dart has the same
--   Fine D t x == x is not bad
use mathlib.Core.Bool.{Bool, ◌||◌, ◌&&◌}
use mathlib.Core.List.{List, []}
use mathlib.Core.Logic.{◌≢◌, ◌⊎◌, ◌↔◌, inl, inr}
use mathlib.Core.Path.{◌≡◌, sym, ap, ◌∙◌}
use Prim.Native.Nat.{ℕ, zero, suc, ◌+◌, ◌%◌, ◌≤◌, ◌<◌}
use native.Mathlib.Decide.{ℕ_discrete, dec_lt}
use native.Mathlib.Nat.{not-suc-le-zero}
use native.Mathlib.Omega.{arith}
use lib.Dec.{T, eqb, leb, eqb→eq, nleb→lt, not_T}
use lib.ListN.{length}
use Rattle.permutations.specs.Choice.{T?, T→true, not_T→false, eqb_iff, or_intro, and_left}
use Rattle.std.proofs.Common.{if◌then◌else◌}
use Rattle.darts.specs.Map.{successor, gone, survives, repeats, culprit, permutes, culprits, test_from, permutation_test}
use Rattle.darts.specs.Pyramid.{dart_count}
use Rattle.laws.specs.Standing.{Standing}
use Rattle.laws.proofs.bridge.Standing.{live, live_iff}
use Rattle.laws.proofs.bridge.StandsBy.{stands_by}
use Rattle.laws.proofs.bridge.Verdicts.{not_permutes}

record Fine (D : ℕ) (t : List ℕ) (x : ℕ) : Type 0 where
  below : successor t x < D
  new : (y : ℕ) → y < x → successor t y ≢ successor t x

-- ---- the search for a bad dart

pub repeated : (t : List ℕ) (d x y : ℕ) → y < d → successor t y ≡ x → T (repeats t d x)
unfolding repeats
repeated t zero x y h e = absurd (not-suc-le-zero h)
repeated t (suc d) x y h e = or_intro (eqb (successor t d) x) (repeats t d x) (go (ℕ_discrete y d) (λ l. repeated t d x y l e))
  where
    go : Dec (y ≡ d) → (y < d → T (repeats t d x)) → T (eqb (successor t d) x) ⊎ T (repeats t d x)
    go (yes k) rest = inl ((eqb_iff (successor t d) x).1 (ap (successor t) (sym k) ∙ e))
    go (no n) rest = inr (rest (omega arith))

bad : ℕ → List ℕ → ℕ → Bool
bad D t d = leb D (successor t d) || repeats t d (successor t d)

not_bad : (D : ℕ) (t : List ℕ) (d : ℕ) → ¬ T (bad D t d) → Fine D t d
unfolding bad
not_bad D t d n = record {
  below = nleb→lt D (successor t d) (not_T (leb D (successor t d)) (λ l. n (intro (inl l))));
  new = λ y h e. n (intro (inr (repeated t d (successor t d) y h e)));
}
  where
    intro : T (leb D (successor t d)) ⊎ T (repeats t d (successor t d)) → T (bad D t d)
    intro = or_intro (leb D (successor t d)) (repeats t d (successor t d))

none_bad : (D : ℕ) (t : List ℕ) (n d : ℕ) → test_from D t n d ≡ permutes → (x : ℕ) → d ≤ x → x < d + n → Fine D t x
unfolding test_from bad
none_bad D t zero d e x l h = absurd (omega arith)
none_bad D t (suc n) d e x l h = go (T? (bad D t d)) (ℕ_discrete x d) e (λ k m. none_bad D t n (suc d) k x m (omega arith))
  where
    go : Dec (T (bad D t d)) → Dec (x ≡ d) → (if bad D t d then culprits d (culprit D t d) else test_from D t n (suc d)) ≡ permutes
        → (test_from D t n (suc d) ≡ permutes → suc d ≤ x → Fine D t x) → Fine D t x
    go (yes b) i e rest = absurd (not_permutes (rw (T→true (bad D t d) b) at e))
    go (no b) (yes i) e rest = rw i (not_bad D t d b)
    go (no b) (no i) e rest = rest (rw (not_T→false (bad D t d) b) at e) (omega arith)

-- ---- a base stands

module _ {D : ℕ} {t : List ℕ} (fine : (x : ℕ) → x < D → Fine D t x) where
  one : (x y : ℕ) → x < D → y < D → successor t x ≡ successor t y → x ≡ y
  one x y h k e = go (dec_lt x y) (dec_lt y x)
    where
      go : Dec (x < y) → Dec (y < x) → x ≡ y
      go (yes l) d = absurd ((fine y k).new x l e)
      go (no n) (yes l) = absurd ((fine x h).new y l (sym e))
      go (no n) (no m) = omega arith

-- in a base every dart survives
pub all_live : (D x : ℕ) → T (live D [] x) ↔ (x < D)
unfolding survives gone
all_live D x = (λ l. ((live_iff D [] x).0 l).0, λ h. (live_iff D [] x).1 (h, tt))

-- A BASE STANDS
pub base_stands : (D : ℕ) (t : List ℕ) → T (dart_count D) → length t ≡ D → permutation_test D t ≡ permutes → Standing D t []
unfolding dart_count permutation_test
base_stands D t count size permutation =
    stands_by D t [] even size (λ x h. (fine x h).below) (λ x l. (all_live D (successor t x)).1 (fine x ((all_live D x).0 l)).below)
    (λ x y l k e. one fine x y ((all_live D x).0 l) ((all_live D y).0 k) e)
  where
    even : D % 2 ≡ 0
    even = eqb→eq (D % 2) 0 (and_left (eqb (D % 2) 0) (leb 2 D && leb D 65536) count)

    fine : (x : ℕ) → x < D → Fine D t x
    fine x h = none_bad D t D 0 permutation x (omega arith) (omega arith)
