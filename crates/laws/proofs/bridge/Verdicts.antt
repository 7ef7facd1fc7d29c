-- What the permutation test says, taken apart.
--   not_permutes == culprits are no permutation
--   same_culprits == the same culprits, one by one
--   passed_iff   == the test is passed where there are none
--   test_same    == it looks at the first D numbers of a table alone
use mathlib.Core.Bool.{not}
use mathlib.Core.List.{List, []}
use mathlib.Core.Logic.{◌↔◌}
use mathlib.Core.Path.{◌≡◌, refl, sym, ap, ◌∙◌, subst}
use Prim.Native.Nat.{ℕ, zero, suc, ◌+◌, ◌≤◌, ◌<◌}
use native.Mathlib.Omega.{arith}
use lib.Dec.{T}
use lib.ListN.{get_or, take}
use lib.Seq.{get_or-take}
use Rattle.darts.specs.Map.{successor, before_in, repeats, culprit, Verdict, permutes, culprits, test_from, permutation_test, passed}

pub not_permutes : {d c : ℕ} → culprits d c ≡ permutes → ⊥
not_permutes e = subst (λ v. T (not (passed v))) e tt

pub same_culprits : {d e b c : ℕ} → culprits d b ≡ culprits e c → (d ≡ e) × (b ≡ c)
same_culprits e = (cc, cc)

pub passed_iff : (v : Verdict) → T (passed v) ↔ (v ≡ permutes)
passed_iff permutes = (λ h. refl, λ e. tt)
passed_iff (culprits d c) = (λ h. absurd h, λ e. not_permutes e)

-- ---- the first D numbers of a table

module _ (D : ℕ) (t t' : List ℕ) (e : take D t ≡ take D t') where
  entry_same : (x : ℕ) → x < D → successor t x ≡ successor t' x
  unfolding successor
  entry_same x l = sym (get_or-take D t x 0 l) ∙ ap (λ (u : List ℕ). get_or u x 0) e ∙ get_or-take D t' x 0 l

  repeats_same : (d x : ℕ) → d ≤ D → repeats t d x ≡ repeats t' d x
  unfolding repeats
  repeats_same zero x l = refl
  repeats_same (suc d) x l = rw (entry_same d (omega arith), repeats_same d x (omega arith))

  before_same : (d x : ℕ) → d ≤ D → before_in d t [] x ≡ before_in d t' [] x
  unfolding before_in
  before_same zero x l = refl
  before_same (suc d) x l = rw (entry_same d (omega arith), before_same d x (omega arith))

  test_from_same : (n d : ℕ) → d + n ≤ D → test_from D t n d ≡ test_from D t' n d
  unfolding test_from culprit
  test_from_same zero d l = refl
  test_from_same (suc n) d l =
      rw (entry_same d (omega arith), repeats_same d (successor t' d) (omega arith), before_same d (successor t' d) (omega arith), test_from_same n (suc d) (omega arith))

  pub test_same : permutation_test D t ≡ permutation_test D t'
  unfolding permutation_test
  test_same = test_from_same D 0 (omega arith)
