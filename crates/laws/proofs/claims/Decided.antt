-- The decision whether a state with its table and past is a pyramid is right.
--   base_undone        == the base of a pyramid is what undo of everything gives
--   kernels_cut        == the kernels of a pyramid are those into which the level ends cut its past
--   Fits s t past b ks == b is a base, and the kernels ks on it give exactly s, t and past
--   pyramid_decided    == is_pyramid passes exactly where some base and some kernels fit
use mathlib.Core.Bool.{Bool, ◌&&◌}
use mathlib.Core.List.{List, [], ◌∷◌, cons≢nil}
use mathlib.Core.Logic.{◌↔◌}
use mathlib.Core.Path.{◌≡◌, refl, sym, ap, ap₂}
use Prim.Native.Nat.{ℕ}
use lib.Dec.{T, eqb}
use lib.ListN.{length}
use Rattle.permutations.specs.Choice.{eqb_iff, and_iff}
use Rattle.darts.specs.Map.{permutes, permutation_test, passed}
use Rattle.darts.specs.Operation.{undone}
use Rattle.darts.specs.State.{State, base_state, Result, gives, refuses}
use Rattle.darts.specs.Pyramid.{Kernel, Pyramid, dart_count, build, cut, kernels_of, same_numbers, same_state, is_exactly, is_pyramid}
use Rattle.laws.proofs.bridge.Verdicts.{passed_iff}
use Rattle.laws.proofs.runs.Ends.{state_path}
use Rattle.laws.proofs.runs.Results.{refuses≢gives}
use Rattle.laws.proofs.runs.Pyramids.{pyramid_built}

-- ---- what the tests say

equal_and : (m n : ℕ) (b : Bool) {B : Type 0} → T b ↔ B → T (eqb m n && b) ↔ ((m ≡ n) × B)
equal_and m n b e = and_iff (eqb m n) b (eqb_iff m n) (λ _. e)

same_numbers_lem : (xs ys : List ℕ) → T (same_numbers xs ys) ↔ (xs ≡ ys)
unfolding same_numbers
same_numbers_lem [] [] = (λ h. refl, λ e. tt)
same_numbers_lem [] (y ∷ ys) = (λ h. absurd h, λ e. cons≢nil (sym e))
same_numbers_lem (x ∷ xs) [] = (λ h. absurd h, cons≢nil)
same_numbers_lem (x ∷ xs) (y ∷ ys) =
    let parts = equal_and x y (same_numbers xs ys) (same_numbers_lem xs ys) in
    (λ h. let p = parts.0 h in ap₂ ◌∷◌ p.0 p.1, λ e. parts.1 (cc, cc))

same_state_lem : (s z : State) → T (same_state s z) ↔ (s ≡ z)
unfolding same_state
same_state_lem s z =
    let numbers = equal_and s.vertices z.vertices _ (eqb_iff s.faces z.faces) in
    let marks = and_iff (same_numbers s.ends z.ends) _ (same_numbers_lem s.ends z.ends) (λ _. numbers) in
    let level = equal_and s.levels z.levels _ marks in
    let operation = equal_and s.operations z.operations _ level in
    let parts = equal_and s.darts z.darts _ operation in (
      λ h. let p = parts.0 h in state_path p.0 p.1.0 p.1.1.0 p.1.1.1.0 p.1.1.1.1.0 p.1.1.1.1.1,
      λ e. parts.1 (ap (λ x. x.darts) e, (ap (λ x. x.operations) e, (ap (λ x. x.levels) e, (ap (λ x. x.ends) e, (ap (λ x. x.vertices) e, ap (λ x. x.faces) e))))),
    )

exactly : (s : State) (t past : List ℕ) (r : Result) → T (is_exactly s t past r) ↔ (r ≡ gives s t past)
unfolding is_exactly
exactly s t past (gives z u new) =
    let parts = and_iff (same_state s z) _ (same_state_lem s z) (λ _. and_iff (same_numbers t u) _ (same_numbers_lem t u) (λ _. same_numbers_lem past new)) in
    (λ h. let p = parts.0 h in λ i. gives (sym p.0 i) (sym p.1.0 i) (sym p.1.1 i), λ e. parts.1 (cc, (cc, cc)))
exactly s t past (refuses a) = (λ h. absurd h, λ e. absurd (refuses≢gives e))

-- ---- the only base and the only kernels that can fit

module _ {s : State} {t past : List ℕ} (P : Pyramid s t past) where
  pub base_undone : undone s.darts (length past) t past ≡ P.base
  unfolding undone
  base_undone = (pyramid_built P).base

  pub kernels_cut : kernels_of s past ≡ P.kernels
  unfolding kernels_of cut
  kernels_cut = (pyramid_built P).kernels

-- ---- the decision

abbrev Fits : State → List ℕ → List ℕ → List ℕ → List Kernel → Type 0
Fits s t past b ks =
    T (dart_count s.darts) × ((length b ≡ s.darts) × ((permutation_test s.darts b ≡ permutes) × (build (base_state s.darts b) b [] ks ≡ gives s t past)))

-- the base that undo gives and the kernels that the level ends give are tried
tried : (s : State) (t past b : List ℕ) (ks : List Kernel) → undone s.darts (length past) t past ≡ b → kernels_of s past ≡ ks
    → T (is_pyramid s t past) ↔ Fits s t past b ks
unfolding is_pyramid
tried s t past b ks e f =
    let D = s.darts in
    let built = exactly s t past (build (base_state D b) b [] ks) in
    rw (e, f) (and_iff (dart_count D) _ (λ h. h, λ h. h) (λ _. equal_and (length b) D _ (and_iff (passed (permutation_test D b)) _ (passed_iff (permutation_test D b)) (λ _. built))))

fits_pyramid : {s : State} {t past : List ℕ} (b : List ℕ) (ks : List Kernel) → Fits s t past b ks → Pyramid s t past
fits_pyramid b ks f = record { count = f.0; base = b; size = f.1.0; permutation = f.1.1.0; kernels = ks; built = f.1.1.1 }

pyramid_fits : {s : State} {t past : List ℕ} (P : Pyramid s t past) → Fits s t past P.base P.kernels
pyramid_fits P = (P.count, (P.size, (P.permutation, P.built)))

-- THE DECISION IS RIGHT
pub pyramid_decided : (s : State) (t past : List ℕ) → T (is_pyramid s t past) ↔ Pyramid s t past
pyramid_decided s t past =
    let b = undone s.darts (length past) t past in
    let ks = kernels_of s past in (
      λ h. fits_pyramid b ks ((tried s t past b ks refl refl).0 h),
      λ P. (tried s t past P.base P.kernels (base_undone P) (kernels_cut P)).1 (pyramid_fits P),
    )
