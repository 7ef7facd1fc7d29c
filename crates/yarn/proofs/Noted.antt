-- Merges that are noted in the work area, and the merges of the operations: where they agree, so do the sheets.
--   Agree f g t c  == f and g tell the same merges of the c operations from t on
--   merged_agree, fits_agree == then the sheets are the same after them, and the stitches fit alike
--   Within D m     == the two places of a merge are below D
--   noted_within   == notes that agree with such merges lead to places of the sheets
use mathlib.Core.List.{List}
use mathlib.Core.Path.{◌≡◌, refl, sym, ap, subst, ◌∙◌}
use Prim.Native.Nat.{ℕ, zero, suc, ◌+◌, ◌*◌, ◌/◌, ◌%◌, ◌≤◌, ◌<◌}
use native.Mathlib.Decide.{ℕ_discrete}
use native.Mathlib.Nat.{add-zero}
use native.Mathlib.Omega.{arith}
use lib.ListN.{get_or, length}
use Rattle.permutations.specs.Choice.{eqb_other}
use Rattle.sheets.specs.Sheets.{Sheets, Merge, none, into, merged, merged_by}
use Rattle.sheets.specs.Notes.{merge_in, notes_in, Noted, FitsOne, Fits}

abbrev pub Agree : (ℕ → Merge) → (ℕ → Merge) → ℕ → ℕ → Type 0
Agree f g t c = (i : ℕ) → i < c → f (t + i) ≡ g (t + i)

module _ (f g : ℕ → Merge) where
  agree_first : (t c : ℕ) → Agree f g t (suc c) → f t ≡ g t
  agree_first t c A = subst (λ n. f n ≡ g n) (add-zero t) (A 0 (omega arith))

  agree_rest : (t c : ℕ) → Agree f g t (suc c) → Agree f g (suc t) c
  agree_rest t c A i h = let e : t + suc i ≡ suc t + i = omega arith in subst (λ n. f n ≡ g n) e (A (suc i) (omega arith))

  pub merged_agree : (t c : ℕ) → Agree f g t c → (S : Sheets) → merged_by f t c S ≡ merged_by g t c S
  unfolding merged_by
  merged_agree t zero A S = refl
  merged_agree t (suc c) A S =
      ap (λ m. merged_by f (suc t) c (merged m t S)) (agree_first t c A) ∙ merged_agree (suc t) c (agree_rest t c A) (merged (g t) t S)

  pub fits_agree : (t c : ℕ) → Agree f g t c → (S : Sheets) → Fits g t c S → Fits f t c S
  fits_agree t zero A S F = tt
  fits_agree t (suc c) A S F =
      let e = agree_first t c A in (
        subst (λ m. FitsOne m S) (sym e) F.0,
        subst (λ m. Fits f (suc t) c (merged m t S)) (sym e) (fits_agree (suc t) c (agree_rest t c A) (merged (g t) t S) F.1),
      )

-- ---- where notes lead

abbrev pub Within : ℕ → Merge → Type 0
Within D none = Unit {0}
Within D (into low high) = (low < D) × (high < D)

leads : (D v : ℕ) → 0 < D → Within D (merge_in v) → (v / 65536 < D) × (v % 65536 < D)
unfolding merge_in
leads D v some w = go (ℕ_discrete v 0)
  where
    go : Dec (v ≡ 0) → (v / 65536 < D) × (v % 65536 < D)
    go (yes e) = (omega arith, omega arith)
    go (no n) = rw (eqb_other n) at w

pub noted_within : {D n m : ℕ} {w : List ℕ} (ms : ℕ → Merge) → 0 < D → D ≤ 65536 → n ≤ m → m ≤ D / 2 → 4 * D ≤ length w
    → ((t : ℕ) → n ≤ t → t < m → notes_in D w t ≡ ms t) → ((t : ℕ) → n ≤ t → t < m → Within D (ms t)) → Noted D n m w
unfolding notes_in
noted_within {D} {w = w} ms some small rises few fits same within =
    record {
      small = small;
      rises = rises;
      few = few;
      fits = fits;
      lows = λ t l h. (leads D (get_or w (3 * D + D / 2 + t) 0) some (subst (Within D) (sym (same t l h)) (within t l h))).0;
      highs = λ t l h. (leads D (get_or w (3 * D + D / 2 + t) 0) some (subst (Within D) (sym (same t l h)) (within t l h))).1;
    }
