-- Merges that agree on the first operations: what is said of those operations is the same of both.
--   First ms ns n    == the first n operations merge the same by ms and by ns
--   merged_same, returned_same == they lead to the same sheets, and so do their undos
--   right_same       == the same sheets are right
--   merges_first     == a history that goes on merges the same at first
use mathlib.Core.Bool.{Bool, not, ◌||◌, ◌&&◌}
use mathlib.Core.List.{List, [], ◌∷◌, ◌++◌}
use mathlib.Core.Path.{◌≡◌, refl, ap, ap₂, ◌∙◌}
use Prim.Native.Nat.{ℕ, zero, suc, ◌+◌, ◌-◌, ◌≤◌, ◌<◌}
use native.Mathlib.Omega.{arith}
use lib.ListN.{length}
use Rattle.permutations.specs.Choice.{pick}
use Rattle.darts.specs.Operation.{kind_of, edge_of}
use Rattle.sheets.specs.declared.Zone.{Zone}
use Rattle.sheets.specs.Records.{merge_of, same_zone, at}
use Rattle.sheets.specs.Sheets.{Sheets, Merge, none, into, low_into, high_of, merged, returned, merged_by, returned_by, last_into, sound, kept_sound, kept_right, sheet_right, right}
use Rattle.yarn.specs.Places.{lowest, zoned, merges_of, merges}
use Rattle.yarn.proofs.Merging.{Last, never, by, last}

pub record First (ms ns : ℕ → Merge) (n : ℕ) : Type 0 where
  pub same : (t : ℕ) → t < n → ms t ≡ ns t

first_less : {ms ns : ℕ → Merge} {n m : ℕ} → First ms ns n → m ≤ n → First ms ns m
first_less F l = record { same = λ t h. F.same t (omega arith) }

module _ {ms ns : ℕ → Merge} where
  -- ---- operations and undos

  pub merged_same : {n : ℕ} → First ms ns n → (t c : ℕ) → t + c ≤ n → (S : Sheets) → merged_by ms t c S ≡ merged_by ns t c S
  unfolding merged_by
  merged_same F t zero l S = refl
  merged_same F t (suc c) l S = rw (F.same t (omega arith)) (merged_same F (suc t) c (omega arith) (merged (ns t) t S))

  pub returned_same : {n : ℕ} → First ms ns n → (m c : ℕ) → m ≤ n → c ≤ m → (S : Sheets) → returned_by ms m c S ≡ returned_by ns m c S
  unfolding returned_by
  returned_same F m zero l k S = refl
  returned_same F m (suc c) l k S =
      rw (F.same (m - 1) (omega arith)) (returned_same F (m - 1) c (omega arith) (omega arith) (returned (ns (m - 1)) (m - 1) S))

  -- ---- right sheets

  last_same_first : (n x : ℕ) → First ms ns n → last_into ms n x ≡ last_into ns n x
  unfolding last_into
  last_same_first zero x F = refl
  last_same_first (suc t) x F = rw (F.same t (omega arith)) (ap (pick (low_into (ns t) x) (suc t)) (last_same_first t x (first_less F (omega arith))))

  sound_same : (S : Sheets) {n x l : ℕ} → First ms ns n → Last ms n x l → (z : Zone) → sound ms S l z ≡ sound ns S l z
  unfolding sound
  sound_same S F never z = refl
  sound_same S F (by t high h e) z = ap (λ m. same_zone (merge_of (at S.kept t) (at S.sheet (high_of m))) z) (F.same t h)

  module _ (S : Sheets) where
    last_sound : (n x : ℕ) (z : Zone) → First ms ns n → sound ms S (last_into ms n x) z ≡ sound ns S (last_into ns n x) z
    last_sound n x z F = sound_same S F (last ms n x) z ∙ ap (λ l. sound ns S l z) (last_same_first n x F)

    kept_same : (n : ℕ) → First ms ns n → kept_right ms S n ≡ kept_right ns S n
    unfolding kept_right kept_sound
    kept_same zero F = refl
    kept_same (suc t) F = ap₂ ◌&&◌ (kept_same t (first_less F (omega arith))) (ap (kept_sound ms S t) (F.same t (omega arith)) ∙ go (ns t))
      where
        go : (m : Merge) → kept_sound ms S t m ≡ kept_sound ns S t m
        go none = refl
        go (into low high) = last_sound t low (at S.kept t) (first_less F (omega arith))

    sheet_same : (place : ℕ → Bool) (n m : ℕ) → First ms ns n → sheet_right place ms n S m ≡ sheet_right place ns n S m
    unfolding sheet_right
    sheet_same place n zero F = refl
    sheet_same place n (suc x) F = ap₂ ◌&&◌ (sheet_same place n x F) (ap (λ b. not (place x) || b) (last_sound n x (at S.sheet x) F))

    pub right_same : (place : ℕ → Bool) (D n : ℕ) → First ms ns n → right place ms D n S ≡ right place ns D n S
    unfolding right
    right_same place D n F = ap₂ ◌&&◌ (kept_same n F) (sheet_same place n D F)

same_at : (R : ℕ → ℕ) (hs more : List ℕ) (t : ℕ) → t < length hs → merges_of R (hs ++ more) t ≡ merges_of R hs t
unfolding merges_of
same_at R [] more t l = absurd (omega arith)
same_at R (h ∷ hs) more zero l = refl
same_at R (h ∷ hs) more (suc t) l = same_at (zoned (kind_of h) R (edge_of h)) hs more t (omega arith)

pub merges_first : (D : ℕ) (b hs more : List ℕ) → First (merges D b (hs ++ more)) (merges D b hs) (length hs)
unfolding merges
merges_first D b hs more = record { same = same_at (lowest D b) hs more }
