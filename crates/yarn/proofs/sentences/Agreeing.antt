-- Two pairs of sheets that are the same wherever they are looked at: operations and the decision do not tell them apart. `place` picks the places of a base's
-- records, and operation t merges ms t.
--   Agree place ms D n S Z == the sheets S and Z have the same lengths, and after n operations the same records wherever they are looked at
--   merged_agree, returned_agree == operations done or undone keep them so
--   right_agree            == they are right both, or neither is
use mathlib.Core.Bool.{Bool}
use mathlib.Core.List.{List}
use mathlib.Core.Logic.{◌≢◌}
use mathlib.Core.Path.{◌≡◌, refl, sym, ap₂, ◌∙◌, subst}
use Prim.Native.Nat.{ℕ, zero, suc, ◌+◌, ◌-◌, ◌≤◌, ◌<◌}
use native.Mathlib.Decide.{ℕ_discrete, dec_lt}
use native.Mathlib.Omega.{arith}
use lib.Dec.{T}
use lib.ListN.{length, set, length-set, get_or-eq_default}
use lib.Seq.{get_or-set_same, get_or-set_other}
use Rattle.permutations.specs.Choice.{T-ext}
use Rattle.sheets.specs.declared.Zone.{Zone}
use Rattle.sheets.specs.Records.{merge_of, at}
use Rattle.sheets.specs.Sheets.{Sheets, Merge, none, into, merged, returned, merged_by, returned_by, last_into, sound, right}
use Rattle.yarn.proofs.Merging.{Merging, last, Told, sound_told, told_less, Seen, Right, not_into, right_iff}

into≢none : {l h : ℕ} → into l h ≢ none
into≢none e = not_into (sym e)

-- one record is written on both
set_alike : (a b : List Zone) (i x : ℕ) (v w : Zone) → length a ≡ length b → v ≡ w → (x ≢ i → at a x ≡ at b x) → at (set a i v) x ≡ at (set b i w) x
set_alike a b i x v w same e rest = go (ℕ_discrete x i) (dec_lt i (length a))
  where
    go : Dec (x ≡ i) → Dec (i < length a) → at (set a i v) x ≡ at (set b i w) x
    go (no n) d = get_or-set_other a i x v _ n ∙ rest n ∙ sym (get_or-set_other b i x w _ n)
    go (yes k) (yes l) = rw k (get_or-set_same a i v _ l ∙ e ∙ sym (get_or-set_same b i w _ (omega arith)))
    go (yes k) (no n) =
        get_or-eq_default (set a i v) _ (simp length-set (omega arith)) ∙ sym (get_or-eq_default (set b i w) _ (simp length-set (omega arith)))

pub record Agree (place : ℕ → Bool) (ms : ℕ → Merge) (D n : ℕ) (S Z : Sheets) : Type 0 where
  pub sheet_length : length S.sheet ≡ length Z.sheet
  pub kept_length : length S.kept ≡ length Z.kept
  pub seen : Seen place ms D n S Z

module _ {place : ℕ → Bool} {ms : ℕ → Merge} {D N : ℕ} (M : Merging place ms D N) where
  -- ---- an operation done

  merged_one : (t : ℕ) → t < N → {S Z : Sheets} → Agree place ms D t S Z → (m : Merge) → ms t ≡ m → Agree place ms D (suc t) (merged m t S) (merged m t Z)
  unfolding merged
  merged_one t b {S} {Z} A none e = record {
    sheet_length = A.sheet_length;
    kept_length = A.kept_length;
    seen = record { sheet = A.seen.sheet; kept = λ i l n. A.seen.kept i (before i l n (ℕ_discrete i t)) n };
  }
    where
      before : (i : ℕ) → i < suc t → ms i ≢ none → Dec (i ≡ t) → i < t
      before i l n (yes k) = absurd (n (rw k e))
      before i l n (no k) = omega arith
  merged_one t b {S} {Z} A (into l h) e =
      let low = A.seen.sheet l (M.lows b e).0 (M.lows b e).1 in
      let high = A.seen.sheet h (M.highs b e).0 (M.highs b e).1 in
      record {
        sheet_length = simp length-set A.sheet_length;
        kept_length = simp length-set A.kept_length;
        seen = record {
          sheet = λ x d p. set_alike S.sheet Z.sheet l x _ _ A.sheet_length (ap₂ merge_of low high) (λ _. A.seen.sheet x d p);
          kept = λ i o n. set_alike S.kept Z.kept t i _ _ A.kept_length low (λ k. A.seen.kept i (omega arith) n);
        };
      }

  pub merged_agree : (c t m : ℕ) → t + c ≡ m → m ≤ N → {S Z : Sheets} → Agree place ms D t S Z → Agree place ms D m (merged_by ms t c S) (merged_by ms t c Z)
  unfolding merged_by
  merged_agree zero t m e b {S} {Z} A = subst (λ k. Agree place ms D k S Z) (omega arith) A
  merged_agree (suc c) t m e b A = merged_agree c (suc t) m (omega arith) b (merged_one t (omega arith) A (ms t) refl)

  -- ---- an operation undone

  returned_one : (n : ℕ) → n < N → {S Z : Sheets} → Agree place ms D (suc n) S Z → (m : Merge) → ms n ≡ m → Agree place ms D n (returned m n S) (returned m n Z)
  unfolding returned
  returned_one n b A none e = record {
    sheet_length = A.sheet_length;
    kept_length = A.kept_length;
    seen = record { sheet = A.seen.sheet; kept = λ i l. A.seen.kept i (omega arith) };
  }
  returned_one n b {S} {Z} A (into l h) e = record {
    sheet_length = simp length-set A.sheet_length;
    kept_length = A.kept_length;
    seen = record {
      sheet = λ x d p. set_alike S.sheet Z.sheet l x _ _ A.sheet_length (A.seen.kept n (omega arith) (rw e into≢none)) (λ _. A.seen.sheet x d p);
      kept = λ i l. A.seen.kept i (omega arith);
    };
  }

  pub returned_agree : (c n m : ℕ) → m + c ≡ n → n ≤ N → {S Z : Sheets} → Agree place ms D n S Z
      → Agree place ms D m (returned_by ms n c S) (returned_by ms n c Z)
  unfolding returned_by
  returned_agree zero n m e b {S} {Z} A = subst (λ k. Agree place ms D k S Z) (omega arith) A
  returned_agree (suc c) n m e b {S} {Z} A =
      let last : n ≡ suc (n - 1) = omega arith in
      returned_agree c (n - 1) m (omega arith) (omega arith)
      (returned_one (n - 1) (omega arith) (subst (λ k. Agree place ms D k S Z) last A) (ms (n - 1)) refl)

  -- ---- the decision

  -- a record that an operation left is told from what it kept and from the one it merged, and both are looked at
  right_too : {S Z : Sheets} → Agree place ms D N S Z → Right place ms D N S → Right place ms D N Z
  right_too {S} {Z} A R = record {
    kept = λ {t} {low} b e.
        subst (λ z. T (sound ms Z (last_into ms t low) z)) (A.seen.kept t b (rw e into≢none)) (sound_told (told_less (omega arith) told) (last ms t low) _ (R.kept b e));
    sheet = λ x d p. subst (λ z. T (sound ms Z (last_into ms N x) z)) (A.seen.sheet x d p) (sound_told told (last ms N x) _ (R.sheet x d p));
  }
    where
      told : Told ms N S Z
      told = record { kept = λ {t} b e. A.seen.kept t b (rw e into≢none); high = λ b e. let p = M.highs b e in A.seen.sheet _ p.0 p.1 }

  turned : {S Z : Sheets} → Agree place ms D N S Z → Agree place ms D N Z S
  turned A = record {
    sheet_length = sym A.sheet_length;
    kept_length = sym A.kept_length;
    seen = record { sheet = λ x d p. sym (A.seen.sheet x d p); kept = λ t b n. sym (A.seen.kept t b n) };
  }

  -- THE DECISION DOES NOT TELL THEM APART
  pub right_agree : {S Z : Sheets} → Agree place ms D N S Z → right place ms D N S ≡ right place ms D N Z
  right_agree {S} {Z} A =
      T-ext (right place ms D N S) (right place ms D N Z) (λ k. (right_iff ms Z place N D).1 (right_too A ((right_iff ms S place N D).0 k)))
      (λ k. (right_iff ms S place N D).1 (right_too (turned A) ((right_iff ms Z place N D).0 k)))
