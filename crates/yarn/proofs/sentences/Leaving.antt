-- "(the others are not looked at)"; "a removal's place is neither read nor written, nor are places past the count but by a new contraction".
--   Leaves place ms D S Z == Z is S at every place that no operation looks at, and as long
--   merged_leaves, returned_leaves == operations done, or undone, leave so much
--   merges_past   == past the operations nothing is merged: such a place of the second sheet is not looked at
use mathlib.Core.Bool.{Bool}
use mathlib.Core.List.{List, [], ◌∷◌}
use mathlib.Core.Path.{◌≡◌, refl, sym, ap, ◌∙◌}
use Prim.Native.Nat.{ℕ, zero, suc, ◌+◌, ◌-◌, ◌≤◌, ◌<◌}
use native.Mathlib.Omega.{arith}
use lib.Dec.{T}
use lib.ListN.{length, length-set}
use lib.Seq.{get_or-set_other}
use Rattle.darts.specs.Operation.{kind_of, edge_of}
use Rattle.sheets.specs.Records.{at}
use Rattle.sheets.specs.Sheets.{Sheets, Merge, none, into, merged, returned, merged_by, returned_by}
use Rattle.yarn.specs.Places.{lowest, zoned, merges_of, merges}
use Rattle.yarn.proofs.Merging.{Merging, not_into}

pub record Leaves (place : ℕ → Bool) (ms : ℕ → Merge) (D : ℕ) (S Z : Sheets) : Type 0 where
  pub sheet_length : length Z.sheet ≡ length S.sheet
  pub kept_length : length Z.kept ≡ length S.kept
  pub sheet : (x : ℕ) → ¬ ((x < D) × T (place x)) → at Z.sheet x ≡ at S.sheet x
  pub kept : (i : ℕ) → ms i ≡ none → at Z.kept i ≡ at S.kept i

module _ {place : ℕ → Bool} {ms : ℕ → Merge} {D : ℕ} where
  leaves_all : {S : Sheets} → Leaves place ms D S S
  leaves_all = record { sheet_length = refl; kept_length = refl; sheet = λ x n. refl; kept = λ i e. refl }

  leaves_on : {S Y Z : Sheets} → Leaves place ms D S Y → Leaves place ms D Y Z → Leaves place ms D S Z
  leaves_on A B = record {
    sheet_length = B.sheet_length ∙ A.sheet_length;
    kept_length = B.kept_length ∙ A.kept_length;
    sheet = λ x n. B.sheet x n ∙ A.sheet x n;
    kept = λ i e. B.kept i e ∙ A.kept i e;
  }

  module _ {N : ℕ} (M : Merging place ms D N) where
    merged_one : (t : ℕ) → t < N → (S : Sheets) (m : Merge) → ms t ≡ m → Leaves place ms D S (merged m t S)
    unfolding merged
    merged_one t b S none e = leaves_all
    merged_one t b S (into l h) e = record {
      sheet_length = simp length-set;
      kept_length = simp length-set;
      sheet = λ x n. get_or-set_other S.sheet l x _ _ (λ k. n (rw k (M.lows b e)));
      kept = λ i f. get_or-set_other S.kept t i _ _ (λ k. not_into (sym f ∙ ap ms k ∙ e));
    }

    returned_one : (t : ℕ) → t < N → (S : Sheets) (m : Merge) → ms t ≡ m → Leaves place ms D S (returned m t S)
    unfolding returned
    returned_one t b S none e = leaves_all
    returned_one t b S (into l h) e = record {
      sheet_length = simp length-set;
      kept_length = refl;
      sheet = λ x n. get_or-set_other S.sheet l x _ _ (λ k. n (rw k (M.lows b e)));
      kept = λ i f. refl;
    }

    pub merged_leaves : (c t : ℕ) → t + c ≤ N → (S : Sheets) → Leaves place ms D S (merged_by ms t c S)
    unfolding merged_by
    merged_leaves zero t b S = leaves_all
    merged_leaves (suc c) t b S = leaves_on (merged_one t (omega arith) S (ms t) refl) (merged_leaves c (suc t) (omega arith) (merged (ms t) t S))

    pub returned_leaves : (c n : ℕ) → c ≤ n → n ≤ N → (S : Sheets) → Leaves place ms D S (returned_by ms n c S)
    unfolding returned_by
    returned_leaves zero n l b S = leaves_all
    returned_leaves (suc c) n l b S =
        leaves_on (returned_one (n - 1) (omega arith) S (ms (n - 1)) refl) (returned_leaves c (n - 1) (omega arith) (omega arith) (returned (ms (n - 1)) (n - 1) S))

-- ---- past the operations

past_of : (R : ℕ → ℕ) (hs : List ℕ) (t : ℕ) → length hs ≤ t → merges_of R hs t ≡ none
unfolding merges_of
past_of R [] t l = refl
past_of R (h ∷ hs) zero l = absurd (omega arith)
past_of R (h ∷ hs) (suc t) l = past_of (zoned (kind_of h) R (edge_of h)) hs t (omega arith)

pub merges_past : (D : ℕ) (b hs : List ℕ) (t : ℕ) → length hs ≤ t → merges D b hs t ≡ none
unfolding merges
merges_past D b hs t l = past_of (lowest D b) hs t l
