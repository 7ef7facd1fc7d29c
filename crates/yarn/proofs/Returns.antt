-- "Undo returns the old figure bit for bit" (document 02, request Five), of the sheets; ms are the merges of operations.
--   merged_on, returned_on   == operations and undos one after another
--   returned_kept            == undo writes no kept record
--   merged_kept              == operations write their own kept records alone, and a removal none
--   returned_alike           == undo looks at the records that the operations which it undoes kept
--   undone_sheet             == UNDO RETURNS THE SHEET
--   undone_kept              == and of the second sheet all but the places of the contractions that are undone
use mathlib.Core.List.{List}
use mathlib.Core.Path.{◌≡◌, refl, sym, ap, ap₂, ◌∙◌}
use Prim.Native.Nat.{ℕ, zero, suc, ◌+◌, ◌-◌, ◌≤◌, ◌<◌}
use native.Mathlib.Nat.{add-zero, zero-add, suc-add}
use native.Mathlib.Omega.{arith}
use lib.ListN.{length, set, length-set}
use lib.Seq.{get_or-set_same, get_or-set_other, set-get_or, set-set}
use Rattle.sheets.specs.declared.Zone.{Zone}
use Rattle.sheets.specs.Records.{at}
use Rattle.sheets.specs.Sheets.{Sheets, Merge, none, into, merged, returned, merged_by, returned_by}
use Rattle.yarn.proofs.Merging.{not_into}

-- ---- one operation

kept_once : (m : Merge) (t : ℕ) (S : Sheets) → length (merged m t S).kept ≡ length S.kept
unfolding merged
kept_once none t S = refl
kept_once (into low high) t S = length-set S.kept t _

returned_once : (m : Merge) (t : ℕ) (S : Sheets) → (returned m t S).kept ≡ S.kept
unfolding returned
returned_once none t S = refl
returned_once (into low high) t S = refl

-- "a removal's place is neither read nor written"
untouched_once : (m : Merge) (t : ℕ) (S : Sheets) (i : ℕ) → (i ≡ t → m ≡ none) → at (merged m t S).kept i ≡ at S.kept i
unfolding merged
untouched_once none t S i free = refl
untouched_once (into low high) t S i free = get_or-set_other S.kept t i _ _ (λ e. not_into (sym (free e)))

-- the operation is undone on sheets Z that hold what it left
undone_once : (m : Merge) (t : ℕ) (S Z : Sheets) → t < length S.kept → Z.sheet ≡ (merged m t S).sheet → at Z.kept t ≡ at (merged m t S).kept t
    → (returned m t Z).sheet ≡ S.sheet
unfolding merged returned
undone_once none t S Z h same kept = same
undone_once (into low high) t S Z h same kept =
    ap₂ (λ (s : List Zone) (z : Zone). set s low z) same (kept ∙ get_or-set_same S.kept t _ _ h) ∙ set-set S.sheet low _ _ ∙ set-get_or S.sheet low _

module _ (ms : ℕ → Merge) where
  -- ---- one after another

  pub merged_on : (t c m : ℕ) (S : Sheets) → merged_by ms t (c + m) S ≡ merged_by ms (t + c) m (merged_by ms t c S)
  unfolding merged_by
  merged_on t zero m S = rw (zero-add m, add-zero t)
  merged_on t (suc c) m S =
      let e : suc c + m ≡ suc (c + m) = suc-add c m in
      let f : t + suc c ≡ suc t + c = omega arith in
      rw (e, f) (merged_on (suc t) c m (merged (ms t) t S))

  -- the last c of n operations, and then m more
  pub returned_on : (n c m : ℕ) (S : Sheets) → returned_by ms n (c + m) S ≡ returned_by ms (n - c) m (returned_by ms n c S)
  unfolding returned_by
  returned_on n zero m S =
      let e : n - 0 ≡ n = omega arith in
      rw (zero-add m, e)
  returned_on n (suc c) m S =
      let e : suc c + m ≡ suc (c + m) = suc-add c m in
      let f : n - suc c ≡ (n - 1) - c = omega arith in
      rw (e, f) (returned_on (n - 1) c m (returned (ms (n - 1)) (n - 1) S))

  -- the operation n is the last to be undone
  last_undone : (n c : ℕ) (S : Sheets) → returned_by ms (n + suc c) (suc c) S ≡ returned (ms n) n (returned_by ms (suc n + c) c S)
  unfolding returned_by
  last_undone n c S =
      let count : suc c ≡ c + 1 = omega arith in
      let all : n + suc c ≡ suc n + c = omega arith in
      let left : suc n + c - c - 1 ≡ n = omega arith in
      ap₂ (λ (k m : ℕ). returned_by ms k m S) all count ∙ returned_on (suc n + c) c 1 S
      ∙ ap (λ (k : ℕ). returned (ms k) k (returned_by ms (suc n + c) c S)) left

  -- ---- the second sheet

  -- UNDO WRITES NO KEPT RECORD
  pub returned_kept : (n c : ℕ) (S : Sheets) → (returned_by ms n c S).kept ≡ S.kept
  unfolding returned_by
  returned_kept n zero S = refl
  returned_kept n (suc c) S = returned_kept (n - 1) c (returned (ms (n - 1)) (n - 1) S) ∙ returned_once (ms (n - 1)) (n - 1) S

  -- "nor are places past the count but by a new contraction": OPERATIONS WRITE THE PLACES OF NEW CONTRACTIONS ALONE
  pub merged_kept : (t c : ℕ) (S : Sheets) (i : ℕ) → (t ≤ i → i < t + c → ms i ≡ none) → at (merged_by ms t c S).kept i ≡ at S.kept i
  unfolding merged_by
  merged_kept t zero S i free = refl
  merged_kept t (suc c) S i free =
      merged_kept (suc t) c (merged (ms t) t S) i (λ h k. free (omega arith) (omega arith))
      ∙ untouched_once (ms t) t S i (λ e. ap ms (sym e) ∙ free (omega arith) (omega arith))

  -- ---- undo

  alike_once : (m : Merge) (t : ℕ) (S Z : Sheets) → S.sheet ≡ Z.sheet → at S.kept t ≡ at Z.kept t → (returned m t S).sheet ≡ (returned m t Z).sheet
  unfolding returned
  alike_once none t S Z sheet kept = sheet
  alike_once (into low high) t S Z sheet kept = ap₂ (λ (s : List Zone) (z : Zone). set s low z) sheet kept

  -- of n operations the last c are undone: what stands past the n kept records does not matter
  pub returned_alike : (n c : ℕ) → c ≤ n → (S Z : Sheets) → S.sheet ≡ Z.sheet → ((i : ℕ) → i < n → at S.kept i ≡ at Z.kept i)
      → (returned_by ms n c S).sheet ≡ (returned_by ms n c Z).sheet
  unfolding returned_by
  returned_alike n zero l S Z sheet kept = sheet
  returned_alike n (suc c) l S Z sheet kept =
      let m = ms (n - 1) in
      returned_alike (n - 1) c (omega arith) (returned m (n - 1) S) (returned m (n - 1) Z) (alike_once m (n - 1) S Z sheet (kept (n - 1) (omega arith)))
      (λ i h. ap (λ s. at s i) (returned_once m (n - 1) S) ∙ kept i (omega arith) ∙ ap (λ s. at s i) (sym (returned_once m (n - 1) Z)))

  -- UNDO RETURNS THE SHEET, every record of it
  pub undone_sheet : (n c : ℕ) (S : Sheets) → n + c ≤ length S.kept → (returned_by ms (n + c) c (merged_by ms n c S)).sheet ≡ S.sheet
  unfolding merged_by returned_by
  undone_sheet n zero S h = refl
  undone_sheet n (suc c) S h =
      let first : Sheets = merged (ms n) n S in
      let all : Sheets = merged_by ms (suc n) c first in
      let size : length first.kept ≡ length S.kept = kept_once (ms n) n S in
      let back : (returned_by ms (suc n + c) c all).sheet ≡ first.sheet = undone_sheet (suc n) c first (omega arith) in
      let kept : at (returned_by ms (suc n + c) c all).kept n ≡ at first.kept n =
      ap (λ s. at s n) (returned_kept (suc n + c) c all) ∙ merged_kept (suc n) c first n (λ l k. absurd (omega arith)) in
      let last : returned_by ms (n + suc c) (suc c) all ≡ returned (ms n) n (returned_by ms (suc n + c) c all) = last_undone n c all in
      ap (λ (Z : Sheets). Z.sheet) last ∙ undone_once (ms n) n S _ (omega arith) back kept

  -- AND OF THE SECOND SHEET ALL BUT THE PLACES OF THE CONTRACTIONS THAT ARE UNDONE
  pub undone_kept : (n c : ℕ) (S : Sheets) (i : ℕ) → (n ≤ i → i < n + c → ms i ≡ none)
      → at (returned_by ms (n + c) c (merged_by ms n c S)).kept i ≡ at S.kept i
  undone_kept n c S i free = ap (λ s. at s i) (returned_kept (n + c) c (merged_by ms n c S)) ∙ merged_kept n c S i free
