-- Operations and undos lead from given sheets to given sheets.
--   longs_up, longs_down == sheets keep their lengths
--   rights_up, rights_down == right sheets stay so, over several operations, and over several undos
--   given_grows   == where more operations follow
--   given_shrinks == where they are undone
use mathlib.Core.Bool.{Bool}
use mathlib.Core.List.{List, [], ◌++◌}
use mathlib.Core.Path.{◌≡◌}
use Prim.Native.Nat.{ℕ, zero, suc, ◌+◌, ◌-◌, ◌≤◌}
use native.Mathlib.Nat.{add-zero}
use native.Mathlib.Omega.{arith}
use lib.Dec.{T}
use lib.ListN.{length, length-append}
use Rattle.laws.specs.Standing.{Standing}
use Rattle.sheets.specs.Sheets.{Sheets, Merge, merged_by, returned_by, right}
use Rattle.yarn.specs.Places.{lowest, is_place, merges}
use Rattle.yarn.specs.Given.{given}
use Rattle.yarn.proofs.Turns.{Turns}
use Rattle.yarn.proofs.Merging.{Merging, Right, right_iff}
use Rattle.yarn.proofs.Redone.{Long, merged_long, returned_long, merged_right, returned_right}
use Rattle.yarn.proofs.Untouched.{base_merging}
use Rattle.yarn.proofs.Agree.{right_same, merges_first}

-- ---- the sheets keep their lengths

pub longs_up : {D N : ℕ} (ms : ℕ → Merge) (t c : ℕ) {S : Sheets} → Long D N S → Long D N (merged_by ms t c S)
unfolding merged_by
longs_up ms t zero L = L
longs_up ms t (suc c) L = longs_up ms (suc t) c (merged_long (ms t) t L)

pub longs_down : {D N : ℕ} (ms : ℕ → Merge) (n c : ℕ) {S : Sheets} → Long D N S → Long D N (returned_by ms n c S)
unfolding returned_by
longs_down ms n zero L = L
longs_down ms n (suc c) L = longs_down ms (n - 1) c (returned_long (ms (n - 1)) (n - 1) L)

-- ---- several operations, several undos

module _ {place : ℕ → Bool} {ms : ℕ → Merge} {D N : ℕ} (M : Merging place ms D N) where
  rights_up : (n c : ℕ) → n + c ≤ N → {S : Sheets} → Long D N S → Right place ms D n S → Right place ms D (n + c) (merged_by ms n c S)
  unfolding merged_by
  rights_up n zero l L R = rw (add-zero n) R
  rights_up n (suc c) l {S} L R =
      let e : n + suc c ≡ suc n + c = omega arith in
      rw e (rights_up (suc n) c (omega arith) (merged_long (ms n) n L) (merged_right M (omega arith) S L R))

  rights_down : (n c : ℕ) → n + c ≤ N → {S : Sheets} → Long D N S → Right place ms D (n + c) S → Right place ms D n (returned_by ms (n + c) c S)
  unfolding returned_by
  rights_down n zero l L R = rw (add-zero n) at R
  rights_down n (suc c) l {S} L R =
      let e : n + suc c - 1 ≡ n + c = omega arith in
      let f : n + suc c ≡ suc (n + c) = omega arith in
      rw e (rights_down n c (omega arith) (returned_long (ms (n + c)) (n + c) L) (returned_right M (omega arith) S L (rw f at R)))

module _ {D : ℕ} {b : List ℕ} (B : Standing D b []) (hs more : List ℕ) (A : Turns D (lowest D b) (hs ++ more)) {S : Sheets}
    (L : Long D (length (hs ++ more)) S) where
  abbrev ms : ℕ → Merge
  ms = merges D b (hs ++ more)

  abbrev M : Merging (is_place D b) ms D (length (hs ++ more))
  M = base_merging B (hs ++ more) A.inside A.apart

  pub given_grows : T (given D b hs S) → T (given D b (hs ++ more) (merged_by ms (length hs) (length more) S))
  unfolding given
  given_grows g =
      let was : T (right (is_place D b) ms D (length hs) S) = rw (right_same S (is_place D b) D (length hs) (merges_first D b hs more)) g in
      let R = rights_up M (length hs) (length more) (omega (arith, length-append hs more)) L ((right_iff ms S (is_place D b) (length hs) D).0 was) in
      (right_iff ms _ (is_place D b) (length (hs ++ more)) D).1 (rw (length-append hs more) R)

  pub given_shrinks : T (given D b (hs ++ more) S) → T (given D b hs (returned_by ms (length (hs ++ more)) (length more) S))
  unfolding given
  given_shrinks g =
      let Z = returned_by ms (length hs + length more) (length more) S in
      let size = length-append hs more in
      let R = (right_iff ms S (is_place D b) (length (hs ++ more)) D).0 g in
      let now = rights_down M (length hs) (length more) (omega arith) L (rw size at R) in
      rw size (rw (right_same Z (is_place D b) D (length hs) (merges_first D b hs more)) at ((right_iff ms Z (is_place D b) (length hs) D).1 now))
