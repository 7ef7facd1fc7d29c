-- Operations added to a history, and operations taken away from it: the sheets stay alike where they are looked at, and elsewhere what they were.
--   Agreed D b past S Z == the sheets S and Z have the same lengths and are the same where they are looked at after the operations `past` on the base b
--   Led D b past        == these operations merge records of the base's places
--   more_agree, fewer_agree   == sheets that agree still do
--   more_leaves, fewer_leaves == at every other place a sheet has what it had
use mathlib.Core.List.{List, ◌++◌, reverse, reverse-append}
use mathlib.Core.Path.{◌≡◌, sym, ◌∙◌}
use Prim.Native.Nat.{ℕ, ◌+◌, ◌<◌}
use native.Mathlib.Omega.{arith}
use lib.ListN.{length, length-append, length-reverse}
use Rattle.sheets.specs.Sheets.{Sheets}
use Rattle.yarn.specs.Places.{is_place, merges}
use Rattle.yarn.specs.Calls.{carried_to}
use Rattle.yarn.proofs.Merging.{Merging}
use Rattle.yarn.proofs.sentences.Carried.{merges_longer, carried_more, carried_fewer}
use Rattle.yarn.proofs.sentences.Agreeing.{Agree, merged_agree, returned_agree}
use Rattle.yarn.proofs.sentences.Leaving.{Leaves, merged_leaves, returned_leaves}

abbrev pub Agreed : ℕ → List ℕ → List ℕ → Sheets → Sheets → Type 0
Agreed D b past = Agree (is_place D b) (merges D b (reverse past)) D (length past)

abbrev pub Led : ℕ → List ℕ → List ℕ → Type 0
Led D b past = Merging (is_place D b) (merges D b (reverse past)) D (length past)

module _ (D : ℕ) (b past more : List ℕ) where
  -- what the first operations merge does not depend on the others
  first_same : (i : ℕ) → i < length past → merges D b (reverse (more ++ past)) i ≡ merges D b (reverse past) i
  first_same i l = rw (reverse-append more past) (merges_longer D b (reverse past) (reverse more) i (let n = length-reverse past in omega arith))

  count : length past + length more ≡ length (more ++ past)
  count = let n = length-append more past in omega arith

  module _ (M : Led D b (more ++ past)) where
    pub more_agree : {S Z : Sheets} → Agreed D b past S Z → Agreed D b (more ++ past) (carried_to D b past (more ++ past) S) (carried_to D b past (more ++ past) Z)
    more_agree {S} {Z} A =
        rw (carried_more D b past more S, carried_more D b past more Z)
        (merged_agree M (length more) (length past) (length (more ++ past)) count (omega arith) (record {
          sheet_length = A.sheet_length;
          kept_length = A.kept_length;
          seen = record { sheet = A.seen.sheet; kept = λ i l n. A.seen.kept i l (λ k. n (first_same i l ∙ k)) };
        }))

    pub fewer_agree : {S Z : Sheets} → Agreed D b (more ++ past) S Z → Agreed D b past (carried_to D b (more ++ past) past S) (carried_to D b (more ++ past) past Z)
    fewer_agree {S} {Z} A =
        let R = returned_agree M (length more) (length (more ++ past)) (length past) count (omega arith) A in
        rw (carried_fewer D b past more S, carried_fewer D b past more Z) (record {
          sheet_length = R.sheet_length;
          kept_length = R.kept_length;
          seen = record { sheet = R.seen.sheet; kept = λ i l n. R.seen.kept i l (λ k. n (sym (first_same i l) ∙ k)) };
        })

    pub more_leaves : (S : Sheets) → Leaves (is_place D b) (merges D b (reverse (more ++ past))) D S (carried_to D b past (more ++ past) S)
    more_leaves S = rw (carried_more D b past more S) (merged_leaves M (length more) (length past) (let n = count in omega arith) S)

    pub fewer_leaves : (S : Sheets) → Leaves (is_place D b) (merges D b (reverse (more ++ past))) D S (carried_to D b (more ++ past) past S)
    fewer_leaves S = rw (carried_fewer D b past more S) (returned_leaves M (length more) (length (more ++ past)) (let n = count in omega arith) (omega arith) S)
