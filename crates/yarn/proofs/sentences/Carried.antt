-- The sheets from one history to another: new operations merge, undone ones return what they kept, and a removal does neither.
--   merges_longer   == what an operation merges does not depend on those after it
--   carried_more    == operations that are added merge
--   carried_fewer   == operations that are taken away return what they kept
--   Removals hs     == all operations of hs are removals
--   carried_removed == such ones, added, change neither sheet
use mathlib.Core.Bool.{false}
use mathlib.Core.List.{List, [], ◌∷◌, ◌++◌, reverse}
use mathlib.Core.Path.{◌≡◌, refl, ◌∙◌}
use Prim.Native.Nat.{ℕ, zero, suc, ◌+◌, ◌-◌, ◌≤◌, ◌<◌}
use native.Mathlib.Omega.{arith}
use lib.Dec.{leb, le→leb, leb→le}
use lib.ListN.{length, length-append, length-reverse}
use Rattle.permutations.specs.Choice.{T→true, not_T→false}
use Rattle.darts.specs.Operation.{removal, kind_of, edge_of}
use Rattle.laws.proofs.Lists.{reverse_onto}
use Rattle.sheets.specs.Sheets.{Sheets, Merge, none, merged, merged_by, returned_by}
use Rattle.yarn.specs.Places.{lowest, zoned, merge_by, merges_of, merges}
use Rattle.yarn.specs.Calls.{carried, carried_to}

longer_of : (R : ℕ → ℕ) (hs gs : List ℕ) (t : ℕ) → t < length hs → merges_of R (hs ++ gs) t ≡ merges_of R hs t
unfolding merges_of
longer_of R [] gs t l = absurd (omega arith)
longer_of R (h ∷ hs) gs zero l = refl
longer_of R (h ∷ hs) gs (suc t) l = longer_of (zoned (kind_of h) R (edge_of h)) hs gs t (omega arith)

pub merges_longer : (D : ℕ) (b hs gs : List ℕ) (t : ℕ) → t < length hs → merges D b (hs ++ gs) t ≡ merges D b hs t
unfolding merges
merges_longer D b hs gs t l = longer_of (lowest D b) hs gs t l

-- ---- from one history to another

module _ (D : ℕ) (b past more : List ℕ) (S : Sheets) where
  count : length (more ++ past) ≡ length more + length past
  count = length-append more past

  pub carried_more : carried_to D b past (more ++ past) S ≡ merged_by (merges D b (reverse (more ++ past))) (length past) (length more) S
  unfolding carried_to carried
  carried_more =
      let n : length (more ++ past) - length past ≡ length more = omega (arith, count) in
      rw (T→true (leb (length past) (length (more ++ past))) (le→leb (length past) (length (more ++ past)) (omega (arith, count))), n)

pub carried_fewer : (D : ℕ) (b past more : List ℕ) (S : Sheets)
    → carried_to D b (more ++ past) past S ≡ returned_by (merges D b (reverse (more ++ past))) (length (more ++ past)) (length more) S
unfolding carried_to carried merged_by returned_by
carried_fewer D b past [] S =
    let n : length past - length past ≡ 0 = omega arith in
    rw (T→true (leb (length past) (length past)) (le→leb (length past) (length past) (omega arith)), n)
carried_fewer D b past (h ∷ more) S =
    let n : suc (length (more ++ past)) - length past ≡ suc (length more) = omega (arith, length-append more past) in
    let m : leb (suc (length (more ++ past))) (length past) ≡ false =
    not_T→false (leb (suc (length (more ++ past))) (length past)) (λ k. omega (arith, leb→le (suc (length (more ++ past))) (length past) k, length-append more past)) in
    rw (m, n)

-- ---- removals

abbrev pub Removals : List ℕ → Type 0
Removals [] = Unit {0}
Removals (h ∷ hs) = (kind_of h ≡ removal) × Removals hs

removed_none : (R : ℕ → ℕ) (hs : List ℕ) → Removals hs → (t : ℕ) → merges_of R hs t ≡ none
unfolding merges_of merge_by
removed_none R [] all t = refl
removed_none R (h ∷ hs) all zero = rw all.0
removed_none R (h ∷ hs) all (suc t) = removed_none (zoned (kind_of h) R (edge_of h)) hs all.1 t

added_none : (R : ℕ → ℕ) (hs gs : List ℕ) → Removals gs → (t : ℕ) → length hs ≤ t → merges_of R (hs ++ gs) t ≡ none
unfolding merges_of
added_none R [] gs all t l = removed_none R gs all t
added_none R (h ∷ hs) gs all zero l = absurd (omega arith)
added_none R (h ∷ hs) gs all (suc t) l = added_none (zoned (kind_of h) R (edge_of h)) hs gs all t (omega arith)

none_merged : (ms : ℕ → Merge) (c t : ℕ) (S : Sheets) → ((i : ℕ) → t ≤ i → ms i ≡ none) → merged_by ms t c S ≡ S
unfolding merged_by merged
none_merged ms zero t S all = refl
none_merged ms (suc c) t S all = rw (all t (omega arith)) (none_merged ms c (suc t) S (λ i l. all i (omega arith)))

-- "a removal's place is neither read nor written"
pub carried_removed : (D : ℕ) (b past numbers : List ℕ) (S : Sheets) → Removals numbers → carried_to D b past (reverse numbers ++ past) S ≡ S
unfolding merges
carried_removed D b past numbers S all =
    carried_more D b past (reverse numbers) S
    ∙ none_merged _ (length (reverse numbers)) (length past) S
    (λ i l. rw (reverse_onto numbers past) (added_none (lowest D b) (reverse past) numbers all i (let e = length-reverse past in omega arith)))
