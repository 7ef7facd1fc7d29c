-- "afterwards 4 also covers sheets that no accepted start and these operations give" (document 02, request Five): `given` decides that.
--   given_decided   == on a base, where each contraction finds two places
--   pyramid_decided == on a pyramid
use mathlib.Core.List.{List, [], reverse}
use mathlib.Core.Logic.Iff
use mathlib.Core.Logic.{◌↔◌}
use Prim.Native.Nat.{ℕ, ◌≤◌}
use lib.Dec.{T}
use lib.ListN.{length, length-reverse}
use Rattle.darts.specs.State.{State}
use Rattle.darts.specs.Pyramid.{Pyramid}
use Rattle.laws.specs.Standing.{Standing}
use Rattle.sheets.specs.Sheets.{Sheets}
use Rattle.yarn.specs.Places.{lowest, is_place, merges}
use Rattle.yarn.specs.Given.{Given, given}
use Rattle.yarn.specs.Calls.{base_of}
use Rattle.yarn.proofs.Settled.{Inside}
use Rattle.yarn.proofs.Apart.{Apart, base_standing, base_apart, pyramid_inside}
use Rattle.yarn.proofs.Merging.{right_iff}
use Rattle.yarn.proofs.Comes.{Comes, comes_iff}
use Rattle.yarn.proofs.Untouched.{base_merging}

-- what a start accepts, and what it comes to
comes_given : (D : ℕ) (b hs : List ℕ) (S : Sheets) → Comes (is_place D b) (merges D b hs) D (length hs) (length hs) S ↔ Given D b hs S
comes_given D b hs S = (
  λ C. record {
    first = C.first;
    long = C.long.sheet;
    keeps = C.long.kept;
    fit = record { each = C.fit };
    looked = record { sheet = C.seen.sheet; kept = C.seen.kept };
  },
  λ G. record {
    first = G.first;
    long = record { sheet = G.long; kept = G.keeps };
    fit = G.fit.each;
    seen = record { sheet = G.looked.sheet; kept = G.looked.kept };
  },
)

-- THE CLOSED FORM DECIDES WHETHER AN ACCEPTED START AND THESE OPERATIONS GIVE THE SHEETS
pub given_decided : {D : ℕ} {b : List ℕ} → Standing D b [] → (hs : List ℕ) → Inside D hs → Apart (lowest D b) hs
    → (S : Sheets) → D ≤ length S.sheet → length hs ≤ length S.kept → T (given D b hs S) ↔ Given D b hs S
unfolding given
given_decided {D} {b} stands hs inside apart S long keeps =
    Iff.trans (right_iff (merges D b hs) S (is_place D b) (length hs) D)
    (Iff.trans (comes_iff (base_merging stands hs inside apart) (record { sheet = long; kept = keeps })) (comes_given D b hs S))

pub pyramid_decided : {s : State} {t past : List ℕ} → Pyramid s t past → (S : Sheets) → s.darts ≤ length S.sheet → length past ≤ length S.kept
    → (let b : List ℕ = base_of s t past in T (given s.darts b (reverse past) S) ↔ Given s.darts b (reverse past) S)
pyramid_decided {past = past} P S long keeps =
    given_decided (base_standing P) (reverse past) (pyramid_inside P) (base_apart P) S long (rw (length-reverse past) keeps)
