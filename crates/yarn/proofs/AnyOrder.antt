-- "Demand 3 covers, for each zone at the end, stitches and whether yarn is measured; the last bits of metres depend on the order and are left out of it."
-- (document 02, request Five)
--   measured_figure   == of two records merged, each has to be measured
--   laid_out D b hs S  == the sheets that the operations hs give on the base b, where the start was lent S
--   zone_stitches, zone_measured == a zone's stitches, and whether it is measured, by the base's zones that went into it
--   SameZones D b hs gs S == the operations gs give the zones of hs: the same places, the same stitches, and measured or not alike
--   zones_any_order   == so do rearranged operations, on one base with one sheet
--   ZonesAgree D b t past S r == the result r of kernels agrees with t and past as demand 3 says, and its zones are the same
--   list_zones        == whatever kernels hold the operations of a list that is accepted one by one, in any order
--   cut_zones, pyramid_zones == or those of accepted kernels, or of a pyramid
use mathlib.Core.Bool.{true, ◌&&◌}
use mathlib.Core.List.{List, [], map, reverse, Permᴰ}
use mathlib.Core.Path.{◌≡◌, refl, sym, ap, ◌∙◌}
use Prim.Native.Nat.{ℕ, ◌≤◌, ◌<◌}
use lib.Dec.{T}
use lib.ListN.{length}
use Rattle.darts.specs.Map.{permutes, permutation_test}
use Rattle.darts.specs.State.{State, base_state, Result, gives}
use Rattle.darts.specs.Pyramid.{Kernel, Pyramid, dart_count, build}
use Rattle.darts.specs.Kernel.{Operation, stands}
use Rattle.darts.specs.OneByOne.{one_by_one, operation_of, operations_of, NoneEmpty}
use Rattle.laws.proofs.runs.Cuts.{kernels_listed}
use Rattle.laws.proofs.claims.AnyOrder.{Agrees, any_order, pyramid_listed}
use Rattle.laws.specs.Standing.{Standing}
use Rattle.laws.proofs.bridge.Bases.{base_stands}
use Rattle.std.specs.Prelude.{Float, Option, Some, None}
use Rattle.sheets.specs.Records.{merge_of, measured}
use Rattle.sheets.specs.Sheets.{Sheets, merged_by}
use Rattle.yarn.specs.Places.{lowest, zone_of, merges}
use Rattle.yarn.specs.Totals.{stitches_at, measured_at, stitches_from, measured_from}
use Rattle.yarn.proofs.Sums.{both}
use Rattle.yarn.proofs.Settled.{lowest_settled}
use Rattle.yarn.proofs.Turns.{Turns, from_start}
use Rattle.yarn.proofs.Gathered.{Figure, gathered_at}
use Rattle.yarn.proofs.Totals.{stitches_figure}
use Rattle.yarn.proofs.Commutes.{places_any_order}
use Rattle.yarn.proofs.Listed.{listed_turns, listed_told}

-- "not measured with anything is not measured"
pub measured_figure : Figure ◌&&◌ true measured
unfolding measured
measured_figure = record { adds = both; merges = λ a b. go a.stitches b.stitches a.yarn b.yarn }
  where
    go : (m n : ℕ) (y z : Option Float)
        → measured (merge_of (record { stitches = m; yarn = y }) (record { stitches = n; yarn = z }))
        ≡ measured (record { stitches = m; yarn = y }) && measured (record { stitches = n; yarn = z })
    go m n (Some a) (Some b) = refl
    go m n (Some a) None = refl
    go m n None z = refl

-- ---- a zone, by what went into it

abbrev pub laid_out : ℕ → List ℕ → List ℕ → Sheets → Sheets
laid_out D b hs S = merged_by (merges D b hs) 0 (length hs) S

module _ {D : ℕ} {b : List ℕ} (B : Standing D b []) (hs : List ℕ) (A : Turns D (lowest D b) hs) (S : Sheets) (long : D ≤ length S.sheet)
    (x : ℕ) (d : x < D) (own : zone_of D b hs x ≡ x) where
  -- "stitches add"
  pub zone_stitches : stitches_at (laid_out D b hs S) x ≡ stitches_from D (lowest D b) (zone_of D b hs) S x
  unfolding zone_of merges stitches_from
  zone_stitches = gathered_at stitches_figure D hs (from_start (lowest D b) hs) (lowest_settled B) A S long x d own

  pub zone_measured : measured_at (laid_out D b hs S) x ≡ measured_from D (lowest D b) (zone_of D b hs) S x
  unfolding zone_of merges measured_from
  zone_measured = gathered_at measured_figure D hs (from_start (lowest D b) hs) (lowest_settled B) A S long x d own

-- ---- any order

pub record SameZones (D : ℕ) (b hs gs : List ℕ) (S : Sheets) : Type 0 where
  pub places : zone_of D b gs ≡ zone_of D b hs
  pub stitches : (x : ℕ) → x < D → zone_of D b hs x ≡ x → stitches_at (laid_out D b gs S) x ≡ stitches_at (laid_out D b hs S) x
  pub measured : (x : ℕ) → x < D → zone_of D b hs x ≡ x → measured_at (laid_out D b gs S) x ≡ measured_at (laid_out D b hs S) x

-- REARRANGED OPERATIONS GIVE THE SAME ZONES
pub zones_any_order : {D : ℕ} {b : List ℕ} → Standing D b [] → (hs gs : List ℕ) → Turns D (lowest D b) hs → Turns D (lowest D b) gs
    → Permᴰ (map operation_of hs) (map operation_of gs) → (S : Sheets) → D ≤ length S.sheet → SameZones D b hs gs S
unfolding zone_of
zones_any_order {D} {b} base hs gs A C rearranged S long = record {
  places = same;
  stitches = λ x d own.
      zone_stitches base gs C S long x d (ap (λ Z. Z x) same ∙ own) ∙ ap (λ Z. stitches_from D (lowest D b) Z S x) same ∙ sym (zone_stitches base hs A S long x d own);
  measured = λ x d own.
      zone_measured base gs C S long x d (ap (λ Z. Z x) same ∙ own) ∙ ap (λ Z. measured_from D (lowest D b) Z S x) same ∙ sym (zone_measured base hs A S long x d own);
}
  where
    same : zone_of D b gs ≡ zone_of D b hs
    same = places_any_order (lowest D b) hs gs rearranged

pub record ZonesAgree (D : ℕ) (b t past : List ℕ) (S : Sheets) (r : Result) : Type 0 where
  -- accepted, with the same survivors and their successors
  pub plain : Agrees D t past r
  pub zones : SameZones D b (reverse past) (reverse plain.new) S

-- ---- on one base

-- b is a base of D darts, and the operations os are accepted on it one by one, kinds mixed as they come
module _ (D : ℕ) (b : List ℕ) (count : T (dart_count D)) (size : length b ≡ D) (permutation : permutation_test D b ≡ permutes) where
  -- ANY ORDER, ANY CUT INTO LEVELS: the kernels ls hold the same operations in some order; none of them is empty, and they are 64 at most
  pub list_zones : (os : List Operation) {t past : List ℕ} → one_by_one D b [] os ≡ stands t past → (ls : List Kernel) → Permᴰ os (operations_of ls)
      → NoneEmpty ls → length ls ≤ 64 → (S : Sheets) → D ≤ length S.sheet → ZonesAgree D b t past S (build (base_state D b) b [] ls)
  list_zones os {past = past} e ls rearranged some few S long =
      let B = base_stands D b count size permutation in
      let G = any_order D b count size permutation os e ls rearranged some few in
      let f = kernels_listed (base_state D b) b [] ls G.accepted in
      let told : Permᴰ (map operation_of (reverse past)) (map operation_of (reverse G.new)) =
      rw (listed_told B os e, listed_told B (operations_of ls) f) rearranged in
      record {
        plain = G;
        zones = zones_any_order B (reverse past) (reverse G.new) (listed_turns B os e) (listed_turns B (operations_of ls) f) told S long;
      }

  -- THE SAME WHERE THE ACCEPTED LIST IS CUT INTO KERNELS ALREADY
  pub cut_zones : (ks ls : List Kernel) {s : State} {t past : List ℕ} → build (base_state D b) b [] ks ≡ gives s t past
      → Permᴰ (operations_of ks) (operations_of ls) → NoneEmpty ls → length ls ≤ 64
      → (S : Sheets) → D ≤ length S.sheet → ZonesAgree D b t past S (build (base_state D b) b [] ls)
  cut_zones ks ls e = list_zones (operations_of ks) (kernels_listed (base_state D b) b [] ks e) ls

-- THE SAME FOR EVERY PYRAMID, whichever of kernels and sweeps made its levels
pub pyramid_zones : {s : State} {t past : List ℕ} (P : Pyramid s t past) (ls : List Kernel)
    → Permᴰ (map operation_of (reverse past)) (operations_of ls) → NoneEmpty ls → length ls ≤ 64 → (S : Sheets) → s.darts ≤ length S.sheet
    → ZonesAgree s.darts P.base t past S (build (base_state s.darts P.base) P.base [] ls)
pyramid_zones {s} {past = past} P = list_zones s.darts P.base P.count P.size P.permutation (map operation_of (reverse past)) (pyramid_listed P)
