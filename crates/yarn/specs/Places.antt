-- Where each zone's record is, and what an operation merges (document 02, request Five). b is a base of D darts; hs is a history, the first operation first.
--   lowest D b x       == the lowest dart of x's vertex; D where x is no dart
--   is_place D b x      == x is the place of a base vertex's record
--   joins R e          == the places R of the darts' records, once the edge e is contracted
--   zoned k R e        == the same for an operation of kind k on the edge e
--   places_after R hs   == the places once the operations hs are done
--   zone_of D b hs x    == the place of the record of the zone of dart x, after the operations hs on the base b
--   merge_by k R e      == what an operation of kind k on the edge e merges, where the places are R
--   merges_of R hs t    == what operation t of hs merges, from 0
--   merges D b hs t    == the same on the base b
use Rattle.std.specs.Prelude.{Bool, List, [], ◌∷◌, ℕ, zero, suc, ◌+◌, ◌*◌, min, max, eqb}
use Rattle.std.specs.Prelude.{if◌then◌else◌}
use Rattle.darts.specs.Map.{same_vertex}
use Rattle.darts.specs.Operation.{Kind, contraction, removal, kind_of, edge_of}
use Rattle.sheets.specs.Sheets.{Merge, none, into}

-- the first of the n darts from y on that is on x's vertex
unfoldable pub lowest_from : ℕ → List ℕ → ℕ → ℕ → ℕ → ℕ
lowest_from D b x zero y = y
lowest_from D b x (suc n) y = if same_vertex D b y x then y else lowest_from D b x n (suc y)

-- "one record for each vertex of the base, at the place of its lowest dart among D places"
unfoldable pub lowest : ℕ → List ℕ → ℕ → ℕ
lowest D b x = lowest_from D b x D 0

-- "(the others are not looked at)"
unfoldable pub is_place : ℕ → List ℕ → ℕ → Bool
is_place D b x = eqb (lowest D b x) x

-- "A contraction merges the two records into the lower-numbered one": what had the higher place has the lower one from then on
unfoldable pub joins : (ℕ → ℕ) → ℕ → ℕ → ℕ
joins R e x =
    let p : ℕ = R (2 * e) in
    let q : ℕ = R (2 * e + 1) in
    if eqb (R x) (max p q) then min p q else R x

-- a removal joins no zones
unfoldable pub zoned : Kind → (ℕ → ℕ) → ℕ → ℕ → ℕ
zoned contraction R e = joins R e
zoned removal R e = R

unfoldable pub places_after : (ℕ → ℕ) → List ℕ → ℕ → ℕ
places_after R [] = R
places_after R (h ∷ hs) = places_after (zoned (kind_of h) R (edge_of h)) hs

unfoldable pub zone_of : ℕ → List ℕ → List ℕ → ℕ → ℕ
zone_of D b hs = places_after (lowest D b) hs

unfoldable pub merge_by : Kind → (ℕ → ℕ) → ℕ → Merge
merge_by contraction R e = into (min (R (2 * e)) (R (2 * e + 1))) (max (R (2 * e)) (R (2 * e + 1)))
merge_by removal R e = none

unfoldable pub merges_of : (ℕ → ℕ) → List ℕ → ℕ → Merge
merges_of R [] t = none
merges_of R (h ∷ hs) zero = merge_by (kind_of h) R (edge_of h)
merges_of R (h ∷ hs) (suc t) = merges_of (zoned (kind_of h) R (edge_of h)) hs t

unfoldable pub merges : ℕ → List ℕ → List ℕ → ℕ → Merge
merges D b hs = merges_of (lowest D b) hs
