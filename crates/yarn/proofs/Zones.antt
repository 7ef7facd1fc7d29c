-- The place of a zone's record.
--   zone_lowest == no base vertex that went into the zone has a lower place
--   zone_dart, zone_own, zone_place == the place is a dart, of the zone itself, and the place of a base vertex
--   zone_same   == survivors have one place exactly where they are on one vertex
use mathlib.Core.List.{List, [], reverse}
use mathlib.Core.Logic.Iff
use mathlib.Core.Logic.{◌↔◌}
use mathlib.Core.Path.{◌≡◌}
use Prim.Native.Nat.{ℕ, ◌≤◌, ◌<◌}
use native.Mathlib.Omega.{arith}
use lib.Dec.{T}
use Rattle.permutations.specs.Choice.{eqb_iff}
use Rattle.darts.specs.Map.{live, same_vertex}
use Rattle.darts.specs.Operation.{contraction}
use Rattle.darts.specs.State.{State}
use Rattle.darts.specs.Pyramid.{Pyramid}
use Rattle.laws.specs.Standing.{Standing}
use Rattle.laws.proofs.bridge.Judged.{same_vertex_lem}
use Rattle.laws.proofs.runs.Pyramids.{pyramid_built}
use Rattle.laws.proofs.tests.TopLabels.{labels_at_top}
use Rattle.yarn.specs.Places.{lowest, is_place, zone_of}
use Rattle.yarn.specs.Calls.{base_of}
use Rattle.yarn.proofs.Lowest.{lowest_labels}
use Rattle.yarn.proofs.Settled.{Inside, Settled, after_falls, after_settled, lowest_settled}
use Rattle.yarn.proofs.Apart.{alike_same, after_alike, base_standing}

-- ---- after any operations

-- "A contraction merges the two records into the lower-numbered one"
pub zone_lowest : (D : ℕ) (b hs : List ℕ) (x y : ℕ) → zone_of D b hs y ≡ zone_of D b hs x → zone_of D b hs x ≤ lowest D b y
unfolding zone_of
zone_lowest D b hs x y e = let l = after_falls hs (lowest D b) y in omega arith

module _ {D : ℕ} {b : List ℕ} (S : Standing D b []) (hs : List ℕ) (inside : Inside D hs) (x : ℕ) (d : x < D) where
  settled : Settled D (zone_of D b hs)
  unfolding zone_of
  settled = after_settled hs (lowest_settled S) inside

  pub zone_dart : zone_of D b hs x < D
  zone_dart = let l = settled.below x d in omega arith

  -- IT IS THE PLACE OF ONE OF THE VERTICES THAT WENT INTO THE ZONE
  pub zone_own : zone_of D b hs (zone_of D b hs x) ≡ zone_of D b hs x
  zone_own = settled.own x d

  pub zone_place : T (is_place D b (zone_of D b hs x))
  unfolding is_place
  zone_place =
      let z = zone_of D b hs x in
      let low = zone_lowest D b hs x z zone_own in
      let most = (lowest_settled S).below z zone_dart in
      (eqb_iff (lowest D b z) z).1 (omega arith)

-- ---- on a pyramid

-- THE PLACE OF A RECORD IS A PROPERTY OF THE ZONE
pub zone_same : {s : State} {t past : List ℕ} → Pyramid s t past → (x y : ℕ) → T (live s.darts past x) → T (live s.darts past y)
    → (let z : ℕ → ℕ = zone_of s.darts (base_of s t past) (reverse past) in (z x ≡ z y) ↔ T (same_vertex s.darts t x y))
unfolding zone_of base_of
zone_same {s} {t} {past} P x y lx ly =
    let b = base_of s t past in
    let top = labels_at_top s t past P contraction (lowest s.darts b) (lowest_labels (base_standing P)) in
    let alike = after_alike (reverse past) (alike_same (lowest s.darts b)) in
    Iff.trans (Iff.symm (alike.same x y)) (Iff.trans (top.says x y lx ly) (Iff.symm (same_vertex_lem (pyramid_built P).standing x y lx)))
