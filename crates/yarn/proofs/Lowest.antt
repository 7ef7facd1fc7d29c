-- The lowest dart of each vertex of a base.
--   lowest_met_lem    == it is on the vertex
--   lowest_least  == none that is on the vertex is lower
--   lowest_below  == so it is not above the dart
--   lowest_labels == two darts have the same one exactly where they are on one vertex
use mathlib.Core.List.{List, []}
use mathlib.Core.Path.{◌≡◌}
use Prim.Native.Nat.{ℕ, zero, suc, ◌+◌, ◌≤◌, ◌<◌}
use native.Mathlib.Decide.{ℕ_discrete}
use native.Mathlib.Omega.{arith}
use lib.Dec.{T}
use Rattle.permutations.specs.Choice.{T?, T→true, not_T→false}
use Rattle.permutations.specs.Cycle.{Meets, meets_refl, meets_trans, meets_sym}
use Rattle.permutations.specs.Labels.{Labels}
use Rattle.darts.specs.Map.{live, same_vertex}
use Rattle.laws.specs.Standing.{map_of, Standing}
use Rattle.laws.proofs.bridge.Bases.{all_live}
use Rattle.laws.proofs.bridge.Judged.{same_vertex_lem}
use Rattle.yarn.specs.Places.{lowest_from, lowest}

-- ---- the search

module _ (D : ℕ) (b : List ℕ) (x : ℕ) where
  -- a dart of the vertex that is not below y is above it, where y is on another vertex
  later : {y z : ℕ} → y ≤ z → T (same_vertex D b z x) → ¬ T (same_vertex D b y x) → suc y ≤ z
  later {y} {z} l m f = go (ℕ_discrete y z)
    where
      go : Dec (y ≡ z) → suc y ≤ z
      go (yes e) = absurd (f (rw e m))
      go (no o) = omega arith

  found : (n y z : ℕ) → y ≤ z → z < y + n → T (same_vertex D b z x) → T (same_vertex D b (lowest_from D b x n y) x)
  unfolding lowest_from
  found zero y z l h m = absurd (omega arith)
  found (suc n) y z l h m = go (T? (same_vertex D b y x)) (λ o. found n (suc y) z o (omega arith) m)
    where
      go : Dec (T (same_vertex D b y x)) → (suc y ≤ z → T (same_vertex D b (lowest_from D b x n (suc y)) x)) → T (same_vertex D b (lowest_from D b x (suc n) y) x)
      go (yes t) more = rw (T→true (same_vertex D b y x) t) t
      go (no f) more = rw (not_T→false (same_vertex D b y x) f) (more (later l m f))

  least : (n y z : ℕ) → y ≤ z → T (same_vertex D b z x) → lowest_from D b x n y ≤ z
  unfolding lowest_from
  least zero y z l m = l
  least (suc n) y z l m = go (T? (same_vertex D b y x)) (λ o. least n (suc y) z o m)
    where
      go : Dec (T (same_vertex D b y x)) → (suc y ≤ z → lowest_from D b x n (suc y) ≤ z) → lowest_from D b x (suc n) y ≤ z
      go (yes t) more = rw (T→true (same_vertex D b y x) t) l
      go (no f) more = rw (not_T→false (same_vertex D b y x) f) (more (later l m f))

  pub lowest_least : (z : ℕ) → T (same_vertex D b z x) → lowest D b x ≤ z
  unfolding lowest
  lowest_least z m = least D 0 z (omega arith) m

-- ---- on a base

module _ {D : ℕ} {b : List ℕ} (S : Standing D b []) where
  abbrev next : ℕ → ℕ
  next = (map_of D b []).next

  shares : {x y : ℕ} → x < D → Meets next x y → T (same_vertex D b x y)
  shares {x} {y} h m = (same_vertex_lem S x y ((all_live D x).1 h)).1 m

  pub lowest_below : (x : ℕ) → x < D → lowest D b x ≤ x
  lowest_below x h = lowest_least D b x x (shares h (meets_refl next x))

  lowest_dart : (x : ℕ) → x < D → lowest D b x < D
  lowest_dart x h = let l = lowest_below x h in omega arith

  pub lowest_met_lem : (x : ℕ) → x < D → Meets next (lowest D b x) x
  unfolding lowest
  lowest_met_lem x h =
      (same_vertex_lem S (lowest D b x) x ((all_live D (lowest D b x)).1 (lowest_dart x h))).0
      (found D b x D 0 x (omega arith) (omega arith) (shares h (meets_refl next x)))

  lowest_falls : {x y : ℕ} → x < D → Meets next x y → lowest D b y ≤ lowest D b x
  lowest_falls {x} {y} h m = lowest_least D b y (lowest D b x) (shares (lowest_dart x h) (meets_trans next (lowest_met_lem x h) m))

  -- THE LOWEST DARTS ARE LABELS OF THE VERTICES
  pub lowest_labels : Labels (live D []) next (lowest D b)
  lowest_labels = record {
    says = λ x y s t.
        let h = (all_live D x).0 s in
        let k = (all_live D y).0 t in (
          λ e. meets_trans next (meets_sym S.good.perm (lowest_met_lem x h)) (rw (← e) at (lowest_met_lem y k)),
          λ m.
              let l = lowest_falls h m in
              let r = lowest_falls k (meets_sym S.good.perm m) in
              omega arith,
        );
  }
