-- Pyramids: what holds of them, and what lies one level up and one level down.
--   pyramid_built, built_pyramid  == a pyramid is built from its base by its kernels; what is built so is a pyramid
--   pyramid_sweep                 == of a pyramid the sweep is the removal kernel of the edges that it takes
--   reduce_pyramid, sweep_pyramid == a kernel and the sweep lead from pyramids to pyramids
--   Stacked z u new               == z, u and new are a base, or one kernel over a pyramid
use mathlib.Core.List.{List, [], ◌∷◌, ◌++◌, concat, concat-eq-append, eq-nil-or-concat}
use mathlib.Core.Logic.{◌↔◌, ◌⊎◌, inl, inr}
use mathlib.Core.Path.{◌≡◌, refl, sym, ◌∙◌, ap, subst}
use Prim.Native.Nat.{ℕ}
use lib.Dec.{T}
use lib.ListN.{length}
use Rattle.darts.specs.Map.{permutes, permutation_test}
use Rattle.darts.specs.Operation.{Kind, removal}
use Rattle.darts.specs.State.{State, counted, base_state, gives, and_then, reduce}
use Rattle.darts.specs.Levels.{sweep}
use Rattle.darts.specs.Pyramid.{Kernel, Pyramid, dart_count, build}
use Rattle.laws.proofs.bridge.Bases.{base_stands}
use Rattle.laws.proofs.runs.Ends.{Stores, state_path, layered_base}
use Rattle.laws.proofs.runs.Results.{then, same_result}
use Rattle.laws.proofs.runs.Builds.{Built, built, build_last}
use Rattle.laws.proofs.runs.Sweeps.{loops, sweep_reduces}

-- WHAT HOLDS OF A PYRAMID
pub pyramid_built : {s : State} {t past : List ℕ} (P : Pyramid s t past) → Built s.darts (base_state s.darts P.base) P.base [] P.kernels s t past
pyramid_built {s} P = built (base_stands s.darts P.base P.count P.size P.permutation) (layered_base s.darts P.base) (record { vertices = refl; faces = refl }) P.kernels P.built

-- WHAT IS BUILT FROM A BASE IS A PYRAMID
pub built_pyramid : (D : ℕ) (b : List ℕ) → T (dart_count D) → length b ≡ D → permutation_test D b ≡ permutes
    → (ks : List Kernel) {s : State} {t past : List ℕ} → build (base_state D b) b [] ks ≡ gives s t past → Pyramid s t past
built_pyramid D b count size permutation ks {s} {t} {past} e =
    let darts : s.darts ≡ D = (built (base_stands D b count size permutation) (layered_base D b) (record { vertices = refl; faces = refl }) ks e).layered.size in
    record {
      count = rw darts count;
      base = b;
      size = rw darts size;
      permutation = rw darts permutation;
      kernels = ks;
      built = subst (λ n. build (base_state n b) b [] ks ≡ gives s t past) (sym darts) e;
    }

-- A STATE IS A PYRAMID WHERE ITS FIGURES ARE, WITH THE NUMBERS OF THEIR CYCLES, AND IT STORES THESE NUMBERS
pub stores_counted : {s : State} {t past : List ℕ} → Stores s t past → s ≡ counted s t past
stores_counted N = state_path refl refl refl refl N.vertices N.faces

pub pyramid_counted : {s : State} {t past : List ℕ} → Pyramid s t past ↔ (Pyramid (counted s t past) t past × Stores s t past)
pyramid_counted {s} {t} {past} = (
  λ P. let N = (pyramid_built P).stored in (subst (λ z. Pyramid z t past) (stores_counted N) P, N),
  λ (P, N). subst (λ z. Pyramid z t past) (sym (stores_counted N)) P,
)

-- ---- one level up

-- "The sweep is a removal kernel"
pub pyramid_sweep : {s : State} {t past : List ℕ} → Pyramid s t past → sweep s t past ≡ reduce removal (loops s t past) s t past
pyramid_sweep {s} {t} {past} P = sweep_reduces s t past (pyramid_built P).standing

module _ {s : State} {t past : List ℕ} {z : State} {u new : List ℕ} (P : Pyramid s t past) where
  pub reduce_pyramid : (k : Kind) (es : List ℕ) → reduce k es s t past ≡ gives z u new → Pyramid z u new
  reduce_pyramid k es e =
      let top : Kernel = record { kind = k; edges = es } in
      built_pyramid s.darts P.base P.count P.size P.permutation (P.kernels ++ (top ∷ []))
      (build_last (base_state s.darts P.base) P.base [] P.kernels top ∙ rw P.built e)

  pub sweep_pyramid : sweep s t past ≡ gives z u new → Pyramid z u new
  sweep_pyramid e = reduce_pyramid removal (loops s t past) (sym (pyramid_sweep P) ∙ e)

-- ---- one level down

pub data Stacked (z : State) (u new : List ℕ) : Type 0 where
  ground : z.levels ≡ 0 → Stacked z u new
  over : {s : State} {t past : List ℕ} → Pyramid s t past → (k : Kernel) → reduce k.kind k.edges s t past ≡ gives z u new → Stacked z u new

module _ {s : State} {t past : List ℕ} (P : Pyramid s t past) where
  last_built : (ks : List Kernel) (k : Kernel) → P.kernels ≡ ks ++ (k ∷ [])
      → and_then (build (base_state s.darts P.base) P.base [] ks) (reduce k.kind k.edges) ≡ gives s t past
  last_built ks k e = sym (build_last (base_state s.darts P.base) P.base [] ks k) ∙ ap (build (base_state s.darts P.base) P.base []) (sym e) ∙ P.built

  -- the kernels below the last one build a pyramid, and the last one leads from there to here
  last_over : (ks : List Kernel) (k : Kernel) → P.kernels ≡ ks ++ (k ∷ []) → Stacked s t past
  last_over ks k e =
      let below = then (build (base_state s.darts P.base) P.base [] ks) (reduce k.kind k.edges) (last_built ks k e) in
      over (built_pyramid s.darts P.base P.count P.size P.permutation ks below.first) k below.next

  -- A PYRAMID IS A BASE, OR ONE KERNEL OVER A PYRAMID
  pub stacked : Stacked s t past
  unfolding build
  stacked = go (eq-nil-or-concat P.kernels)
    where
      go : (P.kernels ≡ []) ⊎ ((ks : List Kernel) × (k : Kernel) × (P.kernels ≡ concat ks k)) → Stacked s t past
      go (inl e) = same_result Stacked (rw e at P.built) (ground refl)
      go (inr r) = last_over r.0 r.1 (r.2 ∙ concat-eq-append r.0 r.1)
