-- Merging as a kernel: one level over the base.
--   merging_reduces == it is the contraction kernel of the edges that it takes, where it is refused too
--   merging_gives   == where it takes an edge, it gives the level
--   merging_refuses == where it takes none, it is an empty kernel (answer 5)
--   merging_pyramid == what it gives is a pyramid
use mathlib.Core.Bool.{Bool}
use mathlib.Core.List.{List, [], ◌∷◌}
use mathlib.Core.Logic.{◌≢◌}
use mathlib.Core.Path.{◌≡◌, refl, sym, ap, ◌∙◌}
use Prim.Native.Nat.{ℕ}
use native.Mathlib.Omega.{arith}
use lib.Dec.{T}
use lib.ListN.{length}
use Rattle.permutations.specs.Choice.{eqb_other}
use Rattle.darts.specs.Answers.{empty_kernel}
use Rattle.darts.specs.Map.{permutes, permutation_test}
use Rattle.darts.specs.Operation.{contraction}
use Rattle.darts.specs.Kernel.{stands}
use Rattle.darts.specs.State.{base_state, gives, refuses, raised, levelled, reduce}
use Rattle.darts.specs.Pyramid.{Pyramid, dart_count, build}
use Rattle.laws.proofs.runs.Pyramids.{built_pyramid, reduce_pyramid}
use Rattle.laws.proofs.merging.Turns.{merging, merged}
use Rattle.laws.proofs.merging.Stands.{merging_run}

pub base_pyramid : (D : ℕ) (t : List ℕ) → T (dart_count D) → length t ≡ D → permutation_test D t ≡ permutes → Pyramid (base_state D t) t []
unfolding build
base_pyramid D t count size permutation = built_pyramid D t count size permutation [] refl

longer : (past : List ℕ) → past ≢ [] → length past ≢ 0
longer [] some e = some refl
longer (h ∷ past) some e = omega arith

module _ (D : ℕ) (same : ℕ → Bool) (t : List ℕ) where
  -- A PASS BY RISING NUMBER IS A KERNEL
  pub merging_reduces : levelled (base_state D t) [] (merging D same t) ≡ reduce contraction (merged D same t) (base_state D t) t []
  unfolding reduce
  merging_reduces = ap (levelled (base_state D t) []) (merging_run D same t)

  module _ {u past : List ℕ} (stood : merging D same t ≡ stands u past) where
    pub merging_gives : past ≢ [] → levelled (base_state D t) [] (merging D same t) ≡ gives (raised (base_state D t) u past) u past
    unfolding levelled
    merging_gives some = rw (stood, eqb_other (longer past some))

    -- "answers 5 [..] where its kernel would take no edge"
    pub merging_refuses : past ≡ [] → levelled (base_state D t) [] (merging D same t) ≡ refuses empty_kernel
    unfolding levelled
    merging_refuses none = rw (stood, none)

    -- WHAT MERGING GIVES IS A PYRAMID
    pub merging_pyramid : T (dart_count D) → length t ≡ D → permutation_test D t ≡ permutes → past ≢ [] → Pyramid (raised (base_state D t) u past) u past
    merging_pyramid count size permutation some =
        reduce_pyramid (base_pyramid D t count size permutation) contraction (merged D same t) (sym merging_reduces ∙ merging_gives some)
