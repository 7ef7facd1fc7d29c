-- Labels of one kind alone, and labels by walking.
--   walked k s t past == the lowest dart of each cycle of the base: labels that are always right
use mathlib.Core.List.{List, [], reverse}
use mathlib.Core.Logic.{◌↔◌}
use Prim.Native.Nat.{ℕ}
use lib.Dec.{T}
use Rattle.permutations.specs.Map.{Map}
use Rattle.permutations.proofs.Dual.{face_perm}
use Rattle.permutations.specs.Labels.{Labels}
use Rattle.darts.specs.Operation.{Kind, contraction, removal}
use Rattle.darts.specs.State.{State}
use Rattle.darts.specs.Pyramid.{Pyramid}
use Rattle.laws.proofs.runs.Ends.{Stores}
use Rattle.laws.specs.Standing.{map_of, Standing, cycles_of}
use Rattle.laws.proofs.bridge.Standing.{live}
use Rattle.darts.specs.Tests.{relabelled, tested}
use Rattle.laws.proofs.bridge.Walks.{lowest_met, lowest_labels}
use Rattle.laws.proofs.tests.TestsDecide.{base_of, tests_decide, top_labelled}

abbrev pub walked : Kind → State → List ℕ → List ℕ → ℕ → ℕ
walked k s t past = let D : ℕ = s.darts in lowest_met (cycles_of k (map_of D (base_of s t past) [])) D

module _ (s : State) (t past : List ℕ) where
  abbrev D : ℕ
  D = s.darts

  abbrev base : Map
  base = map_of D (base_of s t past) []

  walked_right : (k : Kind) → Standing D (base_of s t past) [] → Labels (live D []) (cycles_of k base) (walked k s t past)
  walked_right contraction S = lowest_labels S.good.perm (live D [])
  walked_right removal S = lowest_labels (face_perm S.good) (live D [])

  -- THE TESTS DECIDE, WITH NO LABELS GIVEN
  pub walked_decide : (T (tested (walked contraction s t past) (walked removal s t past) s t past) × Stores s t past) ↔ Pyramid s t past
  walked_decide =
      tests_decide (walked contraction s t past) (walked removal s t past) s t past
      (λ S. record { vertex = walked_right contraction S; side = walked_right removal S })

  -- THE MERGED LABELS OF ONE KIND ARE RIGHT AT THE TOP
  pub labels_at_top : Pyramid s t past → (k : Kind) (L : ℕ → ℕ) → Labels (live D []) (cycles_of k base) L
      → Labels (live D past) (cycles_of k (map_of D t past)) (relabelled k L (reverse past))
  labels_at_top P contraction L Λ =
      (top_labelled L (walked removal s t past) s t past (λ S. record { vertex = Λ; side = walked_right removal S }) P).vertex
  labels_at_top P removal L Λ =
      (top_labelled (walked contraction s t past) L s t past (λ S. record { vertex = walked_right contraction S; side = Λ }) P).side
