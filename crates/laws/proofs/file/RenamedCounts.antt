-- A renamed map has as many vertices and as many faces.
--   counts-renamed == the numbers that a state stores of a table are those of the renamed table
use mathlib.Core.Bool.{true}
use mathlib.Core.List.{List, map}
use mathlib.Core.Logic.Iff
use mathlib.Core.Logic.{◌↔◌}
use mathlib.Core.Path.{◌≡◌, refl, sym, ap, ◌∙◌, subst}
use Prim.Native.Nat.{ℕ, ◌<◌, ◌%◌}
use native.Mathlib.Omega.{arith}
use lib.Dec.{T}
use lib.ListN.{get_or}
use Rattle.permutations.specs.Perm.{Perm, below}
use Rattle.permutations.specs.Cycle.{Meets, meets_refl}
use Rattle.permutations.specs.Map.{face}
use Rattle.permutations.proofs.Dual.{face_perm}
use Rattle.permutations.specs.Labels.{Labels}
use Rattle.permutations.proofs.Cycles.{cycles}
use Rattle.permutations.proofs.CyclesCounted.{cycles_alike}
use Rattle.permutations.proofs.Euler.{vertices, faces}
use Rattle.darts.specs.State.{State}
use Rattle.darts.specs.Tests.{numbered}
use Rattle.darts.specs.Counts.{counts_of}
use Rattle.laws.specs.Standing.{map_of, Standing}
use Rattle.laws.proofs.bridge.Standing.{live}
use Rattle.laws.proofs.bridge.Counting.{counts_numbers}
use Rattle.laws.proofs.bridge.Walks.{lowest_met, lowest_all, lowest_labels}
use Rattle.laws.proofs.runs.Ends.{Stores}
use Rattle.laws.proofs.file.Renamed.{Renaming, renamed}
use Rattle.laws.proofs.file.RenamedMap.{renumbered, walk_renamed, meets_renamed, each_number_lem, lives, lives', small', renamed_stands, next_renamed, face_renamed}

module _ {D : ℕ} {order : List ℕ} {ν : ℕ → ℕ} (R : Renaming D order ν) (even : D % 2 ≡ 0) {t past : List ℕ} (S : Standing D t past) (N : T (numbered D past)) where
  abbrev t' : List ℕ
  t' = renamed order ν t

  abbrev past' : List ℕ
  past' = map (renumbered ν) past

  module _ (f f' : ℕ → ℕ) (π : Perm D f) (π' : Perm D f') (same : (x : ℕ) → x < D → f' (ν x) ≡ ν (f x)) where
    abbrev L : ℕ → ℕ
    L = lowest_met f D

    -- the lowest dart of the cycle, in the old numbers
    abbrev M : ℕ → ℕ
    M y = L (get_or order y 0)

    stays : (x : ℕ) → x < D → f x < D
    stays x = below π

    met : (x y : ℕ) → x < D → y < D → Meets f x y ↔ Meets f' (ν x) (ν y)
    met x y h k = (
      λ m. record { steps = m.steps; there = walk_renamed R f f' same stays m.steps x h ∙ ap ν m.there },
      meets_renamed R f f' same stays x y h k,
    )

    labels : Labels (live D past') f' M
    labels = record {
      says = λ y z s t. each_number_lem R even (λ y. (z : ℕ) → z < D → (M y ≡ M z) ↔ Meets f' y z)
          (λ x h. each_number_lem R even (λ z. (M (ν x) ≡ M z) ↔ Meets f' (ν x) z)
          (λ w k. rw (R.back x h, R.back w k) (Iff.trans ((lowest_labels π (λ x. true)).says x w tt tt) (met x w h k))))
          y (small' R even S N y s) z (small' R even S N z t);
    }

    cycles_renamed : cycles D (live D past) f ≡ cycles D (live D past') f'
    cycles_renamed = cycles_alike π π' (lowest_labels π (live D past)) labels S.good.small (small' R even S N)
        (λ x l. (ν x, lives' R even S N x l, ap L (R.back x (S.good.small x l))))
        (λ y l. (get_or order y 0, old y l, refl))
        D (λ x l. let k = S.good.small x l in let h = lowest_all π (meets_refl f x) in omega arith)
      where
        old : (y : ℕ) → T (live D past' y) → T (live D past (get_or order y 0))
        old y l = let h = small' R even S N y l in lives R even S N (get_or order y 0) (R.dart y h) (subst (λ i. T (live D past' i)) (sym (R.forth y h)) l)

  S' : Standing D t' past'
  S' = renamed_stands R even S N

  vertices_renamed : (counts_of D t past).vertices ≡ (counts_of D t' past').vertices
  unfolding vertices
  vertices_renamed =
      (counts_numbers S).vertices_are ∙ cycles_renamed (map_of D t past).next (map_of D t' past').next S.good.perm S'.good.perm (next_renamed R even S N)
      ∙ sym (counts_numbers S').vertices_are

  faces_renamed : (counts_of D t past).faces ≡ (counts_of D t' past').faces
  unfolding faces
  faces_renamed =
      (counts_numbers S).faces_are ∙ cycles_renamed (face (map_of D t past)) (face (map_of D t' past')) (face_perm S.good) (face_perm S'.good) (face_renamed R even S N)
      ∙ sym (counts_numbers S').faces_are

-- THE RENAMED TABLE HAS THE NUMBERS THAT THE STATE STORES
pub stores_renamed : {s : State} {order : List ℕ} {ν : ℕ → ℕ} (R : Renaming s.darts order ν) {t past : List ℕ} → Standing s.darts t past → T (numbered s.darts past)
    → Stores s t past → Stores s (renamed order ν t) (map (renumbered ν) past)
stores_renamed R S N K = record { vertices = K.vertices ∙ vertices_renamed R S.even S N; faces = K.faces ∙ faces_renamed R S.even S N }
