-- "4 if the table and ends come from no pyramid": the decision is right.
--   comes_decided == the decision says yes exactly where the table and ends come from a pyramid
--   comes_top     == the top of the ends is then the number of its kernels
use mathlib.Core.Bool.{◌&&◌}
use mathlib.Core.List.{List, []}
use mathlib.Core.Logic.{◌↔◌, ◌⊎◌, inl, inr}
use mathlib.Core.Path.{◌≡◌, refl, ap}
use Prim.Native.Nat.{ℕ, ◌/◌, ◌≤◌}
use native.Mathlib.Omega.{arith}
use lib.Dec.{T, leb, leb→le}
use lib.ListN.{length}
use Rattle.permutations.specs.Choice.{T?, and_intro, and_left, and_right}
use Rattle.permutations.specs.Live.{has}
use Rattle.darts.specs.Map.{permutes, permutation_test, passed}
use Rattle.darts.specs.Kernel.{Run, stands, stops}
use Rattle.darts.specs.State.{base_state}
use Rattle.darts.specs.Pyramid.{Kernel, dart_count}
use Rattle.darts.specs.OneByOne.{one_by_one, operations_of, NoneEmpty}
use Rattle.laws.proofs.bridge.Bases.{base_stands}
use Rattle.laws.proofs.bridge.Verdicts.{passed_iff}
use Rattle.laws.proofs.runs.Ends.{layered_base}
use Rattle.laws.proofs.runs.Builds.{built}
use Rattle.laws.proofs.runs.Cuts.{kernels_listed}
use Rattle.laws.proofs.claims.AnyOrder.{other_order, any_order}
use Rattle.ends.specs.Ends.{level_of, top, in_use, one_kind, shaped}
use Rattle.ends.specs.Comes.{end_in, ends_so, Comes, operations, accepted, comes}
use Rattle.ends.proofs.Levels.{at, in_use_iff, OneKind, one_kind_iff}
use Rattle.ends.proofs.Tells.{same_operations, operations_told}
use Rattle.ends.proofs.Ended.{edges_of, end_none, Ended, ended_told}
use Rattle.ends.proofs.Accepted.{built_some, so_iff, comes_ended}
use Rattle.ends.proofs.Form.{top_kernels, ended_shaped}
use Rattle.ends.proofs.ByLevels.{kernels_from, kernels_count, kernels_some, kernels_ended}

record Stood (r : Run) : Type 0 where
  table : List ℕ
  past : List ℕ
  stood : r ≡ stands table past

accepted_stands : (r : Run) → T (accepted r) → Stood r
unfolding accepted
accepted_stands (stands t past) h = record { table = t; past = past; stood = refl }
accepted_stands (stops a) h = absurd h

stands_accepted : {r : Run} {t past : List ℕ} → r ≡ stands t past → T (accepted r)
unfolding accepted
stands_accepted e = rw e tt

-- ---- from the pyramid to the decision

module _ {D : ℕ} {t ends : List ℕ} (size : length ends ≡ D / 2) (C : Comes D t ends) where
  some : NoneEmpty C.kernels
  some = built_some (base_state D t) t [] C.kernels C.built

  few : length C.kernels ≤ 64
  few =
      let B = built (base_stands D t C.count C.size C.permutation) (layered_base D t) (record { vertices = refl; faces = refl }) C.kernels C.built in
      let h = B.height in
      let m = B.layered.most in
      omega arith

  comes_yes : T (comes D t ends)
  unfolding comes
  comes_yes =
      let E = comes_ended size C in
      let listed = kernels_listed (base_state D t) t [] C.kernels C.built in
      let A = other_order D t C.count C.size C.permutation (operations_of C.kernels) listed (operations ends)
      (same_operations ends (ended_told E) (operations_told ends)) in
      let run : Run = one_by_one D t [] (operations ends) in
      and_intro (passed (permutation_test D t)) (shaped ends && accepted run) ((passed_iff (permutation_test D t)).1 C.permutation)
      (and_intro (shaped ends) (accepted run) (ended_shaped E some few) (stands_accepted A.accepted))

-- ---- from the decision to the pyramid

-- kernels that end each edge as the ends say do so for each edge, whether it survives or not
ended_so : {ends : List ℕ} {ks : List Kernel} → Ended ends ks → (e : ℕ) → T (ends_so (at ends e) (end_in 1 ks e))
unfolding level_of
ended_so {ends} {ks} E e = (so_iff (at ends e) (end_in 1 ks e)).1 (go (T? (has (edges_of ks) e)))
  where
    go : Dec (T (has (edges_of ks) e)) → (at ends e ≡ end_in 1 ks e) ⊎ ((level_of (at ends e) ≡ 0) × (level_of (end_in 1 ks e) ≡ 0))
    go (yes h) = inl (E.taken e h)
    go (no n) = inr (E.left e n, ap level_of (end_none 1 ks e n))

module _ {D : ℕ} {t ends : List ℕ} (count : T (dart_count D)) (size : length t ≡ D) (permutation : permutation_test D t ≡ permutes)
    (few : top ends ≤ 64) (used : T (in_use ends (top ends))) (kinds : OneKind ends ends) (S : Stood (one_by_one D t [] (operations ends))) where
  from_levels : Comes D t ends
  from_levels =
      let ks = kernels_from ends 1 (top ends) in
      let E = kernels_ended ends kinds in
      let n = kernels_count ends 1 (top ends) in
      let A = any_order D t count size permutation (operations ends) S.stood ks (same_operations ends (operations_told ends) (ended_told E))
      (kernels_some ends 1 (top ends) (omega arith) (λ L a b. (in_use_iff ends (top ends)).0 used L a (omega arith))) (omega arith) in
      record {
        count = count;
        size = size;
        permutation = permutation;
        kernels = ks;
        state = A.state;
        table = A.table;
        past = A.new;
        built = A.accepted;
        told = λ e l. ended_so E e;
      }

yes_comes : (D : ℕ) (t ends : List ℕ) → T (dart_count D) → length t ≡ D → T (comes D t ends) → Comes D t ends
unfolding comes shaped
yes_comes D t ends count size h =
    let run : Run = one_by_one D t [] (operations ends) in
    let rest = and_right (passed (permutation_test D t)) (shaped ends && accepted run) h in
    let form = and_left (shaped ends) (accepted run) rest in
    let levels = and_right (leb (top ends) 64) (in_use ends (top ends) && one_kind ends ends) form in
    from_levels count size ((passed_iff (permutation_test D t)).0 (and_left (passed (permutation_test D t)) (shaped ends && accepted run) h))
    (leb→le (top ends) 64 (and_left (leb (top ends) 64) (in_use ends (top ends) && one_kind ends ends) form))
    (and_left (in_use ends (top ends)) (one_kind ends ends) levels)
    ((one_kind_iff ends ends).0 (and_right (in_use ends (top ends)) (one_kind ends ends) levels))
    (accepted_stands run (and_right (shaped ends) (accepted run) rest))

-- THE DECISION SAYS YES EXACTLY WHERE THE TABLE AND ENDS COME FROM A PYRAMID
pub comes_decided : (D : ℕ) (t ends : List ℕ) → T (dart_count D) → length t ≡ D → length ends ≡ D / 2 → T (comes D t ends) ↔ Comes D t ends
comes_decided D t ends count size room = (yes_comes D t ends count size, comes_yes room)

-- THE TOP OF THE ENDS IS THE NUMBER OF KERNELS
pub comes_top : (D : ℕ) (t ends : List ℕ) → length ends ≡ D / 2 → (C : Comes D t ends) → top ends ≡ length C.kernels
comes_top D t ends room C = top_kernels (comes_ended room C) (some room C)
