-- "Any accepted list of operations is accepted in any other order and in any cut into levels, and every surviving dart ends with the same successor."
--   Alike D t past u new  == the table u and its past have the survivors of the table t and its past, with the same successors, by as many operations, and
--                            the same counts
--   ListAgrees D t past r == the run r of a list is accepted, and alike
--   Agrees D t past r     == the result r of kernels is accepted, and alike
--   other_order           == whatever list holds the operations of an accepted list, in any order, it agrees with it
--   any_order             == and so do whatever kernels hold them
--   any_cut               == where the accepted list is one of kernels
--   pyramid_listed        == the operations that a pyramid's history tells are such a list on its base
--   pyramid_order         == where it is that one, whether kernels or sweeps made the levels
use mathlib.Core.Bool.{true}
use mathlib.Core.List.Permᴰ
use mathlib.Core.List.{List, [], map, reverse, Permᴰ}
use mathlib.Core.Path.{◌≡◌, sym, ◌∙◌, ap}
use Prim.Native.Nat.{ℕ, ◌+◌, ◌≤◌, ◌<◌}
use native.Mathlib.Omega.{arith}
use lib.Dec.{T, ltb, lt→ltb}
use lib.ListN.{length}
use Rattle.permutations.specs.Choice.{T→true}
use Rattle.permutations.proofs.Order.{any_order as any-order-of-maps}
use Rattle.darts.specs.Map.{successor, survives, permutes, permutation_test}
use Rattle.darts.specs.Kernel.{Operation, Run, stands}
use Rattle.darts.specs.State.{State, base_state, Result, gives}
use Rattle.darts.specs.Pyramid.{Kernel, Pyramid, dart_count, build}
use Rattle.darts.specs.OneByOne.{one_by_one, operation_of, operations_of, NoneEmpty}
use Rattle.darts.specs.Counts.{counts_of}
use Rattle.laws.specs.Standing.{map_of, Standing}
use Rattle.laws.proofs.Lists.{perm_length}
use Rattle.laws.proofs.bridge.Standing.{live}
use Rattle.laws.proofs.bridge.Bases.{base_stands}
use Rattle.laws.proofs.bridge.Counting.{counts_same}
use Rattle.laws.proofs.runs.Operations.{stands_iff, done_told, told_longer, told_history}
use Rattle.laws.proofs.runs.Runs.{ran, legal_accepted}
use Rattle.laws.proofs.runs.Cuts.{kernels_done, kernels_listed, listed_kernels}

pub record Alike (D : ℕ) (t past u new : List ℕ) : Type 0 where
  -- the same darts survive
  pub survivors : (d : ℕ) → d < D → survives new d ≡ survives past d
  -- "every surviving dart ends with the same successor"
  pub successors : (d : ℕ) → d < D → T (survives past d) → successor u d ≡ successor t d
  pub operations : length new ≡ length past
  -- surviving darts, vertices, faces and the Euler number
  pub counts : counts_of D u new ≡ counts_of D t past

pub record ListAgrees (D : ℕ) (t past : List ℕ) (r : Run) : Type 0 where
  -- its own table and past
  pub table : List ℕ
  pub new : List ℕ
  pub accepted : r ≡ stands table new
  pub alike : Alike D t past table new

pub record Agrees (D : ℕ) (t past : List ℕ) (r : Result) : Type 0 where
  -- its own state, table and past
  pub state : State
  pub table : List ℕ
  pub new : List ℕ
  pub accepted : r ≡ gives state table new
  pub alike : Alike D t past table new

-- ---- the map that a table holds tells the survivors and their successors

live_dart : (D : ℕ) (past : List ℕ) (d : ℕ) → d < D → live D past d ≡ survives past d
unfolding live
live_dart D past d h = rw (T→true (ltb d D) (lt→ltb d D h))

same_map : {D : ℕ} {t past u new : List ℕ} → Standing D t past → Standing D u new → length new ≡ length past → map_of D u new ≡ map_of D t past
    → Alike D t past u new
same_map {D} {t} {past} {u} {new} S Z many same = record {
  survivors = λ d dart. sym (live_dart D new d dart) ∙ ap (λ m. m.live d) same ∙ live_dart D past d dart;
  successors = λ d dart h.
      let was : live D past d ≡ true = live_dart D past d dart ∙ T→true (survives past d) h in
      let is : live D new d ≡ true = ap (λ m. m.live d) same ∙ was in
      rw (is, was) at (ap (λ m. m.next d) same);
  operations = many;
  counts = counts_same S Z same;
}

-- b is a base of D darts, and the operations os are accepted on it one by one, kinds mixed as they come

module _ (D : ℕ) (b : List ℕ) (count : T (dart_count D)) (size : length b ≡ D) (permutation : permutation_test D b ≡ permutes)
    (os : List Operation) {t past : List ℕ} (accepted : one_by_one D b [] os ≡ stands t past) where
  -- ANY OTHER ORDER
  pub other_order : (ns : List Operation) → Permᴰ os ns → ListAgrees D t past (one_by_one D b [] ns)
  other_order ns rearranged =
      let S = base_stands D b count size permutation in
      let R = ran S os ((stands_iff D b [] os).0 accepted) in
      let same = any-order-of-maps S.good (Permᴰ.map _ rearranged) R.legal in
      let A = legal_accepted S ns same.legal in
      let Z = ran S ns A.accepted in
      let maps : map_of D A.table A.new ≡ map_of D t past = Z.map_after ∙ sym (R.map_after ∙ same.end) in
      let many = told_longer Z.tells ∙ ap (λ n. 0 + n) (sym (perm_length rearranged)) ∙ sym (told_longer R.tells) in
      record {
        table = A.table;
        new = A.new;
        accepted = (stands_iff D b [] ns).1 A.accepted;
        alike = same_map R.standing Z.standing many maps;
      }

  -- ANY ORDER, ANY CUT INTO LEVELS: the kernels ls hold the same operations in some order; none of them is empty, and they are 64 at most
  pub any_order : (ls : List Kernel) → Permᴰ os (operations_of ls) → NoneEmpty ls → length ls ≤ 64 → Agrees D t past (build (base_state D b) b [] ls)
  any_order ls rearranged some few =
      let L = other_order (operations_of ls) rearranged in
      let C = listed_kernels (base_state D b) b [] ls some (omega arith) L.accepted in
      record { state = C.0; table = L.table; new = L.new; accepted = C.1; alike = L.alike }

-- THE SAME WHERE THE ACCEPTED LIST IS CUT INTO KERNELS ALREADY
pub any_cut : (D : ℕ) (b : List ℕ) → T (dart_count D) → length b ≡ D → permutation_test D b ≡ permutes
    → (ks ls : List Kernel) {s : State} {t past : List ℕ} → build (base_state D b) b [] ks ≡ gives s t past
    → Permᴰ (operations_of ks) (operations_of ls) → NoneEmpty ls → length ls ≤ 64
    → Agrees D t past (build (base_state D b) b [] ls)
any_cut D b count size permutation ks ls e =
    any_order D b count size permutation (operations_of ks) (kernels_listed (base_state D b) b [] ks e) ls

-- ---- the operations that a pyramid's history tells

module _ {s : State} {t past : List ℕ} (P : Pyramid s t past) where
  -- they are accepted on its base, one by one, and end at its own table and past
  pub pyramid_listed : one_by_one s.darts P.base [] (map operation_of (reverse past)) ≡ stands t past
  pyramid_listed =
      let ks = P.kernels in
      let told = told_history (done_told (operations_of ks) (kernels_done (base_state s.darts P.base) P.base [] ks P.built)) in
      rw told (kernels_listed (base_state s.darts P.base) P.base [] ks P.built)

  -- THE SAME FOR EVERY PYRAMID: whichever of kernels and sweeps made its levels, they lead from pyramids to pyramids (reduce_pyramid, sweep_pyramid)
  pub pyramid_order : (ls : List Kernel) → Permᴰ (map operation_of (reverse past)) (operations_of ls) → NoneEmpty ls → length ls ≤ 64
      → Agrees s.darts t past (build (base_state s.darts P.base) P.base [] ls)
  pyramid_order = any_order s.darts P.base P.count P.size P.permutation (map operation_of (reverse past)) pyramid_listed
