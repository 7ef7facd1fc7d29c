-- Kernels are their operations one by one, cut into levels.
--   kernels_listed == kernels that are accepted one after another are an accepted list, with the same table and past at its end
--   listed_kernels == an accepted list is accepted in any cut into kernels: none empty, and no more levels than 64
use mathlib.Core.List.{List, [], ◌∷◌}
use mathlib.Core.Logic.{◌≢◌}
use mathlib.Core.Path.{◌≡◌, refl, subst}
use Prim.Native.Nat.{ℕ, ◌+◌, ◌≤◌}
use native.Mathlib.Omega.{arith}
use lib.ListN.{length, length-map}
use Rattle.darts.specs.Kernel.{each, stands}
use Rattle.darts.specs.State.{State, gives, raised, reduce}
use Rattle.darts.specs.Pyramid.{Kernel, build}
use Rattle.darts.specs.OneByOne.{one_by_one, operations_of, NoneEmpty}
use Rattle.laws.proofs.runs.Operations.{AllDone, none, stands_iff, run_iff, done_join, done_parts, done_told, told_longer}
use Rattle.laws.proofs.runs.Results.{then, same_result}
use Rattle.laws.proofs.runs.Reduces.{reduce_raises, raises_reduce}

-- ---- from kernels to a list

pub kernels_done : {z : State} {u new : List ℕ} (s : State) (t past : List ℕ) (ks : List Kernel)
    → build s t past ks ≡ gives z u new → AllDone s.darts t past (operations_of ks) u new
unfolding build raised
kernels_done s t past [] e = same_result (λ z u new. AllDone s.darts t past [] u new) e none
kernels_done {z} {u} {new} s t past (k ∷ ks) e =
    let one = then (reduce k.kind k.edges s t past) (λ s t past. build s t past ks) e in
    let R = reduce_raises s t past k.kind k.edges one.first in
    let rest = kernels_done one.state one.table one.past ks one.next in
    done_join ((run_iff k.kind s.darts t past k.edges).0 R.stood)
    (subst (λ s₁. AllDone s₁.darts one.table one.past (operations_of ks) u new) R.state rest)

-- ACCEPTED KERNELS ARE AN ACCEPTED LIST
pub kernels_listed : {z : State} {u new : List ℕ} (s : State) (t past : List ℕ) (ks : List Kernel)
    → build s t past ks ≡ gives z u new → one_by_one s.darts t past (operations_of ks) ≡ stands u new
kernels_listed s t past ks e = (stands_iff s.darts t past (operations_of ks)).1 (kernels_done s t past ks e)

-- ---- from a list to kernels

done_kernels : {u new : List ℕ} (s : State) (t past : List ℕ) (ks : List Kernel) → NoneEmpty ks → s.levels + length ks ≤ 64
    → AllDone s.darts t past (operations_of ks) u new → (z : State) × (build s t past ks ≡ gives z u new)
unfolding build raised
done_kernels s t past [] some room none = (s, refl)
done_kernels s t past (k ∷ ks) some room h =
    let os = each k.kind k.edges in
    let P = done_parts os (operations_of ks) h in
    let longer = told_longer (done_told os P.before) in
    let count : length os ≡ length k.edges = length-map k.edges _ in
    let more : length P.new ≢ length past = omega (arith, some.0) in
    let one : reduce k.kind k.edges s t past ≡ gives (raised s P.table P.new) P.table P.new =
    raises_reduce s t past k.kind k.edges (record {
      room = omega arith;
      stood = (run_iff k.kind s.darts t past k.edges).1 P.before;
      more = more;
      state = refl;
    }) in
    rw one (done_kernels (raised s P.table P.new) P.table P.new ks some.1 (omega arith) P.beyond)

-- AN ACCEPTED LIST IS ACCEPTED IN ANY CUT INTO LEVELS
pub listed_kernels : {u new : List ℕ} (s : State) (t past : List ℕ) (ks : List Kernel) → NoneEmpty ks → s.levels + length ks ≤ 64
    → one_by_one s.darts t past (operations_of ks) ≡ stands u new → (z : State) × (build s t past ks ≡ gives z u new)
listed_kernels s t past ks some room e = done_kernels s t past ks some room ((stands_iff s.darts t past (operations_of ks)).0 e)
