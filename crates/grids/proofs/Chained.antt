-- "Demands 2 and 3 read the built base like any other": calls on what the two calls on a plan leave.
--   plan_based      == an accepted base is a base, lent with room
--   table_based     == so is what a start with its table leaves
--   areas_over      == the second call leaves a pyramid over this base
--   plan_any_order  == kernels and sweeps on a plan's base, accepted: kernels that hold the same operations, in any order and cut into levels, are accepted on
--                      whatever leaves the base, and end alike
--   areas_any_order == so it is with the operations of the second call, and of whatever calls come after it
use mathlib.Core.List.{List, Permᴰ}
use mathlib.Core.Path.{◌≡◌, subst}
use Prim.Native.Nat.{ℕ, ◌≤◌}
use lib.ListN.{length, take}
use Rattle.slices.specs.Over.{over}
use Rattle.slices.proofs.Over.{over_front}
use Rattle.darts.specs.Operation.{contraction}
use Rattle.darts.specs.Pyramid.{Kernel}
use Rattle.darts.specs.Calls.{After, start}
use Rattle.darts.specs.OneByOne.{operations_of, NoneEmpty}
use Rattle.darts.proofs.Fitting.{Lengths}
use Rattle.laws.proofs.Lists.{Each}
use Rattle.laws.proofs.chained.OnLent.{Call, by_kernel}
use Rattle.laws.proofs.chained.Begins.{start_accepts}
use Rattle.laws.proofs.chained.Based.{Based, Over, start_based, based_over, over_call}
use Rattle.laws.proofs.chained.Chains.{calls, AllDone, first_done, over_calls}
use Rattle.laws.proofs.chained.AnyOrder.{kernels, Rises, operations_by, operations_in, EndsAlike, over_by_calls, any_order_of_calls}
use Rattle.grids.specs.Grid.{Grid, darts_of}
use Rattle.grids.specs.Base.{base_table}
use Rattle.grids.specs.Plans.{plan_base, plan_areas}
use Rattle.grids.proofs.Limits.{Limits, sized_limits}
use Rattle.grids.proofs.PlanBase.{plan_base_lem, base_stands}
use Rattle.grids.proofs.Begun.{first_edges, base_leaves, areas_built, plan_left, areas_reduces}
use Rattle.grids.proofs.Sentences.{plan_gives}

module _ (g : Grid) where
  abbrev D : ℕ
  D = darts_of g

  laid_front : (t : List ℕ) → take D (over (base_table g) t) ≡ base_table g
  laid_front t = subst (λ n. take n (over (base_table g) t) ≡ base_table g) (base_stands g).size (over_front (base_table g) t)

  -- ---- what leaves the base of a plan

  pub plan_based : (plan t h w : List ℕ) → (plan_base g plan t h w).answer.number ≡ 0 → Based D (base_table g) (plan_base g plan t h w)
  plan_based plan t h w z =
      let e = plan_gives g plan t h w z in
      record { answer = z; state = rw e; table = rw e (laid_front t); lent = (plan_left g plan t h w z).lent }

  pub table_based : Limits g → (t h w : List ℕ) → take D t ≡ base_table g → Lengths D (length t) (length h) (length w) → Based D (base_table g) (start D t h w)
  table_based l t h w e room =
      let B = plan_base_lem g ((sized_limits g).1 l) in
      subst (λ b. Based D b (start D t h w)) e (start_based D t h w (start_accepts D t h w B.count room (rw e B.permutation)))

  pub areas_over : (plan t h w : List ℕ) → (plan_areas g plan t h w).answer.number ≡ 0 → Over D (base_table g) (plan_areas g plan t h w)
  areas_over plan t h w z =
      let b = areas_built g plan t h w z in
      let same = areas_reduces g plan t h w z in
      let first = plan_based plan t h w (rw (base_leaves g plan t h w b.within b.enough)) in
      rw same (over_call (based_over first) (by_kernel (record { kind = contraction; edges = first_edges g plan })) (rw same at z))

  -- ---- demand 3

  -- y leaves the base, in whatever slices, and of the kernels ls none is empty, and they are 64 at most
  module _ {y : After} (B : Based D (base_table g) y) (ls : List Kernel) (some : NoneEmpty ls) (few : length ls ≤ 64) (plan t h w : List ℕ) (cs : List Call) where
    -- ANY ORDER, ANY CUT INTO LEVELS, FROM A PLAN'S BASE
    pub plan_any_order : AllDone cs (plan_base g plan t h w) → Each Rises cs → Permᴰ (operations_by cs (plan_base g plan t h w)) (operations_of ls)
        → EndsAlike D (calls cs (plan_base g plan t h w)) (kernels ls) y
    plan_any_order all = any_order_of_calls B ls some few (plan_based plan t h w (first_done cs _ all)) cs all

    -- AND FROM A PLAN WITH ITS FIRST KERNEL
    pub areas_any_order : AllDone cs (plan_areas g plan t h w) → Permᴰ (operations_in (calls cs (plan_areas g plan t h w))) (operations_of ls)
        → EndsAlike D (calls cs (plan_areas g plan t h w)) (kernels ls) y
    areas_any_order all = over_by_calls B ls some few (over_calls (areas_over plan t h w (first_done cs _ all)) cs all)
