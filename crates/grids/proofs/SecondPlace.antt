-- "3 carries a second place, D where the value was out of range; every other answer has 0 there" (document 02, request Three): the two calls on a plan,
-- which never answer 3.
--   on_second    == a call on a plan has 0 there where it is so with a refusal of its step
--   first_second == so it is with the first kernel
--   plan_second, areas_second == the two calls
use mathlib.Core.List.{List, []}
use mathlib.Core.Path.{◌≡◌, refl}
use Prim.Native.Nat.{ℕ}
use Rattle.darts.specs.Operation.{contraction}
use Rattle.darts.specs.Kernel.{each, rising}
use Rattle.darts.specs.State.{base_state, Result, gives, refuses, levelled}
use Rattle.laws.proofs.runs.Stops.{pass_stops}
use Rattle.laws.proofs.runs.Earnest.{Refusing, refusing_levelled}
use Rattle.laws.proofs.sentences.SecondPlace.{NoSecond}
use Rattle.grids.specs.Grid.{Grid, edges, darts_of}
use Rattle.grids.specs.Base.{base_table}
use Rattle.grids.specs.Plans.{takes_first, first_kernel, begun, on_plan, plan_base, plan_areas}
use Rattle.grids.proofs.Planning.{Planning, outside, cramped, begins, planning}

module _ (g : Grid) (plan t h w : List ℕ) where
  begun_second : (r : Result) → Refusing NoSecond r → (begun (darts_of g) t h w r).answer.second ≡ 0
  unfolding begun
  begun_second (gives s u past) k = refl
  begun_second (refuses a) k = k

  on_second : (r : Result) → Refusing NoSecond r → (on_plan g r plan t h w).answer.second ≡ 0
  on_second r k = go (planning g r plan t h w)
    where
      go : Planning g r plan t h w → (on_plan g r plan t h w).answer.second ≡ 0
      go (outside n e) = rw e
      go (cramped s n e) = rw e
      go (begins s l e) = rw e (begun_second r k)

  first_second : Refusing NoSecond (levelled (base_state (darts_of g) (base_table g)) [] (first_kernel g plan))
  unfolding first_kernel
  first_second =
      refusing_levelled NoSecond (λ n p h. refl) (base_state (darts_of g) (base_table g)) [] _
      (pass_stops NoSecond (λ m i l h. refl) (takes_first g plan) (darts_of g) (base_table g) [] (each contraction (rising 0 (edges g))))

  pub plan_second : (plan_base g plan t h w).answer.second ≡ 0
  unfolding plan_base
  plan_second = on_second (gives (base_state (darts_of g) (base_table g)) (base_table g) []) tt

  pub areas_second : (plan_areas g plan t h w).answer.second ≡ 0
  unfolding plan_areas
  areas_second = on_second (levelled (base_state (darts_of g) (base_table g)) [] (first_kernel g plan)) first_second
