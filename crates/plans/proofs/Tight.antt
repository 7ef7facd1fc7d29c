-- No two outcomes satisfy the statement of a call on a plan.
--   plan_one  == of the base
--   areas_one == of the base with its first kernel
use mathlib.Core.List.{List}
use mathlib.Core.Path.{◌≡◌}
use Prim.Native.Nat.{ℕ}
use Rattle.grids.specs.Grid.{Grid}
use Rattle.grids.specs.Plans.{plan_base, plan_areas}
use Rattle.pyramid.specs.Values.{left}
use Rattle.pyramid.specs.declared.Outcome.{Outcome}
use Rattle.pyramid.proofs.Tight.{Same, left_one}

module _ (g : Grid) (plan t₀ h₀ w₀ : List ℕ) (o p : Outcome) (t u h k w v : List ℕ) where
  pub plan_one : left o t h w ≡ plan_base g plan t₀ h₀ w₀ → left p u k v ≡ plan_base g plan t₀ h₀ w₀ → Same o p t u h k w v
  plan_one = left_one o p t u h k w v (plan_base g plan t₀ h₀ w₀)

  pub areas_one : left o t h w ≡ plan_areas g plan t₀ h₀ w₀ → left p u k v ≡ plan_areas g plan t₀ h₀ w₀ → Same o p t u h k w v
  areas_one = left_one o p t u h k w v (plan_areas g plan t₀ h₀ w₀)
