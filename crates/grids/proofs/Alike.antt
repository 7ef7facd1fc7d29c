-- A plan's codes past its cells are not looked at.
--   pass_alike  == passes whose tests agree on the edges that they go over are the same
--   Agree g p q == the plans p and q have the same code at each cell
--   first_alike == such plans have the same first kernel
--   areas_alike == and are built alike, where both are long enough
use mathlib.Core.List.{List, [], ◌∷◌}
use mathlib.Core.Path.{◌≡◌, refl, ap₂}
use Prim.Native.Nat.{ℕ, zero, suc, ◌+◌, ◌*◌, ◌≤◌, ◌<◌}
use native.Mathlib.Omega.{arith}
use lib.Dec.{eqb, leb, le→leb}
use lib.ListN.{length}
use Rattle.permutations.specs.Choice.{T→true}
use Rattle.darts.specs.Operation.{Kind, contraction, lead, operate, number}
use Rattle.darts.specs.Kernel.{each, rising, Test, pass_from, pass}
use Rattle.grids.specs.Grid.{Grid, cells, edges, darts_of}
use Rattle.grids.specs.Base.{cell_of, base_table}
use Rattle.grids.specs.Plans.{code_at, one_code, takes_first, first_kernel, fitting_plan, on_plan, plan_areas}
use Rattle.grids.proofs.Cells.{cell_of_below}

pass_alike : (f g : Test) (k : Kind) (D : ℕ) (t past : List ℕ) (i e n : ℕ)
    → ((u new : List ℕ) (x : ℕ) → e ≤ x → x < e + n → f u new x ≡ g u new x) → pass_from f D t past i (each k (rising e n)) ≡ pass_from g D t past i (each k (rising e n))
unfolding pass_from rising
pass_alike f g k D t past i e zero same = refl
pass_alike f g k D t past i e (suc n) same =
    rw (
      same t past e (omega arith) (omega arith),
      pass_alike f g k D t past i (suc e) n (λ u new x h m. same u new x (omega arith) (omega arith)),
      pass_alike f g k D (operate k D t past e) (number k (lead k t e) ∷ past) (suc i) (suc e) n (λ u new x h m. same u new x (omega arith) (omega arith)),
    ) refl

pub record Agree (g : Grid) (plan other : List ℕ) : Type 0 where
  pub codes : (c : ℕ) → c < cells g → code_at plan c ≡ code_at other c

module _ (g : Grid) (plan other : List ℕ) (same : Agree g plan other) where
  code_alike : (e : ℕ) → e < edges g → one_code g plan e ≡ one_code g other e
  unfolding one_code
  code_alike e h =
      ap₂ eqb (same.codes (cell_of g (2 * e)) (cell_of_below g (2 * e) (omega arith))) (same.codes (cell_of g (2 * e + 1)) (cell_of_below g (2 * e + 1) (omega arith)))

  pub first_alike : first_kernel g plan ≡ first_kernel g other
  unfolding first_kernel pass takes_first
  first_alike =
      pass_alike (takes_first g plan) (takes_first g other) contraction (darts_of g) (base_table g) [] 0 0 (edges g)
      (λ u new x h m. rw (code_alike x (omega arith)) refl)

  -- CODES PAST THE CELLS ARE NOT LOOKED AT
  pub areas_alike : (t h w : List ℕ) → cells g ≤ length plan → cells g ≤ length other → plan_areas g plan t h w ≡ plan_areas g other t h w
  unfolding plan_areas on_plan fitting_plan
  areas_alike t h w long enough =
      rw (first_alike, T→true (leb (cells g) (length plan)) (le→leb (cells g) (length plan) long), T→true (leb (cells g) (length other)) (le→leb (cells g) (length other) enough))
      refl
