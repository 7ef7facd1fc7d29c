-- Plan sizes by their numbers.
--   product_few       == a number below 128 times one up to 128
--   sized_facts       == a grid that passes the test is inside the limits
--   size_no, size_yes == which way the test goes
--   along_few, upright_few, cells_few == how many edges along the courses, upright ones, and cells there can be
--   all_edges         == they are the edges
use mathlib.Core.Bool.{false, not}
use mathlib.Core.Path.{◌≡◌, refl}
use Prim.Native.Nat.{ℕ, ◌+◌, ◌-◌, ◌*◌, ◌≤◌, ◌<◌}
use native.Mathlib.Nat.{mul-le-mul}
use native.Mathlib.Omega.{arith}
use lib.Dec.{T, eqb}
use borrow.Author.Tests.{le-leb}
use Rattle.permutations.specs.Choice.{not_T→false}
use Rattle.grids.specs.Grid.{flat, sized, cells, along, edges}
use Rattle.grids.proofs.Limits.{limits}
use Rattle.plans.specs.Limits.{Sized}

pub product_few : (a b : ℕ) → a < 128 → b ≤ 128 → a * b ≤ 16256
product_few a b h k = let l : a ≤ 127 = omega arith in mul-le-mul l k

module _ (W C : ℕ) where
  pub sized_facts : T (sized (flat W C)) → Sized W C
  sized_facts t =
      let l = limits (flat W C) t in
      record { wales = l.some_wale; narrow = l.most_wales; courses = l.some_course; low = l.most_courses }

  pub size_no : ¬ (Sized W C) → false ≡ sized (flat W C)
  size_no n = rw (not_T→false (sized (flat W C)) (λ t. n (sized_facts t)))

  pub size_yes : 1 ≤ W → W ≤ 128 → 1 ≤ C → C ≤ 128 → not (eqb (W * C) 1) ≡ sized (flat W C)
  unfolding sized
  size_yes a b c d = rw (le-leb 1 W a, le-leb W 128 b, le-leb 1 C c, le-leb C 128 d)

  pub all_edges : edges (flat W C) ≡ (W - 1) * C + W * (C - 1)
  unfolding edges along
  all_edges = refl

module _ {W C : ℕ} (s : Sized W C) where
  pub along_few : (W - 1) * C ≤ 16256
  along_few = product_few (W - 1) C (omega (arith, s.wales, s.narrow)) s.low

  pub upright_few : W * (C - 1) ≤ 16256
  upright_few = let l : C - 1 ≤ 127 = omega (arith, s.low) in mul-le-mul s.narrow l

  pub cells_few : cells (flat W C) ≤ 16384
  unfolding cells
  cells_few = mul-le-mul s.narrow s.low
