-- The cells at the two ends of an edge, in a grid that does not close.
--   Ends W C e a b      == edge e goes from cell a to cell b
--   along_some          == a course has an edge where any edge is along one
--   along_ends          == an edge along a course: the cell is the edge's number and its course's
--   upright_ends        == an upright edge: its lower cell, and the one a course higher
--   same_codes          == whether both have the same code
use mathlib.Core.List.{List}
use mathlib.Core.Path.{◌≡◌, ap, ◌∙◌}
use Prim.Native.Nat.{ℕ, suc, ◌+◌, ◌-◌, ◌*◌, ◌/◌, ◌%◌, ◌≤◌, ◌<◌}
use native.Mathlib.Nat.{mul-suc, suc-mul}
use native.Mathlib.Numerals.{add-one}
use native.Mathlib.Omega.{arith}
use lib.Dec.{eqb, lt→ltb}
use lib.ListN.{get_or}
use Rattle.grids.specs.Grid.{flat, along, cell, cells, edges}
use Rattle.grids.specs.Base.{cell_of}
use Rattle.grids.specs.Plans.{code_at, one_code}
use Rattle.grids.proofs.Rows.{in_row}
use Rattle.grids.proofs.Cells.{left_cell, right_cell, up_cell, down_cell, cell_of_below}
use Rattle.plans.specs.Limits.{Sized}
use Rattle.plans.proofs.Limits.{all_edges, cells_few}

pub record Ends (W C e a b : ℕ) : Type 0 where
  pub even : cell_of (flat W C) (2 * e) ≡ a
  pub odd : cell_of (flat W C) (2 * e + 1) ≡ b
  pub below_even : a < cells (flat W C)
  pub below_odd : b < cells (flat W C)
  pub few : cells (flat W C) ≤ 16384

module _ {W C e : ℕ} (s : Sized W C) (h : e < edges (flat W C)) where
  -- an edge's two cells are cells of the grid
  ends : {a b : ℕ} → cell_of (flat W C) (2 * e) ≡ a → cell_of (flat W C) (2 * e + 1) ≡ b → Ends W C e a b
  ends i j = record {
    even = i;
    odd = j;
    below_even = rw i at (cell_of_below (flat W C) (2 * e) (omega arith));
    below_odd = rw j at (cell_of_below (flat W C) (2 * e + 1) (omega arith));
    few = cells_few s;
  }

  wider : (y : ℕ) → y * W ≡ y * (W - 1) + y
  wider y = let i : W ≡ suc (W - 1) = omega (arith, s.wales) in ap (λ n. y * n) i ∙ mul-suc y (W - 1)

  pub along_some : e < (W - 1) * C → 0 < W - 1
  along_some l = let r = in_row (W - 1) C e l in omega (arith, r.place)

  pub along_ends : e < (W - 1) * C → Ends W C e (e + e / (W - 1)) (e + e / (W - 1) + 1)
  unfolding along cell
  along_ends l =
      let r = in_row (W - 1) C e l in
      let x : ℕ = e % (W - 1) in
      let y : ℕ = e / (W - 1) in
      let w : x + 1 < W = omega (arith, r.place) in
      let k : y * W + x ≡ e + y = omega (arith, wider y, r.laid) in
      ends
      (rw (r.laid, k) at (right_cell (flat W C) x y (omega arith) r.row (lt→ltb (x + 1) W w)))
      (rw r.laid at (left_cell (flat W C) x y (omega arith) r.row w) ∙ omega arith)

  pub upright_ends : (W - 1) * C ≤ e → Ends W C e (e - (W - 1) * C) (e - (W - 1) * C + W)
  unfolding along cell
  upright_ends l =
      let k : ℕ = e - (W - 1) * C in
      let r = in_row W (C - 1) k (omega (arith, all_edges W C)) in
      let x : ℕ = k % W in
      let y : ℕ = k / W in
      let c : y + 1 < C = omega (arith, r.row) in
      let i : (W - 1) * C + k ≡ e = omega arith in
      let j : (y + 1) * W + x ≡ k + W = rw (add-one y) (omega (arith, suc-mul y W, r.laid)) in
      ends
      (rw (r.laid, i) at (up_cell (flat W C) x y r.place (omega arith) c))
      (rw (j, r.laid, i) at (down_cell (flat W C) x y r.place (omega arith) c))

pub same_codes : {W C e a b : ℕ} (plan : List ℕ) → Ends W C e a b → eqb (get_or plan a 0) (get_or plan b 0) ≡ one_code (flat W C) plan e
unfolding one_code code_at
same_codes plan E = rw (E.even, E.odd)
