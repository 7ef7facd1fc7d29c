-- The same code, said of the plan's bytes: "a grid of stitch codes, one byte a cell, lowest course first and each from the left" (document 02,
-- request One).
--   byte_at W plan x y == the byte of the cell in wale x of course y of a plan W cells wide
--   code_byte         == that is the code, whole
--   same_code         == an edge from cell a to cell b has one code exactly where the two bytes are the same
--   right_same, round_same, above_same == so it is of the three edges, by wale and course
--   area_same         == cells of one area have the same byte
--   right_area, round_area, above_area == neighbours that have the same byte are in one area
--   area_smallest     == and an area is the smallest in which they are
use mathlib.Core.Bool.{true}
use mathlib.Core.List.{List}
use mathlib.Core.Logic.{◌↔◌}
use mathlib.Core.Path.{◌≡◌, refl, sym, ◌∙◌}
use Prim.Native.Nat.{ℕ, ◌+◌, ◌-◌, ◌*◌, ◌<◌}
use lib.Dec.{T, eqb→eq}
use lib.ListN.{get_or}
use Rattle.permutations.specs.Choice.{eqb_same, true→T}
use Rattle.laws.proofs.merging.Joined.{Equivalence}
use Rattle.grids.specs.Grid.{Grid, cell, along, Beside, right, round, above}
use Rattle.grids.specs.Plans.{code_at, one_code, OneArea, itself, onward as onwards, back}
use Rattle.grids.proofs.Edges.{Joins, onward, closing, upward}
use Rattle.grids.proofs.Cells.{even, odd, cell_of_lem}

abbrev pub byte_at : ℕ → List ℕ → ℕ → ℕ → ℕ
byte_at W plan x y = get_or plan (y * W + x) 0

pub code_byte : (plan : List ℕ) (c : ℕ) → code_at plan c ≡ get_or plan c 0
unfolding code_at
code_byte plan c = refl

module _ (g : Grid) (plan : List ℕ) where
  abbrev W : ℕ
  W = g.wales

  -- ---- the code of an edge

  -- "both ends have the same code"
  pub same_code : {e a b : ℕ} → Joins g e a b → (one_code g plan e ≡ true) ↔ (get_or plan a 0 ≡ get_or plan b 0)
  unfolding one_code code_at
  same_code j = rw (cell_of_lem g (even j), cell_of_lem g (odd j)) (λ k. eqb→eq _ _ (true→T k), λ k. eqb_same k)

  pub right_same : (x y : ℕ) → x + 1 < W → y < g.courses → (one_code g plan (y * along g + x) ≡ true) ↔ (byte_at W plan x y ≡ byte_at W plan (x + 1) y)
  unfolding cell
  right_same x y h k = same_code (onward x y h k)

  pub round_same : (y : ℕ) → T g.closes → 0 < W → y < g.courses
      → (one_code g plan (y * along g + (W - 1)) ≡ true) ↔ (byte_at W plan (W - 1) y ≡ byte_at W plan 0 y)
  unfolding cell
  round_same y c h k = same_code (closing y c h k)

  pub above_same : (x y : ℕ) → x < W → y + 1 < g.courses
      → (one_code g plan (along g * g.courses + (y * W + x)) ≡ true) ↔ (byte_at W plan x y ≡ byte_at W plan x (y + 1))
  unfolding cell
  above_same x y h k = same_code (upward x y h k)

  -- ---- the areas

  pub area_same : {a b : ℕ} → OneArea g plan a b → get_or plan a 0 ≡ get_or plan b 0
  unfolding code_at
  area_same (itself a) = refl
  area_same (onwards a b c n e r) = e ∙ area_same r
  area_same (back a b c n e r) = e ∙ area_same r

  beside_area : {a b : ℕ} → Beside g a b → get_or plan a 0 ≡ get_or plan b 0 → OneArea g plan a b
  unfolding code_at
  beside_area {a} {b} n e = onwards a b b n e (itself b)

  pub right_area : (x y : ℕ) → x + 1 < W → y < g.courses → byte_at W plan x y ≡ byte_at W plan (x + 1) y → OneArea g plan (y * W + x) (y * W + (x + 1))
  unfolding cell
  right_area x y h k = beside_area (right x y h k)

  pub round_area : (y : ℕ) → T g.closes → y < g.courses → byte_at W plan (W - 1) y ≡ byte_at W plan 0 y → OneArea g plan (y * W + (W - 1)) (y * W + 0)
  unfolding cell
  round_area y c k = beside_area (round y c k)

  pub above_area : (x y : ℕ) → x < W → y + 1 < g.courses → byte_at W plan x y ≡ byte_at W plan x (y + 1) → OneArea g plan (y * W + x) ((y + 1) * W + x)
  unfolding cell
  above_area x y h k = beside_area (above x y h k)

  -- AN AREA IS THE SMALLEST IN WHICH NEIGHBOURS WITH THE SAME BYTE ARE
  pub area_smallest : (R : ℕ → ℕ → Type 0) → Equivalence R → ((a b : ℕ) → Beside g a b → get_or plan a 0 ≡ get_or plan b 0 → R a b)
      → {a b : ℕ} → OneArea g plan a b → R a b
  unfolding code_at
  area_smallest R Q step (itself a) = Q.self a
  area_smallest R Q step (onwards a b c n e r) = Q.chain a b c (step a b n e) (area_smallest R Q step r)
  area_smallest R Q step (back a b c n e r) = Q.chain a b c (Q.flip b a (step b a n (sym e))) (area_smallest R Q step r)
