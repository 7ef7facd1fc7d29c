-- The cells of a grid and its edges, by arithmetic.
--   cell_below, cell_wale, cell_course, cell_above == the number of the cell in wale x of course y
--   IsCell g c, is_cell    == every number below them all is a cell's
--   Joins g e a b          == edge e goes from cell a to b, its right or upper neighbour
--   even_end, odd_end        == the cell of the even dart of edge e, and of the odd one
--   joins_even, joins_odd  == an edge joins these two
--   joined                 == and every edge does
use mathlib.Core.Bool.{true, false}
use mathlib.Core.Logic.{◌≢◌, inr, ⊎_elim}
use mathlib.Core.Path.{◌≡◌, sym, ap, ◌∙◌, subst}
use Prim.Native.Nat.{ℕ, ◌+◌, ◌-◌, ◌*◌, ◌/◌, ◌%◌, ◌<◌}
use native.Mathlib.Decide.{dec_lt}
use native.Mathlib.Omega.{arith}
use lib.Dec.{T, eqb, ltb, ltb→lt, lt→ltb}
use Rattle.permutations.specs.Choice.{T→true, not_T→false, eqb_same, eqb_other}
use Rattle.std.proofs.Common.{if◌then◌else◌}
use Rattle.grids.specs.Grid.{Grid, cells, cell, along, edges}
use Rattle.grids.proofs.Rows.{row_below, row_number, row_place, in_row}
use Rattle.grids.proofs.Sides.{along_closed, right_along, along_right, goes_right_lem}

-- "an edge joins each cell to its neighbour in wale and in course"
pub data Joins (g : Grid) : ℕ → ℕ → ℕ → Type 0 where
  onward : (x y : ℕ) → x + 1 < g.wales → y < g.courses → Joins g (y * along g + x) (cell g x y) (cell g (x + 1) y)
  closing : (y : ℕ) → T g.closes → 0 < g.wales → y < g.courses
      → Joins g (y * along g + (g.wales - 1)) (cell g (g.wales - 1) y) (cell g 0 y)
  upward : (x y : ℕ) → x < g.wales → y + 1 < g.courses → Joins g (along g * g.courses + cell g x y) (cell g x y) (cell g x (y + 1))

-- "edges along the courses first, course by course, then the upright ones by their lower cells in the plan's order"
unfoldable pub even_end : Grid → ℕ → ℕ
even_end g e =
    if ltb e (along g * g.courses) then cell g (e % along g) (e / along g)
    else e - along g * g.courses

-- the right neighbour, which is the first wale's of the last, or the upper one
unfoldable pub odd_end : Grid → ℕ → ℕ
odd_end g e =
    if ltb e (along g * g.courses) then cell g (if eqb (e % along g + 1) g.wales then 0 else e % along g + 1) (e / along g)
    else e - along g * g.courses + g.wales

module _ (g : Grid) where
  -- ---- cells and their numbers

  pub cell_below : (x y : ℕ) → x < g.wales → y < g.courses → cell g x y < cells g
  unfolding cell cells
  cell_below x y = row_below g.wales g.courses x y

  pub cell_wale : (x y : ℕ) → x < g.wales → cell g x y % g.wales ≡ x
  unfolding cell
  cell_wale x y = row_place g.wales x y

  pub cell_course : (x y : ℕ) → x < g.wales → cell g x y / g.wales ≡ y
  unfolding cell
  cell_course x y = row_number g.wales x y

  pub cell_above : (x y : ℕ) → cell g x (y + 1) ≡ cell g x y + g.wales
  unfolding cell
  cell_above x y = omega arith

  -- every number below them all is a cell's
  pub record IsCell (c : ℕ) : Type 0 where
    pub wale : c % g.wales < g.wales
    pub course : c / g.wales < g.courses
    pub number : cell g (c % g.wales) (c / g.wales) ≡ c

  pub is_cell : (c : ℕ) → c < cells g → IsCell c
  unfolding cell cells
  is_cell c h = let r = in_row g.wales g.courses c h in record { wale = r.place; course = r.row; number = r.laid }

  -- ---- an edge's two ends

  module _ (x y : ℕ) (h : x < along g) (k : y < g.courses) where
    along_first : ltb (y * along g + x) (along g * g.courses) ≡ true
    along_first = T→true _ (lt→ltb (y * along g + x) (along g * g.courses) (row_below (along g) g.courses x y h k))

    even_along : even_end g (y * along g + x) ≡ cell g x y
    unfolding even_end
    even_along = rw (along_first, row_place (along g) x y h, row_number (along g) x y h)

    odd_along : odd_end g (y * along g + x) ≡ cell g (if eqb (x + 1) g.wales then 0 else x + 1) y
    unfolding odd_end
    odd_along = rw (along_first, row_place (along g) x y h, row_number (along g) x y h)

  module _ (c : ℕ) where
    upright_later : ltb (along g * g.courses + c) (along g * g.courses) ≡ false
    upright_later = not_T→false _ (λ t. let l = ltb→lt (along g * g.courses + c) (along g * g.courses) t in omega arith)

    even_upright : even_end g (along g * g.courses + c) ≡ c
    unfolding even_end
    even_upright = rw upright_later (omega arith)

    odd_upright : odd_end g (along g * g.courses + c) ≡ c + g.wales
    unfolding odd_end
    odd_upright = rw upright_later (omega arith)

  inside_along : (x : ℕ) → x + 1 < g.wales → x < along g
  inside_along x h = right_along g x (omega arith) (goes_right_lem g x (inr h))

  last_along : T g.closes → 0 < g.wales → g.wales - 1 < along g
  last_along c h = let e = along_closed g c in omega arith

  pub joins_even : {e a b : ℕ} → Joins g e a b → even_end g e ≡ a
  joins_even (onward x y h k) = even_along x y (inside_along x h) k
  joins_even (closing y c h k) = even_along (g.wales - 1) y (last_along c h) k
  joins_even (upward x y h k) = even_upright (cell g x y)

  pub joins_odd : {e a b : ℕ} → Joins g e a b → odd_end g e ≡ b
  joins_odd (onward x y h k) = odd_along x y (inside_along x h) k ∙ (let n : x + 1 ≢ g.wales = omega arith in rw (eqb_other n))
  joins_odd (closing y c h k) =
      let e : g.wales - 1 + 1 ≡ g.wales = omega arith in
      odd_along (g.wales - 1) y (last_along c h) k ∙ rw (eqb_same e)
  joins_odd (upward x y h k) = odd_upright (cell g x y) ∙ sym (cell_above x y)

  upright_below : (x y : ℕ) → x < g.wales → y + 1 < g.courses → cell g x y < g.wales * (g.courses - 1)
  unfolding cell
  upright_below x y h k = row_below g.wales (g.courses - 1) x y h (omega arith)

  pub joins_below : {e a b : ℕ} → Joins g e a b → (e < edges g) × (a < cells g) × (b < cells g)
  unfolding edges
  joins_below (onward x y h k) = (
    let l = row_below (along g) g.courses x y (inside_along x h) k in omega arith,
    cell_below x y (omega arith) k,
    cell_below (x + 1) y h k,
  )
  joins_below (closing y c h k) = (
    let l = row_below (along g) g.courses (g.wales - 1) y (last_along c h) k in omega arith,
    cell_below (g.wales - 1) y (omega arith) k,
    cell_below 0 y h k,
  )
  joins_below (upward x y h k) = (
    let l = upright_below x y h k in omega arith,
    cell_below x y h (omega arith),
    cell_below x (y + 1) h k,
  )

  -- every edge joins two cells
  some_joined : (e : ℕ) → e < edges g → (a b : ℕ) × Joins g e a b
  unfolding edges cell
  some_joined e h = go (dec_lt e (along g * g.courses))
    where
      course : (x y : ℕ) → x < along g → y < g.courses → y * along g + x ≡ e → (a b : ℕ) × Joins g e a b
      course x y l k i = ⊎_elim
          (λ m. (cell g x y, cell g (x + 1) y, subst (λ n. Joins g n (cell g x y) (cell g (x + 1) y)) i (onward x y m k)))
          (λ m. (
            cell g (g.wales - 1) y,
            cell g 0 y,
            subst (λ n. Joins g n (cell g (g.wales - 1) y) (cell g 0 y))
                (ap (λ z. y * along g + z) (sym m.1) ∙ i) (closing y m.0 (let z = along_closed g m.0 in omega arith) k),
          ))
          (along_right g x l)

      go : Dec (e < along g * g.courses) → (a b : ℕ) × Joins g e a b
      go (yes l) = let r = in_row (along g) g.courses e l in course (e % along g) (e / along g) r.place r.row r.laid
      go (no n) =
          let c = e - along g * g.courses in
          let r = in_row g.wales (g.courses - 1) c (omega arith) in
          let x = c % g.wales in
          let y = c / g.wales in
          let i : along g * g.courses + cell g x y ≡ e = omega (arith, r.laid) in
          (cell g x y, cell g x (y + 1), subst (λ n. Joins g n (cell g x y) (cell g x (y + 1))) i (upward x y r.place (omega (arith, r.row))))

  pub joined : (e : ℕ) → e < edges g → Joins g e (even_end g e) (odd_end g e)
  joined e h = let (a, b, j) = some_joined e h in rw (joins_even j, joins_odd j) j
