-- The faces of a grid that does not close: its squares, and the outer one round them all.
--   rows g           == how many courses of squares there are; along g is how many each has
--   square g x y     == the number of the square whose lower left cell is in wale x of course y; squares g is how many there are, and the outer face's number
--   face_of g d       == the number of the face of dart d, by arithmetic
--   Flat g           == g does not close, and has an edge
--   InSquare g x y d == dart d goes round that square, inside
--   Border g k d     == dart d goes round the grid, outside, and the k-th dart after it is the last
--   Lies g d n       == dart d lies on face n
--   lies_face        == that is the number by arithmetic
--   lies_below       == d is a dart, and n one of the numbers
--   dart_lies        == every dart lies on a face
use mathlib.Core.Logic.{◌≢◌}
use mathlib.Core.Path.{◌≡◌, refl, ap₂, ◌∙◌, subst}
use Prim.Native.Nat.{ℕ, ◌+◌, ◌-◌, ◌*◌, ◌/◌, ◌%◌, ◌<◌}
use native.Mathlib.Decide.{dec_lt}
use native.Mathlib.Omega.{arith}
use lib.Dec.{T, eqb, leb, ltb, ltb→lt, lt→ltb, le→leb}
use Rattle.permutations.specs.Choice.{T→true, not_T→false, eqb_same, eqb_other}
use Rattle.std.proofs.Common.{if◌then◌else◌}
use Rattle.grids.specs.Grid.{Grid, sized, cell, along, darts_of}
use Rattle.grids.proofs.Rows.{row_below, row_number, row_place}
use Rattle.grids.proofs.Sides.{right_dart, up_dart, along_flat}
use Rattle.grids.proofs.Edges.{onward, closing, upward, cell_wale, cell_course}
use Rattle.grids.proofs.Cells.{At, even, odd, at_below, stands_at_lem}
use Rattle.grids.proofs.Limits.{limits}
use Rattle.grids.proofs.Turns.{leftward, downward}

abbrev pub rows : Grid → ℕ
rows g = g.courses - 1

abbrev pub square : Grid → ℕ → ℕ → ℕ
square g x y = y * along g + x

abbrev pub squares : Grid → ℕ
squares g = along g * rows g

-- ---- by arithmetic

-- the face below the edge on the right of a cell, and the one above it
abbrev face_below : Grid → ℕ → ℕ → ℕ
face_below g x y = if leb 1 y then square g x (y - 1) else squares g

abbrev face_above : Grid → ℕ → ℕ → ℕ
face_above g x y = if ltb y (rows g) then square g x y else squares g

-- the face to the right of the edge above a cell, and the one to its left
abbrev face_right : Grid → ℕ → ℕ → ℕ
face_right g x y = if ltb x (along g) then square g x y else squares g

abbrev face_left : Grid → ℕ → ℕ → ℕ
face_left g x y = if leb 1 x then square g (x - 1) y else squares g

-- p at the left cell of an edge along a course, q at the lower cell of an upright one
unfoldable pub by_edge : Grid → (ℕ → ℕ → ℕ) → (ℕ → ℕ → ℕ) → ℕ → ℕ
by_edge g p q e =
    if ltb e (along g * g.courses) then p (e % along g) (e / along g)
    else q ((e - along g * g.courses) % g.wales) ((e - along g * g.courses) / g.wales)

-- a dart's face is on its right
unfoldable pub face_of : Grid → ℕ → ℕ
face_of g d =
    if eqb (d % 2) 0 then by_edge g (face_below g) (face_right g) (d / 2)
    else by_edge g (face_above g) (face_left g) (d / 2)

module _ (g : Grid) where
  module _ (p q : ℕ → ℕ → ℕ) (x y : ℕ) where
    by_along : x < along g → y < g.courses → by_edge g p q (y * along g + x) ≡ p x y
    unfolding by_edge
    by_along h k =
        let e = y * along g + x in
        let first = lt→ltb e (along g * g.courses) (row_below (along g) g.courses x y h k) in
        rw (T→true (ltb e (along g * g.courses)) first, row_place (along g) x y h, row_number (along g) x y h)

    by_upright : x < g.wales → by_edge g p q (along g * g.courses + cell g x y) ≡ q x y
    unfolding by_edge
    by_upright h =
        let n = along g * g.courses in
        let e = n + cell g x y in
        let i : e - n ≡ cell g x y = omega arith in
        let later : ¬ T (ltb e n) = λ t. let l = ltb→lt e n t in omega arith in
        rw (not_T→false (ltb e n) later, i, cell_wale g x y h, cell_course g x y h)

  even_face : (e : ℕ) → face_of g (2 * e) ≡ by_edge g (face_below g) (face_right g) e
  unfolding face_of
  even_face e =
      let z : 2 * e % 2 ≡ 0 = omega arith in
      let k : 2 * e / 2 ≡ e = omega arith in
      rw (eqb_same z, k)

  odd_face : (e : ℕ) → face_of g (2 * e + 1) ≡ by_edge g (face_above g) (face_left g) e
  unfolding face_of
  odd_face e =
      let z : (2 * e + 1) % 2 ≢ 0 = omega arith in
      let k : (2 * e + 1) / 2 ≡ e = omega arith in
      rw (eqb_other z, k)

  module _ (x y : ℕ) (h : x < along g) (k : y < g.courses) where
    right_face : face_of g (right_dart g x y) ≡ face_below g x y
    right_face = even_face (y * along g + x) ∙ by_along (face_below g) (face_right g) x y h k

    left_face : face_of g (leftward g x y) ≡ face_above g x y
    left_face = odd_face (y * along g + x) ∙ by_along (face_above g) (face_left g) x y h k

  module _ (x y : ℕ) (h : x < g.wales) where
    up_face : face_of g (up_dart g x y) ≡ face_right g x y
    up_face = even_face (along g * g.courses + cell g x y) ∙ by_upright (face_below g) (face_right g) x y h

    down_face : face_of g (downward g x y) ≡ face_left g x y
    down_face = odd_face (along g * g.courses + cell g x y) ∙ by_upright (face_above g) (face_left g) x y h

-- ---- which darts lie on which face

pub record Flat (g : Grid) : Type 0 where
  pub opens : ¬ T g.closes
  pub wide : g.wales ≡ along g + 1
  pub high : g.courses ≡ rows g + 1
  pub some : 0 < along g + rows g

pub flat_sized : (g : Grid) → ¬ T g.closes → T (sized g) → Flat g
flat_sized g n s =
    let L = limits g s in
    let e = along_flat g n in
    record { opens = n; wide = omega arith; high = omega arith; some = go (dec_lt 0 (along g + rows g)) L.two_cells L.some_wale L.some_course e }
  where
    go : Dec (0 < along g + rows g) → 1 < g.wales * g.courses → 0 < g.wales → 0 < g.courses → along g ≡ g.wales - 1 → 0 < along g + rows g
    go (yes l) two a b e = l
    go (no m) two a b e =
        let i : g.wales ≡ 1 = omega arith in
        let j : g.courses ≡ 1 = omega arith in
        let z : g.wales * g.courses ≡ 1 = ap₂ ◌*◌ i j in
        absurd (omega arith)

pub data InSquare (g : Grid) (x y : ℕ) : ℕ → Type 0 where
  left_side : InSquare g x y (up_dart g x y)
  upper_side : InSquare g x y (right_dart g x (y + 1))
  right_side : InSquare g x y (downward g (x + 1) y)
  lower_side : InSquare g x y (leftward g x y)

-- along the lowest course, up the last wale, back along the highest course and down the first wale
pub data Border (g : Grid) : ℕ → ℕ → Type 0 where
  lowest : (x k : ℕ) → x < along g → x + k + 1 ≡ 2 * along g + 2 * rows g → Border g k (right_dart g x 0)
  last_wale : (y k : ℕ) → y < rows g → y + k + 1 ≡ along g + 2 * rows g → Border g k (up_dart g (along g) y)
  highest : (x k : ℕ) → x < along g → k ≡ x + rows g → Border g k (leftward g x (rows g))
  first_wale : (y k : ℕ) → y < rows g → k ≡ y → Border g k (downward g 0 y)

pub data Lies (g : Grid) : ℕ → ℕ → Type 0 where
  outside : {k d : ℕ} → Border g k d → Lies g d (squares g)
  inside : (x y : ℕ) {d : ℕ} → x < along g → y < rows g → InSquare g x y d → Lies g d (square g x y)

module _ (g : Grid) (F : Flat g) where
  square_face : (x y : ℕ) {d : ℕ} → x < along g → y < rows g → InSquare g x y d → face_of g d ≡ square g x y
  square_face x y h k left_side =
      up_face g x y (omega (arith, F.wide)) ∙ rw (T→true (ltb x (along g)) (lt→ltb x (along g) h))
  square_face x y h k upper_side =
      let i : y + 1 - 1 ≡ y = omega arith in
      right_face g x (y + 1) h (omega arith) ∙ rw (T→true (leb 1 (y + 1)) (le→leb 1 (y + 1) (omega arith)), i)
  square_face x y h k right_side =
      let i : x + 1 - 1 ≡ x = omega arith in
      down_face g (x + 1) y (omega (arith, F.wide)) ∙ rw (T→true (leb 1 (x + 1)) (le→leb 1 (x + 1) (omega arith)), i)
  square_face x y h k lower_side =
      left_face g x y h (omega arith) ∙ rw (T→true (ltb y (rows g)) (lt→ltb y (rows g) k))

  border_face : {k d : ℕ} → Border g k d → face_of g d ≡ squares g
  border_face (lowest x k h e) = right_face g x 0 h (omega (arith, F.high))
  border_face (last_wale y k h e) =
      up_face g (along g) y (omega (arith, F.wide))
      ∙ rw (not_T→false (ltb (along g) (along g)) (λ t. let l = ltb→lt (along g) (along g) t in omega arith))
  border_face (highest x k h e) =
      left_face g x (rows g) h (omega (arith, F.high))
      ∙ rw (not_T→false (ltb (rows g) (rows g)) (λ t. let l = ltb→lt (rows g) (rows g) t in omega arith))
  border_face (first_wale y k h e) = down_face g 0 y (omega (arith, F.wide))

  -- A DART'S FACE IS THE ONE BY ARITHMETIC
  pub lies_face : {d n : ℕ} → Lies g d n → face_of g d ≡ n
  lies_face (outside b) = border_face b
  lies_face (inside x y h k i) = square_face x y h k i

  -- ---- what lies on a face is a dart

  module _ (x y : ℕ) (h : x < along g) (k : y < g.courses) where
    right_below : right_dart g x y < darts_of g
    right_below = (at_below g (even (onward x y (omega (arith, F.wide)) k))).0

    left_below : leftward g x y < darts_of g
    left_below = (at_below g (odd (onward x y (omega (arith, F.wide)) k))).0

  module _ (x y : ℕ) (h : x < along g + 1) (k : y < rows g) where
    up_below : up_dart g x y < darts_of g
    up_below = (at_below g (even (upward x y (omega (arith, F.wide)) (omega arith)))).0

    down_below : downward g x y < darts_of g
    down_below = (at_below g (odd (upward x y (omega (arith, F.wide)) (omega arith)))).0

  border_below : {k d : ℕ} → Border g k d → d < darts_of g
  border_below (lowest x k h e) = right_below x 0 h (omega (arith, F.high))
  border_below (last_wale y k h e) = up_below (along g) y (omega arith) h
  border_below (highest x k h e) = left_below x (rows g) h (omega (arith, F.high))
  border_below (first_wale y k h e) = down_below 0 y (omega arith) h

  square_below : (x y : ℕ) {d : ℕ} → x < along g → y < rows g → InSquare g x y d → d < darts_of g
  square_below x y h k left_side = up_below x y (omega arith) k
  square_below x y h k upper_side = right_below x (y + 1) h (omega arith)
  square_below x y h k right_side = down_below (x + 1) y (omega arith) k
  square_below x y h k lower_side = left_below x y h (omega arith)

  pub record OnFace (d n : ℕ) : Type 0 where
    pub dart : d < darts_of g
    pub number : n < squares g + 1

  pub lies_below : {d n : ℕ} → Lies g d n → OnFace d n
  lies_below (outside b) = record { dart = border_below b; number = omega arith }
  lies_below (inside x y h k i) =
      let l = row_below (along g) (rows g) x y h k in
      record { dart = square_below x y h k i; number = omega arith }

  -- ---- every dart lies on a face

  abbrev OnSome : ℕ → Type 0
  OnSome d = (n : ℕ) × Lies g d n

  module _ (x y : ℕ) (h : x < along g) (k : y < g.courses) where
    right_lies : OnSome (right_dart g x y)
    right_lies = go (dec_lt 0 y)
      where
        go : Dec (0 < y) → OnSome (right_dart g x y)
        go (yes l) =
            let i : y - 1 + 1 ≡ y = omega arith in
            subst (λ z. OnSome (right_dart g x z)) i (square g x (y - 1), inside x (y - 1) h (omega arith) upper_side)
        go (no n) =
            let i : 0 ≡ y = omega arith in
            subst (λ z. OnSome (right_dart g x z)) i (squares g, outside (lowest x (2 * along g + 2 * rows g - (x + 1)) h (omega arith)))

    left_lies : OnSome (leftward g x y)
    left_lies = go (dec_lt y (rows g))
      where
        go : Dec (y < rows g) → OnSome (leftward g x y)
        go (yes l) = (square g x y, inside x y h l lower_side)
        go (no n) =
            let i : rows g ≡ y = omega arith in
            subst (λ z. OnSome (leftward g x z)) i (squares g, outside (highest x (x + rows g) h refl))

  module _ (x y : ℕ) (h : x < along g + 1) (k : y < rows g) where
    up_lies : OnSome (up_dart g x y)
    up_lies = go (dec_lt x (along g))
      where
        go : Dec (x < along g) → OnSome (up_dart g x y)
        go (yes l) = (square g x y, inside x y l k left_side)
        go (no n) =
            let i : along g ≡ x = omega arith in
            subst (λ z. OnSome (up_dart g z y)) i (squares g, outside (last_wale y (along g + 2 * rows g - (y + 1)) k (omega arith)))

    down_lies : OnSome (downward g x y)
    down_lies = go (dec_lt 0 x)
      where
        go : Dec (0 < x) → OnSome (downward g x y)
        go (yes l) =
            let i : x - 1 + 1 ≡ x = omega arith in
            subst (λ z. OnSome (downward g z y)) i (square g (x - 1) y, inside (x - 1) y (omega arith) k right_side)
        go (no n) =
            let i : 0 ≡ x = omega arith in
            subst (λ z. OnSome (downward g z y)) i (squares g, outside (first_wale y y k refl))

  at_lies : {d c : ℕ} → At g d c → OnSome d
  at_lies (even (onward x y h k)) = right_lies x y (omega (arith, F.wide)) k
  at_lies (even (closing y c h k)) = absurd (F.opens c)
  at_lies (even (upward x y h k)) = up_lies x y (omega (arith, F.wide)) (omega arith)
  at_lies (odd (onward x y h k)) = left_lies x y (omega (arith, F.wide)) k
  at_lies (odd (closing y c h k)) = absurd (F.opens c)
  at_lies (odd (upward x y h k)) = down_lies x y (omega (arith, F.wide)) (omega arith)

  -- EVERY DART LIES ON THE FACE BY ARITHMETIC
  pub dart_lies : (d : ℕ) → d < darts_of g → Lies g d (face_of g d)
  dart_lies d h = let (n, l) = at_lies (stands_at_lem g d h) in rw (lies_face l) l
