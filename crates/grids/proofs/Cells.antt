-- Where the darts of a grid stand.
--   At g d c        == dart d stands at cell c
--   stands_at g d    == the cell of dart d, by arithmetic
--   round_at g c     == the darts round cell c
--   at_round, round_at_lem == they are those that stand there
--   cell_of_lem         == `cell_of` finds the cell where a dart stands
--   right_cell, left_cell, left_cell_round, up_cell, down_cell == the two ends of an edge along a course, and of an upright one
use mathlib.Core.List.{List}
use mathlib.Core.Logic.{◌≢◌, inl, inr, ⊎_elim}
use mathlib.Core.Path.{◌≡◌, refl, sym, ap₂, ◌∙◌, subst}
use Prim.Native.Nat.{ℕ, ◌+◌, ◌-◌, ◌*◌, ◌/◌, ◌%◌, ◌<◌}
use native.Mathlib.Decide.{ℕ_discrete}
use native.Mathlib.Omega.{arith}
use lib.Dec.{T, eqb, leb, ltb→lt, lt→ltb, leb→le, le→leb, nleb→lt, not_T}
use Rattle.permutations.specs.Choice.{T?, T→true, not_T→false, or_intro, or_cases, eqb_same, eqb_other}
use Rattle.std.proofs.Common.{if◌then◌else◌}
use Rattle.grids.specs.Grid.{Grid, cells, cell, along, edges, darts_of}
use Rattle.grids.specs.Base.{round_of, rounds, has, cell_of}
use Rattle.grids.proofs.Places.{place_is}
use Rattle.grids.proofs.Sides.{goes_right, right_dart, left_dart, down_dart, Side, right_along, along_right, goes_right_lem, round_sides, left_dart_lem, first_left_dart, down_dart_lem}
use Rattle.grids.proofs.Edges.{Joins, onward, closing, upward, even_end, odd_end, cell_wale, cell_course, is_cell, joins_even, joins_odd, joins_below, joined}

-- "the even dart at the left or lower cell"
pub data At (g : Grid) : ℕ → ℕ → Type 0 where
  even : {e a b : ℕ} → Joins g e a b → At g (2 * e) a
  odd : {e a b : ℕ} → Joins g e a b → At g (2 * e + 1) b

unfoldable pub stands_at : Grid → ℕ → ℕ
stands_at g d = if eqb (d % 2) 0 then even_end g (d / 2) else odd_end g (d / 2)

abbrev pub round_at : Grid → ℕ → List ℕ
round_at g c = round_of g (c % g.wales) (c / g.wales)

module _ (g : Grid) where
  pub round_cell : (x y : ℕ) → x < g.wales → round_at g (cell g x y) ≡ round_of g x y
  round_cell x y h = ap₂ (round_of g) (cell_wale g x y h) (cell_course g x y h)

  -- ---- a dart's one cell

  pub at_stands : {d c : ℕ} → At g d c → stands_at g d ≡ c
  unfolding stands_at
  at_stands (even {e = e} j) =
      let z : 2 * e % 2 ≡ 0 = omega arith in
      let k : 2 * e / 2 ≡ e = omega arith in
      rw (eqb_same z, k) (joins_even g j)
  at_stands (odd {e = e} j) =
      let z : (2 * e + 1) % 2 ≢ 0 = omega arith in
      let k : (2 * e + 1) / 2 ≡ e = omega arith in
      rw (eqb_other z, k) (joins_odd g j)

  pub at_below : {d c : ℕ} → At g d c → (d < darts_of g) × (c < cells g)
  at_below (even j) = let b = joins_below g j in (omega arith, b.1)
  at_below (odd j) = let b = joins_below g j in (omega arith, b.2)

  some_at : (d : ℕ) → d < darts_of g → (c : ℕ) × At g d c
  some_at d h = go (ℕ_discrete (d % 2) 0)
    where
      e : ℕ
      e = d / 2

      go : Dec (d % 2 ≡ 0) → (c : ℕ) × At g d c
      go (yes z) = let k : 2 * (d / 2) ≡ d = omega arith in
          (even_end g e, subst (λ n. At g n (even_end g e)) k (even (joined g e (omega arith))))
      go (no z) = let k : 2 * (d / 2) + 1 ≡ d = omega arith in
          (odd_end g e, subst (λ n. At g n (odd_end g e)) k (odd (joined g e (omega arith))))

  pub stands_at_lem : (d : ℕ) → d < darts_of g → At g d (stands_at g d)
  stands_at_lem d h = let (c, a) = some_at d h in rw (at_stands a) a

  -- ---- the darts round a cell are those that stand there

  pub side_at : (x y : ℕ) → x < g.wales → y < g.courses → {d : ℕ} → Side g x y d → At g d (cell g x y)
  side_at x y hx hy {d} (inl (r, e)) = subst (λ n. At g n (cell g x y)) e (⊎_elim
      (λ l. even (onward x y l hy))
      (λ m. let i = m.1 in subst (λ z. At g (right_dart g z y) (cell g z y)) (sym i) (even (closing y m.0 (omega arith) hy)))
      (along_right g x (right_along g x hx r)))
  side_at x y hx hy {d} (inr (inl (r, e))) = subst (λ n. At g n (cell g x y)) e (even (upward x y hx (ltb→lt (y + 1) g.courses r)))
  side_at x y hx hy {d} (inr (inr (inl (r, e)))) = subst (λ n. At g n (cell g x y)) e (go (T? (leb 1 x)))
    where
      go : Dec (T (leb 1 x)) → At g (left_dart g x y) (cell g x y)
      go (yes l) =
          let k = leb→le 1 x l in
          let i : x - 1 + 1 ≡ x = omega arith in
          let m : x - 1 + 1 < g.wales = omega arith in
          let j : At g (2 * (y * along g + (x - 1)) + 1) (cell g (x - 1 + 1) y) = odd (onward (x - 1) y m hy) in
          rw (T→true (leb 1 x) l) (subst (λ z. At g (2 * (y * along g + (x - 1)) + 1) (cell g z y)) i j)
      go (no n) =
          let c : T g.closes = ⊎_elim (λ c. c) (λ l. absurd (n l)) (or_cases g.closes (leb 1 x) r) in
          let s : x < 1 = nleb→lt 1 x (not_T (leb 1 x) n) in
          let i : 0 ≡ x = omega arith in
          let some : 0 < g.wales = omega arith in
          rw (not_T→false (leb 1 x) n) (subst (λ z. At g (2 * (y * along g + (g.wales - 1)) + 1) (cell g z y)) i (odd (closing y c some hy)))
  side_at x y hx hy {d} (inr (inr (inr (r, e)))) =
      let k = leb→le 1 y r in
      let i : y - 1 + 1 ≡ y = omega arith in
      let j : At g (down_dart g x y) (cell g x (y - 1 + 1)) = odd (upward x (y - 1) hx (omega arith)) in
      subst (λ n. At g n (cell g x y)) e (subst (λ z. At g (down_dart g x y) (cell g x z)) i j)

  at_side : (x y : ℕ) → x < g.wales → y < g.courses → {d : ℕ} → Side g x y d → T (has d (round_at g (cell g x y)))
  at_side x y hx hy {d} s = rw (round_cell x y hx) ((round_sides g x y hx hy d).1 s)

  pub at_round : {d c : ℕ} → At g d c → T (has d (round_at g c))
  at_round (even (onward x y h k)) = at_side x y (omega arith) k (inl (goes_right_lem g x (inr h), refl))
  at_round (even (closing y c h k)) = at_side (g.wales - 1) y (omega arith) k (inl (goes_right_lem g (g.wales - 1) (inl c), refl))
  at_round (even (upward x y h k)) = at_side x y h (omega arith) (inr (inl (lt→ltb (y + 1) g.courses k, refl)))
  at_round (odd (onward x y h k)) =
      at_side (x + 1) y h k (inr (inr (inl (or_intro g.closes (leb 1 (x + 1)) (inr (le→leb 1 (x + 1) (omega arith))), left_dart_lem g x y))))
  at_round (odd (closing y c h k)) = at_side 0 y h k (inr (inr (inl (or_intro g.closes (leb 1 0) (inl c), first_left_dart g y))))
  at_round (odd (upward x y h k)) = at_side x (y + 1) h k (inr (inr (inr (le→leb 1 (y + 1) (omega arith), down_dart_lem g x y))))

  pub round_at_lem : {d c : ℕ} → c < cells g → T (has d (round_at g c)) → At g d c
  round_at_lem {d} {c} h t =
      let i = is_cell g c h in
      subst (At g d) i.number (side_at (c % g.wales) (c / g.wales) i.wale i.course
      ((round_sides g (c % g.wales) (c / g.wales) i.wale i.course d).0 t))

  pub at_one_lem : {d b c : ℕ} → At g d b → At g d c → b ≡ c
  at_one_lem s t = sym (at_stands s) ∙ at_stands t

  -- THE FIRST CELL WHOSE ROUND HAS A DART IS WHERE THE DART STANDS
  pub cell_of_lem : {d c : ℕ} → At g d c → cell_of g d ≡ c
  unfolding cell_of rounds
  cell_of_lem {d} {c} a = place_is (round_at g) (cells g) d c (at_below a).1 (at_round a) (λ b h t. at_one_lem (round_at_lem h t) a)

  module _ (d : ℕ) (h : d < darts_of g) where
    pub cell_by_arithmetic : cell_of g d ≡ stands_at g d
    cell_by_arithmetic = cell_of_lem (stands_at_lem d h)

    pub dart_at : At g d (cell_of g d)
    dart_at = rw cell_by_arithmetic (stands_at_lem d h)

    pub cell_of_below : cell_of g d < cells g
    cell_of_below = (at_below dart_at).1

  module _ (e : ℕ) (h : e < edges g) where
    pub even_cell : cell_of g (2 * e) ≡ even_end g e
    even_cell = cell_of_lem (even (joined g e h))

    pub odd_cell : cell_of g (2 * e + 1) ≡ odd_end g e
    odd_cell = cell_of_lem (odd (joined g e h))

  -- ---- the two ends of an edge along a course, and of an upright one

  module _ (x y : ℕ) (hx : x < g.wales) (hy : y < g.courses) where
    pub right_cell : T (goes_right g x) → cell_of g (2 * (y * along g + x)) ≡ cell g x y
    right_cell r = cell_of_lem (side_at x y hx hy (inl (r, refl)))

    pub left_cell : x + 1 < g.wales → cell_of g (2 * (y * along g + x) + 1) ≡ cell g (x + 1) y
    left_cell h = cell_of_lem (odd (onward x y h hy))

    pub left_cell_round : T g.closes → x + 1 ≡ g.wales → cell_of g (2 * (y * along g + x) + 1) ≡ cell g 0 y
    left_cell_round c e =
        let i : g.wales - 1 ≡ x = omega arith in
        cell_of_lem (subst (λ z. At g (2 * (y * along g + z) + 1) (cell g 0 y)) i (odd (closing y c (omega arith) hy)))

    pub up_cell : y + 1 < g.courses → cell_of g (2 * (along g * g.courses + cell g x y)) ≡ cell g x y
    up_cell h = cell_of_lem (even (upward x y hx h))

    pub down_cell : y + 1 < g.courses → cell_of g (2 * (along g * g.courses + cell g x y) + 1) ≡ cell g x (y + 1)
    down_cell h = cell_of_lem (odd (upward x y hx h))
