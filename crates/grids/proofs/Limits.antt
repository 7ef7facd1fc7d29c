-- The limits of a sized grid.
--   Limits g         == its numbers, one by one
--   sized_limits     == the test says so
--   some_side        == every cell has a dart
--   dart_count_lem       == its darts are a number of darts that a start takes
use mathlib.Core.Bool.{Bool, true, false, ◌&&◌, not}
use mathlib.Core.Logic.{◌≢◌, ◌↔◌, inl, inr}
use mathlib.Core.Path.{◌≡◌, refl, ap₂, subst}
use Prim.Native.Nat.{ℕ, ◌+◌, ◌-◌, ◌*◌, ◌/◌, ◌%◌, ◌≤◌, ◌<◌}
use native.Mathlib.Nat.{mul-le-mul, one-le-mul}
use native.Mathlib.Omega.{arith}
use lib.Dec.{T, eqb, leb, ltb, leb→le, le→leb, eqb→eq, nleb→lt, nltb→le, not_T, T_not}
use Rattle.permutations.specs.Choice.{T?, or_intro, eqb_iff}
use Rattle.std.proofs.Common.{if◌then◌else◌}
use Rattle.darts.specs.Pyramid.{dart_count}
use Rattle.darts.proofs.Fitting.{count_test}
use Rattle.grids.specs.Grid.{Grid, sized, cells, along, edges, darts_of}
use Rattle.grids.proofs.Sides.{goes_right, goes_up, goes_left, goes_down, Side, along_closed, along_flat}
use Rattle.grids.proofs.Edges.{is_cell}
use Rattle.grids.proofs.Cells.{At, at_below, side_at}

-- "1 to 128 wales by 1 to 128 courses"; where it closes, "2 to 128 wales round". "or one cell alone"
pub record Limits (g : Grid) : Type 0 where
  pub some_wale : 1 ≤ g.wales
  pub two_round : T g.closes → 2 ≤ g.wales
  pub most_wales : g.wales ≤ 128
  pub some_course : 1 ≤ g.courses
  pub most_courses : g.courses ≤ 128
  pub two_cells : 2 ≤ g.wales * g.courses

five : (a b c d e : Bool) → T (a && (b && (c && (d && e)))) ↔ (T a × T b × T c × T d × T e)
five true true true true e = (λ h. (tt, tt, tt, tt, h), λ h. h.4)
five false b c d e = (λ h. absurd h, λ h. h.0)
five true false c d e = (λ h. absurd h, λ h. h.1)
five true true false d e = (λ h. absurd h, λ h. h.2)
five true true true false e = (λ h. absurd h, λ h. h.3)

at_least : (b : Bool) (n : ℕ) → ((if b then 2 else 1) ≤ n) ↔ ((1 ≤ n) × (T b → 2 ≤ n))
at_least true n = (λ h. (omega arith, λ t. h), λ h. h.1 tt)
at_least false n = (λ h. (h, λ t. absurd t), λ h. h.0)

-- THE TEST OF THE SIZE SAYS WHAT THE WORDS SAY
pub sized_limits : (g : Grid) → T (sized g) ↔ Limits g
unfolding sized
sized_limits g = (forth, back)
  where
    W : ℕ
    W = g.wales

    C : ℕ
    C = g.courses

    least : ℕ
    least = if g.closes then 2 else 1

    parts : T (leb least W && (leb W 128 && (leb 1 C && (leb C 128 && not (eqb (W * C) 1)))))
        ↔ (T (leb least W) × T (leb W 128) × T (leb 1 C) × T (leb C 128) × T (not (eqb (W * C) 1)))
    parts = five (leb least W) (leb W 128) (leb 1 C) (leb C 128) (not (eqb (W * C) 1))

    forth : T (sized g) → Limits g
    forth s =
        let (few, wide, some, high, several) = parts.0 s in
        let l = (at_least g.closes W).0 (leb→le least W few) in
        let up = leb→le 1 C some in
        let m = one-le-mul l.0 up in
        let n : W * C ≢ 1 = λ e. T_not (eqb (W * C) 1) several ((eqb_iff (W * C) 1).1 e) in
        record {
          some_wale = l.0;
          two_round = l.1;
          most_wales = leb→le W 128 wide;
          some_course = up;
          most_courses = leb→le C 128 high;
          two_cells = omega arith;
        }

    back : Limits g → T (sized g)
    back L = parts.1 (
      le→leb least W ((at_least g.closes W).1 (L.some_wale, L.two_round)),
      le→leb W 128 L.most_wales,
      le→leb 1 C L.some_course,
      le→leb C 128 L.most_courses,
      not_T (eqb (W * C) 1) (λ t. let e = eqb→eq (W * C) 1 t in omega (arith, L.two_cells)),
    )

module _ (g : Grid) (s : T (sized g)) where
  pub limits : Limits g
  limits = (sized_limits g).0 s

  -- only one cell alone has no dart
  pub some_side : (x y : ℕ) → x < g.wales → y < g.courses → (d : ℕ) × Side g x y d
  some_side x y hx hy = go (T? (goes_right g x)) (T? (goes_up g y)) (T? (goes_left g x)) (T? (goes_down y))
    where
      go : Dec (T (goes_right g x)) → Dec (T (goes_up g y)) → Dec (T (goes_left g x)) → Dec (T (goes_down y)) → (d : ℕ) × Side g x y d
      go (yes t) u l w = (_, inl (t, refl))
      go (no r) (yes t) l w = (_, inr (inl (t, refl)))
      go (no r) (no u) (yes t) w = (_, inr (inr (inl (t, refl))))
      go (no r) (no u) (no l) (yes t) = (_, inr (inr (inr (t, refl))))
      go (no r) (no u) (no l) (no w) =
          let i = nleb→lt 1 x (not_T (leb 1 x) (λ t. l (or_intro g.closes (leb 1 x) (inr t)))) in
          let j = nleb→lt 1 y (not_T (leb 1 y) w) in
          let a = nltb→le (x + 1) g.wales (not_T (ltb (x + 1) g.wales) (λ t. r (or_intro g.closes (ltb (x + 1) g.wales) (inr t)))) in
          let b = nltb→le (y + 1) g.courses (not_T (ltb (y + 1) g.courses) u) in
          let p : g.wales ≡ 1 = omega arith in
          let q : g.courses ≡ 1 = omega arith in
          let e : g.wales * g.courses ≡ 1 * 1 = ap₂ ◌*◌ p q in
          absurd (omega (arith, limits.two_cells))

  pub every_cell : (c : ℕ) → c < cells g → (d : ℕ) × At g d c
  every_cell c h =
      let i = is_cell g c h in
      let (d, t) = some_side (c % g.wales) (c / g.wales) i.wale i.course in
      (d, subst (At g d) i.number (side_at g (c % g.wales) (c / g.wales) i.wale i.course t))

  pub cells_two : 2 ≤ cells g
  unfolding cells
  cells_two = limits.two_cells

  along_most : along g ≤ g.wales
  along_most = go (T? g.closes)
    where
      go : Dec (T g.closes) → along g ≤ g.wales
      go (yes c) = let e = along_closed g c in omega arith
      go (no n) = let e = along_flat g n in omega arith

  some_darts : 2 ≤ darts_of g
  some_darts =
      let h = cells_two in
      let (d, a) = every_cell 0 (omega arith) in
      let k = (at_below g a).0 in
      omega arith

  few_darts : darts_of g ≤ 65536
  unfolding edges
  few_darts =
      let L = limits in
      let across : along g ≤ 128 = omega (arith, along_most) in
      let up : g.courses - 1 ≤ 128 = omega arith in
      let a = mul-le-mul across L.most_courses in
      let b = mul-le-mul L.most_wales up in
      omega arith

  -- "D even, 2 to 65,536"
  pub dart_count_lem : T (dart_count (darts_of g))
  dart_count_lem = count_test (darts_of g) (record { even = omega arith; some = some_darts; small = few_darts })
