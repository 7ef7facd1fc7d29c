-- The successor of each dart of a grid's base, as a chain of tests.
--   table_entry    == the table has the successor of each dart at its place
--   next_dart      == it is the next in the round of the dart's cell
--   after_right, after_up, after_left, after_down == what comes after the dart on that side: the dart on the next side that there is, round from it
--   round_distinct == no dart stands twice round a cell
use mathlib.Core.List.{List}
use mathlib.Core.Logic.{inl, inr}
use mathlib.Core.Path.{◌≡◌, refl, ap, ◌∙◌}
use Prim.Native.Nat.{ℕ, ◌<◌}
use native.Mathlib.Omega.{arith}
use lib.Dec.{T}
use Rattle.std.proofs.Common.{if◌then◌else◌}
use Rattle.darts.specs.Map.{successor}
use Rattle.grids.specs.Grid.{Grid, cell, darts_of}
use Rattle.grids.specs.Base.{round_of, next_in, successor_on, base_table}
use Rattle.grids.proofs.Next.{Distinct}
use Rattle.grids.proofs.Places.{over_rising}
use Rattle.grids.proofs.Four.{four, FourRound, four_round}
use Rattle.grids.proofs.Sides.{goes_right, goes_up, goes_left, goes_down, right_dart, up_dart, left_dart, down_dart, Side, round_is, right_not_up, left_not_down}
use Rattle.grids.proofs.Cells.{At, round_at, round_cell, cell_of_lem, side_at}

pub table_entry : (g : Grid) (d : ℕ) → d < darts_of g → successor (base_table g) d ≡ successor_on g d
unfolding successor base_table
table_entry g d h = over_rising (successor_on g) (darts_of g) d h

module _ (g : Grid) (x y : ℕ) (hx : x < g.wales) (hy : y < g.courses) where
  pub next_dart : {d : ℕ} → At g d (cell g x y) → successor_on g d ≡ next_in d (round_of g x y)
  unfolding successor_on
  next_dart {d} a = ap (λ c. next_in d (round_at g c)) (cell_of_lem g a) ∙ ap (next_in d) (round_cell g x y hx)

  sides : FourRound (goes_right g x) (goes_up g y) (goes_left g x) (goes_down y) (right_dart g x y) (up_dart g x y) (left_dart g x y) (down_dart g x y)
  sides = four_round _ _ _ _ _ _ _ _ (right_not_up g x y hx hy) (omega arith) (omega arith) (omega arith) (omega arith) (left_not_down g x y hx hy)

  pub round_distinct : Distinct (round_of g x y)
  round_distinct = rw (round_is g x y hx hy) sides.distinct

  abbrev four_sides : List ℕ
  four_sides = four (goes_right g x) (goes_up g y) (goes_left g x) (goes_down y) (right_dart g x y) (up_dart g x y) (left_dart g x y) (down_dart g x y)

  next_side : {d : ℕ} → Side g x y d → successor_on g d ≡ next_in d four_sides
  next_side {d} s = next_dart (side_at g x y hx hy s) ∙ ap (next_in d) (round_is g x y hx hy)

  pub after_right : T (goes_right g x) → successor_on g (right_dart g x y)
      ≡ (if goes_up g y then up_dart g x y else if goes_left g x then left_dart g x y else if goes_down y then down_dart g x y else right_dart g x y)
  after_right t = next_side (inl (t, refl)) ∙ sides.first t

  pub after_up : T (goes_up g y) → successor_on g (up_dart g x y)
      ≡ (if goes_left g x then left_dart g x y else if goes_down y then down_dart g x y else if goes_right g x then right_dart g x y else up_dart g x y)
  after_up t = next_side (inr (inl (t, refl))) ∙ sides.second t

  pub after_left : T (goes_left g x) → successor_on g (left_dart g x y)
      ≡ (if goes_down y then down_dart g x y else if goes_right g x then right_dart g x y else if goes_up g y then up_dart g x y else left_dart g x y)
  after_left t = next_side (inr (inr (inl (t, refl)))) ∙ sides.third t

  pub after_down : T (goes_down y) → successor_on g (down_dart g x y)
      ≡ (if goes_right g x then right_dart g x y else if goes_up g y then up_dart g x y else if goes_left g x then left_dart g x y else down_dart g x y)
  after_down t = next_side (inr (inr (inr (t, refl)))) ∙ sides.fourth t
