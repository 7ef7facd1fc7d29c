-- The successor of each dart in the base of a grid that does not close, as the code's chain of tests.
--   right_of, up_of, left_of, down_of == the dart that goes there from the cell in wale x of course y
--   after_right, after_up, after_left, after_down == the grid's laws in these words
--   first_from, after_way == the same of any way: the first dart that is there, from the next way on
use mathlib.Core.Bool.{Bool, true, false}
use mathlib.Core.Path.{◌≡◌, refl}
use Prim.Native.Nat.{ℕ, zero, suc, ◌+◌, ◌-◌, ◌*◌, ◌<◌}
use lib.Dec.{leb, ltb, lt→ltb, le→leb}
use borrow.Author.Tests.{le-leb, ltb-true, leb-true}
use Rattle.std.proofs.Common.{if◌then◌else◌}
use Rattle.grids.specs.Grid.{flat, along, cell}
use Rattle.grids.specs.Base.{successor_on}
use Rattle.grids.proofs.Successors as grid
use Rattle.plans.specs.Limits.{At}
use Rattle.plans.specs.Ways.{next, goes, dart_of}
use Rattle.plans.specs.declared.laying.Way.{Way}
use Rattle.plans.specs.declared.laying.Way.TheVariants.{Right, Up, Left, Down}

abbrev pub right_of : ℕ → ℕ → ℕ → ℕ
right_of W x y = 2 * (y * (W - 1) + x)

abbrev pub up_of : ℕ → ℕ → ℕ → ℕ → ℕ
up_of W C x y = 2 * ((W - 1) * C + (y * W + x))

abbrev pub left_of : ℕ → ℕ → ℕ → ℕ
left_of W x y = 2 * (y * (W - 1) + (x - 1)) + 1

abbrev pub down_of : ℕ → ℕ → ℕ → ℕ → ℕ
down_of W C x y = 2 * ((W - 1) * C + ((y - 1) * W + x)) + 1

-- where nothing closes, the first wale has nothing on its left
left_choice : (b : Bool) (f : ℕ → ℕ) (i j other : ℕ) → (if b then f (if b then i else j) else other) ≡ (if b then f i else other)
left_choice true f i j other = refl
left_choice false f i j other = refl

pub all_round : (way : Way) → next (next (next (next way))) ≡ way
all_round Right = refl
all_round Up = refl
all_round Left = refl
all_round Down = refl

abbrev pub first_from : ℕ → ℕ → ℕ → ℕ → ℕ → Way → ℕ
first_from W C x y zero way = dart_of W C x y way
first_from W C x y (suc n) way = if goes W C x y way then dart_of W C x y way else first_from W C x y n (next way)

module _ {W C x y : ℕ} (at : At W C x y) where
  abbrev left : ℕ → ℕ
  left i = 2 * (y * (W - 1) + i) + 1

  pub after_right : x + 1 < W → successor_on (flat W C) (right_of W x y)
      ≡ (if ltb (y + 1) C then up_of W C x y else if leb 1 x then left_of W x y else if leb 1 y then down_of W C x y else right_of W x y)
  unfolding along cell
  after_right h =
      rw (left_choice (leb 1 x) left (x - 1) (W - 1)) at (grid.after_right (flat W C) x y at.wale at.course (lt→ltb (x + 1) W h))

  pub after_up : y + 1 < C → successor_on (flat W C) (up_of W C x y)
      ≡ (if leb 1 x then left_of W x y else if leb 1 y then down_of W C x y else if ltb (x + 1) W then right_of W x y else up_of W C x y)
  unfolding along cell
  after_up h =
      rw (left_choice (leb 1 x) left (x - 1) (W - 1)) at (grid.after_up (flat W C) x y at.wale at.course (lt→ltb (y + 1) C h))

  pub after_left : 0 < x → successor_on (flat W C) (left_of W x y)
      ≡ (if leb 1 y then down_of W C x y else if ltb (x + 1) W then right_of W x y else if ltb (y + 1) C then up_of W C x y else left_of W x y)
  unfolding along cell
  after_left h =
      rw (le-leb 1 x h) at (grid.after_left (flat W C) x y at.wale at.course (rw (le-leb 1 x h) tt))

  pub after_down : 0 < y → successor_on (flat W C) (down_of W C x y)
      ≡ (if ltb (x + 1) W then right_of W x y else if ltb (y + 1) C then up_of W C x y else if leb 1 x then left_of W x y else down_of W C x y)
  unfolding along cell
  after_down h =
      rw (left_choice (leb 1 x) left (x - 1) (W - 1)) at (grid.after_down (flat W C) x y at.wale at.course (le→leb 1 y h))

  pub after_way : (way : Way) → goes W C x y way ≡ true → successor_on (flat W C) (dart_of W C x y way) ≡ first_from W C x y 3 (next way)
  after_way Right g = after_right (ltb-true (x + 1) W g)
  after_way Up g = after_up (ltb-true (y + 1) C g)
  after_way Left g = after_left (leb-true 1 x g)
  after_way Down g = after_down (leb-true 1 y g)
