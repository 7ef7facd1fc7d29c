-- The four ways from a cell of a plan, in wale x of course y.
--   next way            == the next way round: "right, up, left, down"
--   goes W C x y way    == there is a dart that goes this way
--   dart_of W C x y way == that dart
--   Going W C x y way r == r is that dart, where there is one
use Rattle.std.specs.Prelude.{Bool, true, false, ◌≡◌, ℕ, ◌+◌, ◌-◌, ◌*◌, ◌<◌, Option, MatchOption, leb, ltb}
use Rattle.plans.specs.declared.laying.Way.{Way}
use Rattle.plans.specs.declared.laying.Way.TheVariants.{Right, Up, Left, Down}

abbrev pub next : Way → Way
next Right = Up
next Up = Left
next Left = Down
next Down = Right

abbrev pub goes : ℕ → ℕ → ℕ → ℕ → Way → Bool
goes W C x y Right = ltb (x + 1) W
goes W C x y Up = ltb (y + 1) C
goes W C x y Left = leb 1 x
goes W C x y Down = leb 1 y

abbrev pub dart_of : ℕ → ℕ → ℕ → ℕ → Way → ℕ
dart_of W C x y Right = 2 * (y * (W - 1) + x)
dart_of W C x y Up = 2 * ((W - 1) * C + (y * W + x))
dart_of W C x y Left = 2 * (y * (W - 1) + (x - 1)) + 1
dart_of W C x y Down = 2 * ((W - 1) * C + ((y - 1) * W + x)) + 1

abbrev pub Going : ℕ → ℕ → ℕ → ℕ → Way → Option ℕ → Type 0
Going W C x y way r = MatchOption r (goes W C x y way ≡ false) (λ d. (goes W C x y way ≡ true) × (d ≡ dart_of W C x y way) × (d < 65536))
