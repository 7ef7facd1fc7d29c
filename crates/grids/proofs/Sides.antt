-- The darts round a cell, side by side.
--   goes_right, goes_up, goes_left, goes_down == whether the cell in wale x of course y has an edge on that side
--   right_dart, up_dart, left_dart, down_dart == the dart of that edge at this cell
--   left_dart_lem, down_dart_lem                  == the left and the lower dart, seen from the neighbour
--   right_along, along_right              == the wales with an edge on their right are the first ones, as many as a course has edges
--   round_is                              == the darts round a cell
--   Side g x y d, round_sides             == they are the darts on its sides
use mathlib.Core.Bool.{Bool, true, false, ◌||◌}
use mathlib.Core.List.{List, [], ◌∷◌, map}
use mathlib.Core.Logic.{◌≢◌, ◌↔◌, ◌⊎◌, inl, inr, ⊎_elim}
use mathlib.Core.Path.{◌≡◌, refl}
use Prim.Native.Nat.{ℕ, ◌+◌, ◌-◌, ◌*◌, ◌<◌}
use native.Mathlib.Decide.{dec_lt}
use native.Mathlib.Omega.{arith}
use lib.Dec.{T, leb, ltb, ltb→lt, lt→ltb, leb→le, le→leb}
use Rattle.permutations.specs.Choice.{T?, T→true, not_T→false, or_intro, or_cases}
use Rattle.std.proofs.Common.{if◌then◌else◌}
use Rattle.grids.specs.Grid.{Grid, cell, along, right_edge, up_edge, left_edge, down_edge}
use Rattle.grids.specs.Base.{round_of, has}
use Rattle.grids.proofs.Rows.{row_below}
use Rattle.grids.proofs.Next.{one}
use Rattle.grids.proofs.Four.{four, four_has}

abbrev pub goes_right : Grid → ℕ → Bool
goes_right g x = g.closes || ltb (x + 1) g.wales

abbrev pub goes_up : Grid → ℕ → Bool
goes_up g y = ltb (y + 1) g.courses

abbrev pub goes_left : Grid → ℕ → Bool
goes_left g x = g.closes || leb 1 x

abbrev pub goes_down : ℕ → Bool
goes_down y = leb 1 y

abbrev pub right_dart : Grid → ℕ → ℕ → ℕ
right_dart g x y = 2 * (y * along g + x)

abbrev pub up_dart : Grid → ℕ → ℕ → ℕ
up_dart g x y = 2 * (along g * g.courses + cell g x y)

-- the odd dart of the edge on the right of the left neighbour, which is the last wale's where x is the first
abbrev pub left_dart : Grid → ℕ → ℕ → ℕ
left_dart g x y = 2 * (y * along g + (if leb 1 x then x - 1 else g.wales - 1)) + 1

abbrev pub down_dart : Grid → ℕ → ℕ → ℕ
down_dart g x y = 2 * (along g * g.courses + cell g x (y - 1)) + 1

-- the left and the lower dart, seen from the neighbour
pub left_dart_lem : (g : Grid) (x y : ℕ) → left_dart g (x + 1) y ≡ 2 * (y * along g + x) + 1
left_dart_lem g x y =
    let i : x + 1 - 1 ≡ x = omega arith in
    rw (T→true (leb 1 (x + 1)) (le→leb 1 (x + 1) (omega arith)), i)

pub first_left_dart : (g : Grid) (y : ℕ) → left_dart g 0 y ≡ 2 * (y * along g + (g.wales - 1)) + 1
first_left_dart g y = refl

pub down_dart_lem : (g : Grid) (x y : ℕ) → down_dart g x (y + 1) ≡ 2 * (along g * g.courses + cell g x y) + 1
down_dart_lem g x y = let i : y + 1 - 1 ≡ y = omega arith in rw i

-- d is the dart on one of the four sides
abbrev pub Side : Grid → ℕ → ℕ → ℕ → Type 0
Side g x y d =
    (T (goes_right g x) × (right_dart g x y ≡ d)) ⊎ ((T (goes_up g y) × (up_dart g x y ≡ d))
    ⊎ ((T (goes_left g x) × (left_dart g x y ≡ d)) ⊎ (T (goes_down y) × (down_dart g x y ≡ d))))

-- ---- the edges of a course

map_one : (f : ℕ → ℕ) (b : Bool) (e : ℕ) → map f (one b e) ≡ one b (f e)
map_one f true e = refl
map_one f false e = refl

either_one : (a b : Bool) (f : ℕ → ℕ) {u v : ℕ} {l k : List ℕ} → (T a → l ≡ f u ∷ []) → (T b → k ≡ f v ∷ [])
    → (if a then l else if b then k else []) ≡ one (b || a) (f (if a then u else v))
either_one true true f h i = h tt
either_one true false f h i = h tt
either_one false true f h i = i tt
either_one false false f h i = refl

module _ (g : Grid) where
  pub along_closed : T g.closes → along g ≡ g.wales
  unfolding along
  along_closed h = rw (T→true g.closes h)

  pub along_flat : ¬ T g.closes → along g ≡ g.wales - 1
  unfolding along
  along_flat n = rw (not_T→false g.closes n)

  -- a wale with an edge on its right
  pub right_along : (x : ℕ) → x < g.wales → T (goes_right g x) → x < along g
  right_along x h r = go (T? g.closes)
    where
      go : Dec (T g.closes) → x < along g
      go (yes c) = let e = along_closed c in omega arith
      go (no n) = let e = along_flat n in
          let l = ⊎_elim (λ c. absurd (n c)) (ltb→lt (x + 1) g.wales) (or_cases g.closes (ltb (x + 1) g.wales) r) in
          omega arith

  pub along_right : (x : ℕ) → x < along g → (x + 1 < g.wales) ⊎ (T g.closes × (x ≡ g.wales - 1))
  along_right x h = go (T? g.closes) (dec_lt (x + 1) g.wales)
    where
      go : Dec (T g.closes) → Dec (x + 1 < g.wales) → (x + 1 < g.wales) ⊎ (T g.closes × (x ≡ g.wales - 1))
      go c (yes l) = inl l
      go (yes c) (no k) = let e = along_closed c in inr (c, omega arith)
      go (no n) (no k) = let e = along_flat n in absurd (omega arith)

  pub goes_right_lem : (x : ℕ) → (T g.closes) ⊎ (x + 1 < g.wales) → T (goes_right g x)
  goes_right_lem x h = or_intro g.closes (ltb (x + 1) g.wales) (⊎_elim inl (λ l. inr (lt→ltb (x + 1) g.wales l)) h)

  -- the left neighbour of a wale that has one
  pub left_along : (x : ℕ) → x < g.wales → T (goes_left g x) → (if leb 1 x then x - 1 else g.wales - 1) < along g
  left_along x h l = go (T? (leb 1 x))
    where
      go : Dec (T (leb 1 x)) → (if leb 1 x then x - 1 else g.wales - 1) < along g
      go (yes t) =
          let k = leb→le 1 x t in
          rw (T→true (leb 1 x) t) (right_along (x - 1) (omega arith) (goes_right_lem (x - 1) (inr (omega arith))))
      go (no n) =
          let c : T g.closes = ⊎_elim (λ c. c) (λ t. absurd (n t)) (or_cases g.closes (leb 1 x) l) in
          rw (not_T→false (leb 1 x) n) (right_along (g.wales - 1) (omega arith) (goes_right_lem (g.wales - 1) (inl c)))

  -- ---- the darts round one

  module _ (x y : ℕ) (hx : x < g.wales) (hy : y < g.courses) where
    right_is : (x : ℕ) → T (goes_right g x) → right_edge g x y ≡ (y * along g + x) ∷ []
    unfolding right_edge
    right_is x h = rw (T→true (goes_right g x) h)

    left_is_lem : left_edge g x y ≡ one (goes_left g x) (y * along g + (if leb 1 x then x - 1 else g.wales - 1))
    unfolding left_edge
    left_is_lem = either_one (leb 1 x) g.closes (λ i. y * along g + i)
        (λ l. let k = leb→le 1 x l in right_is (x - 1) (goes_right_lem (x - 1) (inr (omega arith))))
        (λ c. right_is (g.wales - 1) (goes_right_lem (g.wales - 1) (inl c)))

    down_is : down_edge g x y ≡ one (goes_down y) (along g * g.courses + cell g x (y - 1))
    unfolding down_edge up_edge
    down_is = go (T? (leb 1 y))
      where
        go : Dec (T (leb 1 y)) → down_edge g x y ≡ one (goes_down y) (along g * g.courses + cell g x (y - 1))
        go (yes l) =
            let k = leb→le 1 y l in
            let m : y - 1 + 1 < g.courses = omega arith in
            rw (T→true (leb 1 y) l, T→true (ltb (y - 1 + 1) g.courses) (lt→ltb (y - 1 + 1) g.courses m))
        go (no n) = rw (not_T→false (leb 1 y) n)

    -- the darts on its sides, one after another
    pub round_is : round_of g x y
        ≡ four (goes_right g x) (goes_up g y) (goes_left g x) (goes_down y) (right_dart g x y) (up_dart g x y) (left_dart g x y) (down_dart g x y)
    unfolding round_of right_edge up_edge
    round_is = simp (left_is_lem, down_is, map_one)

    pub round_sides : (d : ℕ) → T (has d (round_of g x y)) ↔ Side g x y d
    round_sides d = rw round_is
        (four_has (goes_right g x) (goes_up g y) (goes_left g x) (goes_down y) (right_dart g x y) (up_dart g x y) (left_dart g x y) (down_dart g x y) d)

    pub right_not_up : T (goes_right g x) → right_dart g x y ≢ up_dart g x y
    right_not_up r = let l = row_below (along g) g.courses x y (right_along x hx r) hy in omega arith

    pub left_not_down : T (goes_left g x) → left_dart g x y ≢ down_dart g x y
    left_not_down r = let l = row_below (along g) g.courses _ y (left_along x hx r) hy in omega arith
