-- The face-next goes round each face of a grid that does not close.
--   border_step   == it leads from each dart of the border to the one after it
--   last_dart g    == the last dart of the border
--   border_last   == no other dart is the last
--   last_border   == and it is on the border
--   border_meets  == the walk from each dart of the border comes to the last
--   border_next   == the walk does not leave the border
--   square_meets  == the walk from each dart of a square comes to the one along its lower side
--   square_next   == and does not leave the square
use mathlib.Core.Path.{◌≡◌, refl, sym, ap, ap₂, ◌∙◌, subst}
use Prim.Native.Nat.{ℕ, zero, suc, ◌+◌, ◌-◌, ◌*◌, ◌<◌}
use native.Mathlib.Decide.{dec_lt}
use native.Mathlib.Numerals.{add-one}
use native.Mathlib.Omega.{arith}
use lib.Dec.{leb, leb→le, le→leb}
use Rattle.permutations.specs.Choice.{T→true, not_T→false}
use Rattle.permutations.specs.Cycle.{Meets, meets_refl, meets_eq, meets_next, meets_trans}
use Rattle.std.proofs.Common.{if◌then◌else◌}
use Rattle.grids.specs.Grid.{Grid, along}
use Rattle.grids.proofs.Sides.{right_dart, up_dart}
use Rattle.grids.proofs.Turns.{turn, leftward, downward, up_right, right_down, down_left, left_up, right_right, right_over, right_back, up_up, up_over, up_back, left_left, left_over, left_back, down_down, down_over, down_back}
use Rattle.grids.proofs.Faces.{rows, Flat, InSquare, left_side, upper_side, right_side, lower_side, Border, lowest, last_wale, highest, first_wale}

unfoldable pub last_dart : Grid → ℕ
last_dart g = if leb 1 (rows g) then downward g 0 0 else leftward g 0 (rows g)

module _ (g : Grid) (F : Flat g) where
  -- ---- one step along the border, or round a corner of it

  abbrev Next : ℕ → ℕ → Type 0
  Next j d = Border g j (turn g d)

  from_lowest : (x j : ℕ) → x < along g → x + (j + 1) + 1 ≡ 2 * along g + 2 * rows g → Next j (right_dart g x 0)
  from_lowest x j h e = go (dec_lt (x + 1 + 1) g.wales) (dec_lt (0 + 1) g.courses)
    where
      inner : x + 1 < g.wales
      inner = omega (arith, F.wide)

      some : 0 < g.courses
      some = omega (arith, F.high)

      go : Dec (x + 1 + 1 < g.wales) → Dec (0 + 1 < g.courses) → Next j (right_dart g x 0)
      go (yes l) c = subst (Border g j) (sym (right_right g F.opens x inner some l)) (lowest (x + 1) j (omega (arith, F.wide)) (omega arith))
      go (no n) (yes l) =
          let i : x + 1 ≡ along g = omega (arith, F.wide) in
          let t = right_over g F.opens x inner some n l in
          subst (Border g j) (sym (t ∙ ap (λ z. up_dart g z 0) i)) (last_wale 0 j (omega arith) (omega arith))
      go (no n) (no m) =
          let i : x + 1 ≡ along g = omega (arith, F.wide) in
          let o : 0 ≡ rows g = omega arith in
          let t = right_back g F.opens x inner some n m in
          subst (Border g j) (sym (t ∙ ap (leftward g x) o)) (highest x j h (omega arith))

  from_last_wale : (y j : ℕ) → y < rows g → y + (j + 1) + 1 ≡ along g + 2 * rows g → Next j (up_dart g (along g) y)
  from_last_wale y j h e = go (dec_lt (y + 1 + 1) g.courses) (dec_lt 0 (along g))
    where
      inner : y + 1 < g.courses
      inner = omega arith

      go : Dec (y + 1 + 1 < g.courses) → Dec (0 < along g) → Next j (up_dart g (along g) y)
      go (yes l) c =
          let t = up_up g F.opens (along g) y (omega (arith, F.wide)) (omega (arith, F.wide)) inner l in
          subst (Border g j) (sym t) (last_wale (y + 1) j (omega arith) (omega arith))
      go (no n) (yes l) =
          let x = along g - 1 in
          let i : along g ≡ x + 1 = omega arith in
          let o : y + 1 ≡ rows g = omega arith in
          let t = up_over g F.opens x y (omega (arith, F.wide)) (omega (arith, F.wide)) inner n in
          subst (Border g j) (sym (ap (λ z. turn g (up_dart g z y)) i ∙ t ∙ ap (leftward g x) o)) (highest x j (omega arith) (omega arith))
      go (no n) (no m) =
          let i : along g ≡ 0 = omega arith in
          let t = up_back g F.opens y (omega (arith, F.wide)) (omega (arith, F.wide)) inner n in
          subst (Border g j) (sym (ap (λ z. turn g (up_dart g z y)) i ∙ t)) (first_wale y j h (omega arith))

  from_highest : (x j : ℕ) → x < along g → j + 1 ≡ x + rows g → Next j (leftward g x (rows g))
  from_highest x j h e = go (dec_lt 0 x)
    where
      go : Dec (0 < x) → Next j (leftward g x (rows g))
      go (yes l) =
          let z = x - 1 in
          let i : x ≡ z + 1 = omega arith in
          let t = left_left g F.opens (rows g) (omega (arith, F.high)) (omega (arith, F.high)) z (omega (arith, F.wide)) in
          subst (Border g j) (sym (ap (λ z. turn g (leftward g z (rows g))) i ∙ t)) (highest z j (omega arith) (omega arith))
      go (no n) =
          let i : x ≡ 0 = omega arith in
          let o : rows g ≡ j + 1 = omega arith in
          let t = left_over g F.opens (omega (arith, F.wide)) j (omega (arith, F.high)) (omega (arith, F.high)) in
          subst (Border g j) (sym (ap₂ (λ x y. turn g (leftward g x y)) i o ∙ t)) (first_wale j j (omega arith) refl)

  from_first_wale : (y j : ℕ) → y < rows g → j + 1 ≡ y → Next j (downward g 0 y)
  from_first_wale y j h e =
      let t = down_down g F.opens (omega (arith, F.wide)) j (omega arith) in
      subst (Border g j) (sym (ap (λ z. turn g (downward g 0 z)) (sym e) ∙ t)) (first_wale j j (omega arith) refl)

  border_step : {k d : ℕ} (j : ℕ) → j + 1 ≡ k → Border g k d → Next j d
  border_step j i (lowest x k h e) = from_lowest x j h (omega arith)
  border_step j i (last_wale y k h e) = from_last_wale y j h (omega arith)
  border_step j i (highest x k h e) = from_highest x j h (i ∙ e)
  border_step j i (first_wale y k h e) = from_first_wale y j h (i ∙ e)

  -- ---- the last dart, and the first after it

  last_down : 0 < rows g → last_dart g ≡ downward g 0 0
  unfolding last_dart
  last_down h = rw (T→true (leb 1 (rows g)) (le→leb 1 (rows g) h))

  last_left : ¬ (0 < rows g) → last_dart g ≡ leftward g 0 (rows g)
  unfolding last_dart
  last_left n = rw (not_T→false (leb 1 (rows g)) (λ t. n (leb→le 1 (rows g) t)))

  border_last : {k d : ℕ} → k ≡ 0 → Border g k d → d ≡ last_dart g
  border_last z (lowest x k h e) = absurd (omega arith)
  border_last z (last_wale y k h e) = absurd (omega arith)
  border_last z (highest x k h e) =
      let i : x ≡ 0 = omega arith in
      ap (λ z. leftward g z (rows g)) i ∙ sym (last_left (omega arith))
  border_last z (first_wale y k h e) =
      let i : y ≡ 0 = omega arith in
      ap (downward g 0) i ∙ sym (last_down (omega arith))

  pub last_border : Border g 0 (last_dart g)
  last_border = go (dec_lt 0 (rows g))
    where
      go : Dec (0 < rows g) → Border g 0 (last_dart g)
      go (yes l) = subst (Border g 0) (sym (last_down l)) (first_wale 0 0 l refl)
      go (no n) = subst (Border g 0) (sym (last_left n)) (highest 0 0 (omega (arith, F.some)) (omega arith))

  after_last : (j : ℕ) × Next j (last_dart g)
  after_last = go (dec_lt 0 (rows g)) (dec_lt 0 (along g))
    where
      start : 0 < along g → (j : ℕ) × Border g j (right_dart g 0 0)
      start l = (2 * along g + 2 * rows g - 1, lowest 0 (2 * along g + 2 * rows g - 1) l (omega arith))

      go : Dec (0 < rows g) → Dec (0 < along g) → (j : ℕ) × Next j (last_dart g)
      go (yes l) (yes m) =
          let (j, b) = start m in
          let t = down_over g F.opens (omega (arith, F.wide)) (omega arith) (omega (arith, F.wide)) in
          (j, subst (Border g j) (sym (ap (turn g) (last_down l) ∙ t)) b)
      go (yes l) (no n) =
          let j = along g + 2 * rows g - 1 in
          let i : 0 ≡ along g = omega arith in
          let t = down_back g F.opens (omega (arith, F.wide)) (omega arith) (omega (arith, F.wide)) in
          (j, subst (Border g j) (sym (ap (turn g) (last_down l) ∙ t ∙ ap (λ z. up_dart g z 0) i)) (last_wale 0 j l (omega arith)))
      go (no n) c =
          let (j, b) = start (omega (arith, F.some)) in
          let o : rows g ≡ 0 = omega arith in
          let t = left_back g F.opens (omega (arith, F.wide, F.some)) (omega (arith, F.high)) (omega (arith, F.high)) in
          (j, subst (Border g j) (sym (ap (turn g) (last_left n ∙ ap (leftward g 0) o) ∙ t)) b)

  -- ---- all darts of the border are on one face

  -- THE WALK FROM EACH COMES TO THE LAST
  pub border_meets : (k : ℕ) {d : ℕ} → Border g k d → Meets (turn g) d (last_dart g)
  border_meets zero b = meets_eq (turn g) (border_last refl b)
  border_meets (suc k) {d} b = meets_trans (turn g) (meets_next (turn g) d) (border_meets k (border_step k (add-one k) b))

  -- THE WALK DOES NOT LEAVE THE BORDER
  pub border_next : (k : ℕ) {d : ℕ} → Border g k d → (j : ℕ) × Next j d
  border_next zero b = subst (λ z. (j : ℕ) × Next j z) (sym (border_last refl b)) after_last
  border_next (suc k) b = (k, border_step k (add-one k) b)

  -- ---- the darts of a square are on one face

  module _ (x y : ℕ) (h : x < along g) (k : y < rows g) where
    abbrev wale : x + 1 < g.wales
    wale = omega (arith, F.wide)

    abbrev course : y + 1 < g.courses
    course = omega arith

    pub square_next : {d : ℕ} → InSquare g x y d → InSquare g x y (turn g d)
    square_next left_side = subst (InSquare g x y) (sym (up_right g x y wale course)) upper_side
    square_next upper_side = subst (InSquare g x y) (sym (right_down g x y wale course)) right_side
    square_next right_side = subst (InSquare g x y) (sym (down_left g x y wale course)) lower_side
    square_next lower_side = subst (InSquare g x y) (sym (left_up g x y wale course)) left_side

    leads : {a b : ℕ} → turn g a ≡ b → Meets (turn g) b (leftward g x y) → Meets (turn g) a (leftward g x y)
    leads {a} e m = meets_trans (turn g) (subst (Meets (turn g) a) e (meets_next (turn g) a)) m

    from_right : Meets (turn g) (downward g (x + 1) y) (leftward g x y)
    from_right = leads (down_left g x y wale course) (meets_refl (turn g) (leftward g x y))

    from_upper : Meets (turn g) (right_dart g x (y + 1)) (leftward g x y)
    from_upper = leads (right_down g x y wale course) from_right

    pub square_meets : {d : ℕ} → InSquare g x y d → Meets (turn g) d (leftward g x y)
    square_meets left_side = leads (up_right g x y wale course) from_upper
    square_meets upper_side = from_upper
    square_meets right_side = from_right
    square_meets lower_side = meets_refl (turn g) (leftward g x y)
