-- The lines of a drawing laid into a plan, the last line first.
--   up_to                         == m times k and one k more is at most n times k, where m is below n
--   line_length                   == a line has a byte for each wale
--   plan_length                   == the plan has a byte for each cell
--   mid_laid                      == numbers copied into a part of a slice are laid there
--   Turning w C d p₀ p y          == y courses are laid, and the plan is what laying the others gives
--   lent                          == a line as it is lent
--   turn_begin, turn_on, turn_end == before the first course; one more; all of them
--   course_at                     == course y of a plan of c courses is line c - 1 - y of the drawing
use mathlib.Core.List.{List, ◌++◌}
use mathlib.Core.Path.{◌≡◌, refl, sym, ap, ◌∙◌}
use Prim.Native.Nat.{ℕ, zero, suc, ◌+◌, ◌-◌, ◌*◌, ◌≤◌, ◌<◌}
use native.Mathlib.Nat.{zero-mul, mul-le-mul_right}
use native.Mathlib.Omega.{arith}
use lib.ListN.{length, take, drop, length-append, length-drop}
use lib.Seq.{take_at, length-take-le, drop-append-add}
use borrow.Rule.Slice.PartMut.{put_mid, Post-is}
use Rattle.slices.specs.Over.{over}
use Rattle.slices.specs.Laid.{laid, Space}
use Rattle.slices.proofs.Laid.{laid_length, laid_on, laid_over}
use Rattle.slices.proofs.Put.{put_none}
use Rattle.plan.specs.Drawing.{line_at, upside_down, Fits}

up_to : (k : ℕ) {m n : ℕ} → m < n → m * k + k ≤ n * k
up_to k {m} {n} h =
    let more : suc m ≤ n = omega arith in
    omega (arith, mul-le-mul_right k more)

line_length : (w j : ℕ) (d : List ℕ) → j * (w + 1) + w ≤ length d → length (line_at w j d) ≡ w
unfolding line_at
line_length w j d h = length-take-le w (drop (j * (w + 1)) d) (simp length-drop (omega arith))

pub plan_length : (w : ℕ) (d : List ℕ) (c : ℕ) → c * (w + 1) ≤ length d → length (upside_down w d c) ≡ c * w
unfolding upside_down
plan_length w d zero h = sym (zero-mul w)
plan_length w d (suc c) h =
    let line : length (line_at w c d) ≡ w = line_length w c d (omega arith) in
    let rest : length (upside_down w d c) ≡ c * w = plan_length w d c (omega arith) in
    length-append (line_at w c d) (upside_down w d c) ∙ omega (arith, line, rest)

-- ---- all lines

-- numbers copied into a part of a slice are laid there
mid_laid : (a e : ℕ) (p xs : List ℕ) → a ≤ e → e ≡ a + length xs → put_mid a (e - a) p xs ≡ laid p a xs
unfolding laid
mid_laid a e p xs h k = ap (λ (z : List ℕ). take a p ++ (xs ++ z)) (Post-is a e p h ∙ ap (λ (n : ℕ). drop n p) k)

pub record Turning (w C : ℕ) (d p₀ p : List ℕ) (y : ℕ) : Type 0 where
  pub bound : y ≤ C
  pub size : length p ≡ length p₀
  pub same : over (upside_down w d C) p₀ ≡ laid p (y * w) (upside_down w d (C - y))

pub turn_begin : (w C : ℕ) (d p : List ℕ) → Turning w C d p p 0
turn_begin w C d p =
    let none : 0 * w ≡ 0 = zero-mul w in
    let all : C - 0 ≡ C = omega arith in
    record { bound = omega arith; size = refl; same = rw (none, all) (sym (laid_over p (upside_down w d C))) }

-- line j, as it is lent
abbrev pub lent : ℕ → ℕ → List ℕ → List ℕ
lent w j d = take (j * (w + 1) + w - j * (w + 1)) (drop (j * (w + 1)) d)

lent_line : (w j : ℕ) (d : List ℕ) → lent w j d ≡ line_at w j d
unfolding line_at
lent_line w j d =
    let size : j * (w + 1) + w - j * (w + 1) ≡ w = omega arith in
    rw size

module _ {w C : ℕ} {d p₀ p : List ℕ} {y : ℕ} (F : Fits w C d p₀) (t : Turning w C d p₀ p y) where
  module _ (h : y < C) where
    -- the course's line, as it is copied
    pub turn_on : {line : List ℕ} → line ≡ lent w (C - 1 - y) d → Turning w C d p₀ (put_mid (y * w) (y * w + w - y * w) p line) (y + 1)
    unfolding upside_down
    turn_on {line} e =
        let here : C - 1 - y < C = omega arith in
        let wales : length (line_at w (C - 1 - y) d) ≡ w = line_length w (C - 1 - y) d (omega (arith, up_to (w + 1) here, F.lines)) in
        let room : Space p (y * w) (line_at w (C - 1 - y) d) = record { fits = omega (arith, up_to w h, F.room, t.size, wales) } in
        let now : put_mid (y * w) (y * w + w - y * w) p line ≡ laid p (y * w) (line_at w (C - 1 - y) d) =
        rw (e, lent_line w (C - 1 - y) d) (mid_laid (y * w) (y * w + w) p (line_at w (C - 1 - y) d) (omega arith) (omega (arith, wales))) in
        let left : C - y ≡ suc (C - 1 - y) = omega arith in
        let fewer : C - (y + 1) ≡ C - 1 - y = omega arith in
        let place : (y + 1) * w ≡ y * w + length (line_at w (C - 1 - y) d) = omega (arith, wales) in
        record {
          bound = omega arith;
          size = ap length now ∙ laid_length p (y * w) (line_at w (C - 1 - y) d) room ∙ t.size;
          same =
              t.same
              ∙ rw (left, fewer, place, now)
              (sym (laid_on p (y * w) (line_at w (C - 1 - y) d) room (upside_down w d (C - 1 - y))));
        }

  pub turn_end : C ≤ y → p ≡ over (upside_down w d C) p₀
  unfolding upside_down
  turn_end h =
      let none : C - y ≡ 0 = omega (arith, t.bound) in
      (put_none p (y * w)).slice ∙ sym (t.same ∙ rw none)

-- ---- course by course

pub course_at : (w : ℕ) (d : List ℕ) (c y : ℕ) → y < c → c * (w + 1) ≤ length d
    → take w (drop (y * w) (upside_down w d c)) ≡ line_at w (c - 1 - y) d
unfolding upside_down
course_at w d zero y h l = absurd (omega arith)
course_at w d (suc c) zero h l =
    let first : suc c - 1 - 0 ≡ c = omega arith in
    let none : 0 * w ≡ 0 = zero-mul w in
    rw (none, first) (take_at (line_at w c d) (upside_down w d c) w (line_length w c d (omega arith)))
course_at w d (suc c) (suc y) h l =
    let size : length (line_at w c d) ≡ w = line_length w c d (omega arith) in
    let past : suc y * w ≡ length (line_at w c d) + y * w = omega (arith, size) in
    let before : suc c - 1 - suc y ≡ c - 1 - y = omega arith in
    rw (past, drop-append-add (line_at w c d) (upside_down w d c) (y * w), before) (course_at w d c y (omega arith) (omega arith))
