-- Where the entries of a base rise by two from edge to edge.
--   inside          == an edge of a row is one of all rows'
--   along_rises     == along a course with courses above and below: up after right, and down after left
--   upright_rises   == up from a course, all but the first wale and the last: left after up, and right after down
--   along_ran, upright_ran == so they are laid
use mathlib.Core.List.{List}
use mathlib.Core.Path.{◌≡◌, sym, ◌∙◌}
use Prim.Native.Nat.{ℕ, suc, ◌+◌, ◌-◌, ◌*◌, ◌≤◌, ◌<◌}
use native.Mathlib.Nat.{suc-mul, mul_comm, mul-le-mul_right}
use native.Mathlib.Omega.{arith}
use lib.ListN.{get_or}
use borrow.Author.Tests.{lt-ltb, le-leb}
use Rattle.grids.specs.Grid.{flat}
use Rattle.grids.specs.Base.{successor_on, base_table}
use Rattle.plans.specs.Limits.{At}
use Rattle.plans.specs.Rising.{risen, Rises, Ran}
use Rattle.plans.proofs.Around.{right_of, up_of, left_of, down_of, after_right, after_up, after_left, after_down}
use Rattle.plans.proofs.Base.{table_at}

pub inside : (row rows x y : ℕ) → x < row → y < rows → y * row + x < row * rows
inside row rows x y h k =
    let next : suc y ≤ rows = k in
    let m = mul-le-mul_right row next in
    let s = suc-mul y row in
    let c = mul_comm row rows in
    omega arith

module _ {W C x y n : ℕ} (at : At W C x y) where
  pub along_rises : 0 < y → y + 1 < C → x + n + 1 < W → Rises (base_table (flat W C)) (y * (W - 1) + x) n (up_of W C x y) (down_of W C (x + 1) y)
  along_rises below above more = record { even = even; odd = odd }
    where
      even : (i : ℕ) → i < n → up_of W C x y + 2 * i ≡ get_or (base_table (flat W C)) (2 * (y * (W - 1) + x + i)) 0
      even i h =
          let there : At W C (x + i) y = record { wale = omega arith; narrow = at.narrow; course = at.course; low = at.low } in
          let e : successor_on (flat W C) (right_of W (x + i) y) ≡ up_of W C (x + i) y
          = rw (lt-ltb (y + 1) C above) at (after_right there (omega arith)) in
          let u : up_of W C x y + 2 * i ≡ up_of W C (x + i) y = omega arith in
          let z = inside (W - 1) C (x + i) y (omega arith) at.course in
          table_at W C (right_of W (x + i) y) (2 * (y * (W - 1) + x + i)) (u ∙ sym e) (omega arith) (omega arith)

      odd : (i : ℕ) → i < n → down_of W C (x + 1) y + 2 * i ≡ get_or (base_table (flat W C)) (2 * (y * (W - 1) + x + i) + 1) 0
      odd i h =
          let there : At W C (x + 1 + i) y = record { wale = omega arith; narrow = at.narrow; course = at.course; low = at.low } in
          let e : successor_on (flat W C) (left_of W (x + 1 + i) y) ≡ down_of W C (x + 1 + i) y
          = rw (le-leb 1 y below) at (after_left there (omega arith)) in
          let u : down_of W C (x + 1) y + 2 * i ≡ down_of W C (x + 1 + i) y = omega arith in
          let z = inside (W - 1) C (x + i) y (omega arith) at.course in
          table_at W C (left_of W (x + 1 + i) y) (2 * (y * (W - 1) + x + i) + 1) (u ∙ sym e) (omega arith) (omega arith)

  pub upright_rises : 0 < x → y + 1 < C → x + n < W → Rises (base_table (flat W C)) ((W - 1) * C + (y * W + x)) n (left_of W x y) (right_of W x (y + 1))
  upright_rises beside above more = record { even = even; odd = odd }
    where
      even : (i : ℕ) → i < n → left_of W x y + 2 * i ≡ get_or (base_table (flat W C)) (2 * ((W - 1) * C + (y * W + x) + i)) 0
      even i h =
          let there : At W C (x + i) y = record { wale = omega arith; narrow = at.narrow; course = at.course; low = at.low } in
          let e : successor_on (flat W C) (up_of W C (x + i) y) ≡ left_of W (x + i) y
          = rw (le-leb 1 (x + i) (omega arith)) at (after_up there above) in
          let u : left_of W x y + 2 * i ≡ left_of W (x + i) y = omega arith in
          let z = inside W (C - 1) (x + i) y (omega arith) (omega arith) in
          table_at W C (up_of W C (x + i) y) (2 * ((W - 1) * C + (y * W + x) + i)) (u ∙ sym e) (omega arith) (omega arith)

      odd : (i : ℕ) → i < n → right_of W x (y + 1) + 2 * i ≡ get_or (base_table (flat W C)) (2 * ((W - 1) * C + (y * W + x) + i) + 1) 0
      odd i h =
          let there : At W C (x + i) (y + 1) = record { wale = omega arith; narrow = at.narrow; course = above; low = at.low } in
          let e : successor_on (flat W C) (down_of W C (x + i) (y + 1)) ≡ right_of W (x + i) (y + 1)
          = rw (lt-ltb (x + i + 1) W (omega arith)) at (after_down there (omega arith)) in
          let u : right_of W x (y + 1) + 2 * i ≡ right_of W (x + i) (y + 1) = omega arith in
          let z = inside W (C - 1) (x + i) y (omega arith) (omega arith) in
          let b : y + 1 - 1 ≡ y = omega arith in
          let d : down_of W C (x + i) (y + 1) ≡ 2 * ((W - 1) * C + (y * W + x) + i) + 1 = rw b (omega arith) in
          table_at W C (down_of W C (x + i) (y + 1)) (2 * ((W - 1) * C + (y * W + x) + i) + 1) (u ∙ sym e) d (omega arith)

module _ {W C x y n e r l : ℕ} {t u : List ℕ} (at : At W C x y) (above : y + 1 < C) (same : u ≡ risen e n r l t) where
  pub along_ran : 0 < y → x + n + 1 < W → e ≡ y * (W - 1) + x → r ≡ up_of W C x y → l ≡ down_of W C (x + 1) y → Ran (base_table (flat W C)) e n t u
  along_ran below more i j k = record { even = r; odd = l; rises = rw (i, j, k) (along_rises at below above more); same = same }

  pub upright_ran : 0 < x → x + n < W → e ≡ (W - 1) * C + (y * W + x) → r ≡ left_of W x y → l ≡ right_of W x (y + 1) → Ran (base_table (flat W C)) e n t u
  upright_ran beside more i j k = record { even = r; odd = l; rises = rw (i, j, k) (upright_rises at beside above more); same = same }
