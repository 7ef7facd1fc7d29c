-- `plans::laying::lay_upright` meets its contract: a row of edges for each course but the last, after the a edges along the courses.
use mathlib.Core.List.{List}
use mathlib.Core.Path.{◌≡◌}
use Prim.Native.Nat.{ℕ, ◌+◌, ◌-◌, ◌*◌, ◌≤◌, ◌<◌}
use native.Mathlib.Omega.{arith}
use lib.ListN.{length, get_or, set, length-set}
use lib.Seq.{take_all}
use Rattle.slices.specs.Over.{over}
use Rattle.grids.specs.Base.{successor_on, base_table}
use Rattle.grids.specs.Grid.{flat}
use Rattle.plans.specs.Limits.{At, Lent}
use Rattle.plans.specs.Rising.{Ran}
use Rattle.plans.proofs.Base.{table_length, table_at, lent_long}
use Rattle.plans.proofs.Entries.{laying_inside, laying_on, laying_over, laying_ends}
use Rattle.plans.proofs.Rising.{laying_run}
use Rattle.plans.proofs.laying.lay_upright.Invariants.{Upright}
use Rattle.plans.proofs.laying.lay_upright.Goals as goal

module _ {W C a : ℕ} {to₀ : List ℕ} (p : Lent W C a (length to₀)) {to : List ℕ} {e x y : ℕ} (l : Upright W C a to₀ to e x y) where
  all : length (base_table (flat W C)) ≡ 2 * (a + W * (C - 1))
  all = rw p.along (table_length W C)

  fits : 2 * (a + W * (C - 1)) ≤ length (base_table (flat W C))
  fits = rw all (omega arith)

  module _ (more : e < a + W * (C - 1)) where
    stands : At W C x y × (y + 1 < C)
    stands =
        let (i, j) = laying_inside fits (lent_long p) l more in
        let s = p.sized in
        (record { wale = i; narrow = s.narrow; course = omega arith; low = s.low }, omega arith)

    above : At W C x (y + 1) × (0 < y + 1)
    above = let (s, h) = stands in (record { wale = s.wale; narrow = s.narrow; course = h; low = s.low }, omega arith)

    run_ready : (r s : ℕ) → x + 1 < W
        → (At W C (x + 1) y × ((0 < x + 1) × (y + 1 < C)))
        × ((e + 1 ≡ (W - 1) * C + (y * W + (x + 1))) × (2 * ((W - 1) * C + W * (C - 1)) ≤ length (set (set to (2 * e) r) (2 * e + 1) s)))
    run_ready r s h =
        let (b, k) = stands in (
          (record { wale = h; narrow = b.narrow; course = b.course; low = b.low }, (omega arith, k)),
          (omega (arith, l.place, p.along), simp length-set (omega (arith, l.size, p.room, p.along))),
        )

    module _ {r s : ℕ} (even : r ≡ successor_on (flat W C) (2 * ((W - 1) * C + (y * W + x))))
        (odd : s ≡ successor_on (flat W C) (2 * ((W - 1) * C + ((y + 1 - 1) * W + x)) + 1)) where
      first : r ≡ get_or (base_table (flat W C)) (2 * e) 0
      first = table_at W C _ (2 * e) even (omega (arith, l.place, p.along)) (omega (arith, p.along))

      second : s ≡ get_or (base_table (flat W C)) (2 * e + 1) 0
      second =
          let i : y + 1 - 1 ≡ y = omega arith in
          table_at W C _ (2 * e + 1) (rw i at odd) (omega (arith, l.place, p.along)) (omega (arith, p.along))

      upright_on : x + 1 < W → Upright W C a to₀ (set (set to (2 * e) r) (2 * e + 1) s) (e + 1) (x + 1) y
      upright_on h = laying_on fits (lent_long p) l more first second h

      upright_run : {u : List ℕ} {n : ℕ} → x + 1 < W → x + 1 + n < W → Ran (base_table (flat W C)) (e + 1) n (set (set to (2 * e) r) (2 * e + 1) s) u
          → Upright W C a to₀ u (e + (1 + n)) (x + (1 + n)) y
      upright_run {u} {n} h k ran =
          let (z, g) = stands in
          let i : e + (1 + n) ≡ e + 1 + n = omega arith in
          let j : x + (1 + n) ≡ x + 1 + n = omega arith in
          rw (i, j) (laying_run fits (lent_long p) (upright_on h) (omega arith) k ran)

      upright_over : W ≤ x + 1 → Upright W C a to₀ (set (set to (2 * e) r) (2 * e + 1) s) (e + 1) 0 (y + 1)
      upright_over h = let (z, k) = stands in laying_over fits (lent_long p) l more first second (omega (arith, z.wale))

  upright_ends : a + W * (C - 1) ≤ e → to ≡ over (base_table (flat W C)) to₀
  upright_ends none =
      rw (take_all (2 * (a + W * (C - 1))) (base_table (flat W C)) (rw all (omega arith))) at (laying_ends fits (lent_long p) l none)

pub loop-e-preserved-then-x-w : goal.loop-e-preserved-then-x-w
loop-e-preserved-then-x-w c =
    let ran = c.run_upright-n.ensures in
    upright_run c.requires.lent c.loop-e.invariant c.loop-e-test.true c.after.ensures.0 c.after-in-loop-e.ensures.0 c.if-x-w.true ran.0 ran.1

pub loop-e-preserved : goal.loop-e-preserved
loop-e-preserved c =
    upright_over c.requires.lent c.loop-e.invariant c.loop-e-test.true
    c.after.ensures.0 c.after-in-loop-e.ensures.0 c.if-x-w.false

pub returns : goal.returns
returns c = upright_ends c.requires.lent c.loop-e.invariant c.loop-e-test.false
