-- `plans::laying::lay_along` meets its contract: a row of edges for each course, from the first edge on.
use mathlib.Core.List.{List}
use mathlib.Core.Path.{◌≡◌}
use Prim.Native.Nat.{ℕ, ◌+◌, ◌-◌, ◌*◌, ◌≤◌, ◌<◌}
use native.Mathlib.Omega.{arith}
use lib.ListN.{length, get_or, set, take, length-set}
use Rattle.slices.specs.Over.{over}
use Rattle.grids.specs.Base.{successor_on, base_table}
use Rattle.grids.specs.Grid.{flat}
use Rattle.plans.specs.Limits.{At, Lent}
use Rattle.plans.specs.Rising.{Ran}
use Rattle.plans.proofs.Base.{table_length, table_at, lent_long}
use Rattle.plans.proofs.Entries.{laying_inside, laying_on, laying_over, laying_ends}
use Rattle.plans.proofs.Rising.{laying_run}
use Rattle.plans.proofs.laying.lay_along.Invariants.{Along}
use Rattle.plans.proofs.laying.lay_along.Goals as goal

module _ {W C a : ℕ} {to₀ : List ℕ} (p : Lent W C a (length to₀)) {to : List ℕ} {e x y : ℕ} (l : Along W C to₀ to e x y) where
  fits : 2 * (0 + (W - 1) * C) ≤ length (base_table (flat W C))
  fits = rw (table_length W C) (omega arith)

  module _ (more : e < a) where
    left : e < 0 + (W - 1) * C
    left = omega (arith, p.along)

    stands : At W C x y × (x + 1 < W)
    stands =
        let (i, j) = laying_inside fits (lent_long p) l left in
        let s = p.sized in
        (record { wale = omega arith; narrow = s.narrow; course = j; low = s.low }, omega arith)

    beside : At W C (x + 1) y × (0 < x + 1)
    beside = let (s, h) = stands in (record { wale = h; narrow = s.narrow; course = s.course; low = s.low }, omega arith)

    run_ready : (r s : ℕ) → x + 2 < W
        → (At W C (x + 1) y × (x + 1 + 1 < W)) × ((e + 1 ≡ y * (W - 1) + (x + 1)) × (2 * ((W - 1) * C + W * (C - 1)) ≤ length (set (set to (2 * e) r) (2 * e + 1) s)))
    run_ready r s h =
        let (b, k) = beside in
        ((b, omega arith), (omega (arith, l.place), simp length-set (omega (arith, l.size, p.room, p.along))))

    module _ {r s : ℕ} (even : r ≡ successor_on (flat W C) (2 * (y * (W - 1) + x)))
        (odd : s ≡ successor_on (flat W C) (2 * (y * (W - 1) + (x + 1 - 1)) + 1)) where
      first : r ≡ get_or (base_table (flat W C)) (2 * e) 0
      first = table_at W C _ (2 * e) even (omega (arith, l.place)) (omega arith)

      second : s ≡ get_or (base_table (flat W C)) (2 * e + 1) 0
      second = table_at W C _ (2 * e + 1) odd (omega (arith, l.place)) (omega arith)

      along_on : x + 2 < W → Along W C to₀ (set (set to (2 * e) r) (2 * e + 1) s) (e + 1) (x + 1) y
      along_on h = laying_on fits (lent_long p) l left first second (omega arith)

      along_run : {u : List ℕ} {n : ℕ} → x + 2 < W → x + 1 + n + 1 < W → Ran (base_table (flat W C)) (e + 1) n (set (set to (2 * e) r) (2 * e + 1) s) u
          → Along W C to₀ u (e + (1 + n)) (x + (1 + n)) y
      along_run {u} {n} h k ran =
          let (z, g) = stands in
          let i : e + (1 + n) ≡ e + 1 + n = omega arith in
          let j : x + (1 + n) ≡ x + 1 + n = omega arith in
          rw (i, j) (laying_run fits (lent_long p) (along_on h) z.course (omega arith) ran)

      along_over : W ≤ x + 2 → Along W C to₀ (set (set to (2 * e) r) (2 * e + 1) s) (e + 1) 0 (y + 1)
      along_over h = let (z, k) = stands in laying_over fits (lent_long p) l left first second (omega arith)

  along_ends : a ≤ e → to ≡ over (take (2 * a) (base_table (flat W C))) to₀
  along_ends none =
      let i : 0 + (W - 1) * C ≡ a = omega (arith, p.along) in
      rw i at (laying_ends fits (lent_long p) l (omega (arith, p.along)))

pub loop-e-preserved-then-x-w : goal.loop-e-preserved-then-x-w
loop-e-preserved-then-x-w c =
    let ran = c.run_along-n.ensures in
    along_run c.requires c.loop-e.invariant c.loop-e-test.true c.after.ensures.0 c.after-in-loop-e.ensures.0 c.if-x-w.true ran.0 ran.1

pub loop-e-preserved : goal.loop-e-preserved
loop-e-preserved c =
    along_over c.requires c.loop-e.invariant c.loop-e-test.true
    c.after.ensures.0 c.after-in-loop-e.ensures.0 c.if-x-w.false

pub returns : goal.returns
returns c = along_ends c.requires c.loop-e.invariant c.loop-e-test.false
