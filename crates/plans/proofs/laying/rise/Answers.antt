-- `plans::laying::rise` meets its contract: what is laid from the start is what is laid from here.
use mathlib.Core.List.{List}
use mathlib.Core.Path.{◌≡◌, refl, sym, ◌∙◌}
use Prim.Native.Nat.{ℕ, suc, ◌+◌, ◌-◌, ◌*◌, ◌≤◌, ◌<◌}
use native.Mathlib.Numerals.{unary_clauses}
use native.Mathlib.Omega.{arith}
use lib.ListN.{set, length-set}
use Rattle.plans.specs.Rising.{risen}
use Rattle.plans.proofs.laying.rise.Invariants.{Rising}
use Rattle.plans.proofs.laying.rise.Goals as goal

begins : {e n r l : ℕ} {to : List ℕ} → Rising e n r l to to 0
begins = record { size = refl; inside = omega arith; same = simp unary_clauses refl }

goes_on : {e n r l i : ℕ} {to₀ to : List ℕ} → Rising e n r l to₀ to i → i < n
    → Rising e n r l to₀ (set (set to (2 * (e + i)) (r + 2 * i)) (2 * (e + i) + 1) (l + 2 * i)) (i + 1)
unfolding risen
goes_on {e} {n} {r} {l} {i} {to = to} p h =
    let k : n - i ≡ suc (n - (i + 1)) = omega arith in
    let a : e + i + 1 ≡ e + (i + 1) = omega arith in
    let b : r + 2 * i + 2 ≡ r + 2 * (i + 1) = omega arith in
    let d : l + 2 * i + 2 ≡ l + 2 * (i + 1) = omega arith in
    record {
      size = length-set (set to (2 * (e + i)) (r + 2 * i)) (2 * (e + i) + 1) (l + 2 * i) ∙ length-set to (2 * (e + i)) (r + 2 * i) ∙ p.size;
      inside = omega arith;
      same = rw (← a, ← b, ← d) (rw k at p.same);
    }

ends : {e n r l i : ℕ} {to₀ to : List ℕ} → Rising e n r l to₀ to i → n ≤ i → to ≡ risen e n r l to₀
unfolding risen
ends {n = n} {i = i} p h = let k : n - i ≡ 0 = omega arith in sym (rw k at p.same)

-- src/lib.rt:14:5
pub loop-i-preserved : goal.loop-i-preserved
loop-i-preserved c = goes_on c.loop-i.invariant c.loop-i-test.true

-- src/lib.rt:8:1
pub returns : goal.returns
returns c = ends c.loop-i.invariant c.loop-i-test.false
