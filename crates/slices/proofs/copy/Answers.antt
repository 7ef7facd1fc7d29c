-- `slices::copy` meets its contract: the first i numbers are those of the other slice, and each turn of the loop adds one.
--   copy_on == one number more
--   copied  == n numbers, as `over` writes them
use mathlib.Core.Path.{◌≡◌, refl, ◌∙◌}
use mathlib.Core.List.{List}
use Prim.Native.Nat.{ℕ, ◌+◌, ◌≤◌, ◌<◌}
use native.Mathlib.Nat.{zero-add}
use native.Mathlib.Numerals.{add-one}
use native.Mathlib.Omega.{arith}
use lib.ListN.{length, get_or, set, take, length-set}
use lib.Seq.{length-take-le, paste-suc}
use Rattle.slices.specs.Over.{over}
use Rattle.slices.proofs.copy.Invariants.{Copied}
use Rattle.slices.proofs.copy.Goals as goal

module _ {to₀ from : List ℕ} {n : ℕ} (fits : (n ≤ length to₀) × (n ≤ length from)) {to : List ℕ} {i : ℕ} (h : Copied to₀ from to i) where
  copy_on : i < n → Copied to₀ from (set to i (get_or from i 0)) (i + 1)
  copy_on l =
      record {
        size = length-set to i (get_or from i 0) ∙ h.size;
        same = rw (h.same, add-one) (simp zero-add at (paste-suc to₀ 0 from i 0 (omega arith) (omega arith)));
      }

  copied : i ≡ n → to ≡ over (take n from) to₀
  unfolding over
  copied e = rw (length-take-le n from fits.1) (rw (← e) h.same)

pub loop-i-init : goal.loop-i-init
loop-i-init c = record { size = refl; same = refl }

pub loop-i-preserved : goal.loop-i-preserved
loop-i-preserved c = copy_on c.requires c.loop-i.invariant (omega arith)

pub returns : goal.returns
returns c = copied c.requires c.loop-i.invariant (omega arith)
