-- `file_lines::scan::digits` meets its contract: what five digits from the start make is what the digits that are left make after x. The number stays
-- below 100,000, so no sum wraps.
use mathlib.Core.Path.{refl, sym, ◌∙◌}
use mathlib.Core.Path.{◌≡◌}
use Prim.Native.Nat.{◌+◌, ◌-◌}
use native.Mathlib.Omega.{arith}
use Rattle.file_lines.proofs.Byte.{digit_inside}
use Rattle.file_lines.proofs.Number.{small_on, small_now, digits_stop, digits_on, digits_end}
use Rattle.file_lines.proofs.scan.digits.Goals as goal

pub loop-i-init : goal.loop-i-init
loop-i-init c = (refl, record { within = omega arith })

pub overflow_mul-x : goal.overflow_mul-x
overflow_mul-x c = let s = small_now _ _ c.loop-i.invariant.1 in omega arith

pub overflow_add-x : goal.overflow_add-x
overflow_add-x c = let s = small_now _ _ c.loop-i.invariant.1 in omega (arith, c.in-Some.ensures.small)

pub overflow_add-place : goal.overflow_add-place
overflow_add-place c = let inside = digit_inside c.in-Some.ensures in omega arith

pub loop-i-preserved : goal.loop-i-preserved
loop-i-preserved c =
    let less : 5 - (c.loop-i.i + 1) ≡ 5 - c.loop-i.i - 1 = omega arith in
    rw less (
      c.loop-i.invariant.0 ∙ digits_on _ _ _ _ (omega arith) c.in-Some.ensures,
      small_on _ _ _ (omega arith) c.loop-i.invariant.1 c.in-Some.ensures.small,
    )

pub returns-after-loop-i : goal.returns-after-loop-i
returns-after-loop-i c = sym (c.loop-i.invariant.0 ∙ digits_end _ _ _ _ (omega arith))

pub returns-in_default : goal.returns-in_default
returns-in_default c = sym (c.loop-i.invariant.0 ∙ digits_stop _ _ _ _ c.in_default.ensures)
