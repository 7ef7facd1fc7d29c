-- `plans::sizes::size` meets its contract: both numbers are inside the limits, or one is not.
use mathlib.Core.Path.{◌∙◌}
use Prim.Native.Nat.{◌≤◌}
use native.Mathlib.Omega.{arith}
use Rattle.plans.proofs.Limits.{size_no, size_yes}
use Rattle.plans.proofs.sizes.size.Goals as goal
use Rattle.plans.proofs.sizes.size.Goals.{then-contains, else-contains}

pub returns-then-contains-2 : goal.returns-then-contains-2
returns-then-contains-2 c =
    elim c.if-contains.branch [
      | then-contains w ↦
          let W : (1 ≤ c.args.wales) × (c.args.wales ≤ 128) = grind arith in
          let C : (1 ≤ c.args.courses) × (c.args.courses ≤ 128) = grind arith in
          size_yes _ _ W.0 W.1 C.0 C.1
      | else-contains w ↦ grind arith
    ]

pub returns-else-contains-2 : goal.returns-else-contains-2
returns-else-contains-2 c =
    elim c.if-contains.branch [
      | then-contains w ↦ c.if-contains-2.false ∙ size_no _ _ (λ s. grind arith)
      | else-contains w ↦ c.if-contains-2.false ∙ size_no _ _ (λ s. grind arith)
    ]
