-- `operations::operate::lead_on` meets its contract: the darts that are read are those that `led` names.
use mathlib.Core.List.{List}
use mathlib.Core.Path.{◌≡◌, refl, ◌∙◌}
use Prim.Native.Nat.{ℕ, ◌+◌, ◌<◌}
use lib.ListN.{get_or}
use Rattle.permutations.specs.Partner.{partner}
use Rattle.darts.specs.Map.{successor}
use Rattle.darts.specs.Operation.{Kind}
use Rattle.darts.specs.Tests.{near, far}
use Rattle.laws.proofs.bridge.AnyKind.{near_far}
use Rattle.area.specs.Area.{prev}
use Rattle.operations.specs.Operate.{led}
use Rattle.operations.specs.Edge.{bypassed}
use Rattle.operations.proofs.operate.lead_on.Goals as goal

leads_on : (D : ℕ) (k : Kind) (p : ℕ) (w : List ℕ) {q r s a b x y : ℕ} → q ≡ partner p → r ≡ get_or w p 0 → s ≡ get_or w q 0
    → a ≡ get_or w (D + p) 0 → b ≡ get_or w (D + q) 0 → x ≡ near k r s → y ≡ far k r s → bypassed D w a b q x y ≡ led D w k p
unfolding led bypassed successor prev
leads_on D k p w q-is r_is s_is a-is b-is x_is y_is = rw (x_is, y_is, r_is, s_is, a-is, b-is, q-is) refl

pub bypass-requires-clause-a_lt_d : goal.bypass-requires-clause-a_lt_d
bypass-requires-clause-a_lt_d c =
    let g = c.args in
    let b = c.requires.bounds in
    let r : c.at-r.result < g.d = rw c.at-r.ensures b.first_next in
    let s : c.at-s.result < g.d = rw c.at-s.ensures b.second_next in (
      rw c.at-a.ensures b.first_before,
      rw c.at-b.ensures b.second_before,
      rw c.near-x.ensures (near_far (λ z. z < g.d) _ r s).0,
      rw c.near-y.ensures (near_far (λ z. z < g.d) _ r s).1,
    )

pub returns : goal.returns
returns c =
    c.bypass.ensures
    ∙ leads_on _ _ _ _ c.requires.q_value c.at-r.ensures c.at-s.ensures
    c.at-a.ensures c.at-b.ensures c.near-x.ensures
    c.near-y.ensures
