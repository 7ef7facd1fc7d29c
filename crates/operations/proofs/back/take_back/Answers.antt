-- `operations::back::take_back` meets its contract: the names p, q, r and s, spelt out, make the operation h of its edge.
--
--   q_below    == the partner is a dart
--   spelt_out  == an edge that is tried is the operation that is tried
use mathlib.Core.List.{List}
use mathlib.Core.Path.{◌≡◌, ◌∙◌}
use Prim.Native.Nat.{ℕ, ◌/◌, ◌%◌, ◌*◌, ◌<◌}
use native.Mathlib.Omega.{arith}
use lib.ListN.{get_or}
use Rattle.permutations.specs.Partner.{partner}
use Rattle.permutations.proofs.PartnerLemmas.{partner_below}
use Rattle.darts.specs.Map.{successor}
use Rattle.darts.specs.Kinds.{kind_is, bit}
use Rattle.darts.specs.declared.Kind.{Kind}
use Rattle.darts.proofs.Bits.{number_kind}
use Rattle.operations.specs.Back.{fits, taken_back, tried_edge, tried_back, Mapped}
use Rattle.operations.proofs.back.take_back.Goals as goal

q_below : (D : ℕ) (w : List ℕ) (h : ℕ) {q : ℕ} → Mapped D w → h < 2 * D → q ≡ partner (h / 2) → q < D
q_below D w h m l e = rw e (partner_below D (h / 2) (omega arith) m.room.even)

spelt_out : (D : ℕ) (w : List ℕ) (h : ℕ) (k : Kind) {q r s : ℕ} → bit k ≡ h % 2 → q ≡ partner (h / 2) → r ≡ get_or w (h / 2) 0 → s ≡ get_or w q 0
    → tried_edge D w (kind_is k) (h / 2) q r s ≡ tried_back D w h
unfolding tried_back fits taken_back successor
spelt_out D w h k kind q-is r_is s_is = rw (← (number_kind k h kind), s_is, r_is, q-is)

pub at-s-requires : goal.at-s-requires
at-s-requires c =
    let below = q_below c.args.d c.args.work.now c.args.h c.requires.mapped c.requires.h_bound c.partner-q.ensures in
    omega arith

pub take_back_edge-requires-clause-edge_inside : goal.take_back_edge-requires-clause-edge_inside
take_back_edge-requires-clause-edge_inside c =
    let g = c.args in
    let m = c.requires.mapped in
    let p : g.h / 2 < g.d = omega arith in
    let q = q_below g.d g.work.now g.h m c.requires.h_bound c.partner-q.ensures in
    record { p = p; q = q; r = rw c.at-r.ensures (m.darts (g.h / 2) p); s = rw c.at-s.ensures (m.darts c.partner-q.result q) }

pub returns : goal.returns
returns c =
    let g = c.args in
    c.take_back_edge.ensures
    ∙ spelt_out g.d g.work.now g.h _ c.from.ensures c.partner-q.ensures c.at-r.ensures c.at-s.ensures
