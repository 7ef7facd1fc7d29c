-- `operations::operate::operate` meets its contract: its three steps one after another, at the dart that plays p.
use mathlib.Core.List.{List}
use mathlib.Core.Path.{◌≡◌, ap, ◌∙◌}
use Prim.Native.Nat.{◌+◌, ◌*◌, ℕ}
use native.Mathlib.Omega.{arith}
use Rattle.permutations.specs.Partner.{partner}
use Rattle.darts.specs.Operation.{lead}
use Rattle.darts.specs.Kinds.{kind_is, bit}
use Rattle.darts.specs.declared.Kind.{Kind}
use Rattle.darts.proofs.Bits.{bit_kind}
use Rattle.operations.specs.Operate.{led, noted, operated}
use Rattle.operations.specs.Edge.{Bounds}
use Rattle.operations.proofs.Operation.{lead_bounds}
use Rattle.operations.proofs.operate.operate.Goals as goal

-- what is read of p and its partner is in bounds
ready : (D : ℕ) (k : Kind) (e : ℕ) (w : List ℕ) {p : ℕ} → p ≡ lead (kind_is k) w e → Bounds D w (2 * e) (2 * e + 1) → Bounds D w p (partner p)
ready D k e w lead_is b = rw lead_is (lead_bounds D (kind_is k) w e b)

all_steps : (D n : ℕ) (k : Kind) (e : ℕ) (w : List ℕ) {w₁ w₂ : List ℕ} {p : ℕ}
    → p ≡ lead (kind_is k) w e → w₁ ≡ led D w (kind_is k) p → w₂ ≡ noted D n w₁ (bit k) p → w₂ ≡ operated D n w (bit k) e
unfolding operated
all_steps D n k e w {w₁} {w₂} {p} lead_is leads notes =
    rw (bit_kind k)
    (notes
    ∙ ap (λ (l : List ℕ). noted D n l (bit k) p) leads
    ∙ ap (λ (x : ℕ). noted D n (led D w (kind_is k) x) (bit k) x) lead_is)

pub partner-q-requires : goal.partner-q-requires
partner-q-requires c = omega (arith, (ready c.args.d c.args.kind c.args.e c.args.work.now c.lead-p.ensures c.requires.bounds).first)

pub lead_on-requires-clause-bounds : goal.lead_on-requires-clause-bounds
lead_on-requires-clause-bounds c =
    rw c.partner-q.ensures (ready c.args.d c.args.kind c.args.e c.args.work.now c.lead-p.ensures c.requires.bounds)

pub note-requires-clause-n_lt_d : goal.note-requires-clause-n_lt_d
note-requires-clause-n_lt_d c =
    let b = ready c.args.d c.args.kind c.args.e c.args.work.now c.lead-p.ensures c.requires.bounds in
    (omega arith, b.first, rw c.partner-q.ensures b.second)

pub returns : goal.returns
returns c = all_steps _ _ _ _ _ c.lead-p.ensures c.lead_on.ensures c.note.ensures
