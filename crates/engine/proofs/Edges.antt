-- The edges of a past.
--   same_edge     == two darts of one edge are the same, or partners
--   live_cons     == a dart that survives one operation more survived before, and is not of its edge
--   gone_end      == an edge is gone with both its darts
--   not_gone_live == a dart that is not gone survives
--   numbered_cons == tests 1 and 2 of one operation more
use mathlib.Core.Bool.{Bool, true, false, ◌||◌, ◌&&◌, not}
use mathlib.Core.List.{List, [], ◌∷◌}
use mathlib.Core.Logic.Iff
use mathlib.Core.Logic.{◌↔◌, inl, inr, ⊎_elim}
use mathlib.Core.Path.{◌≡◌, refl, sym, ◌∙◌}
use Prim.Native.Nat.{ℕ, ◌*◌, ◌/◌, ◌<◌}
use native.Mathlib.Decide.{ℕ_discrete}
use native.Mathlib.Omega.{arith}
use lib.Dec.{T, eqb, ltb, ltb→lt, lt→ltb}
use Rattle.permutations.specs.Choice.{eqb_iff, not_iff, and_iff}
use Rattle.permutations.specs.Partner.{End}
use Rattle.permutations.proofs.PartnerLemmas.{partner_cases, partner_edge}
use Rattle.darts.specs.Map.{gone, survives, live}
use Rattle.darts.specs.Operation.{lead_of}
use Rattle.darts.specs.Tests.{numbered}
use Rattle.laws.proofs.bridge.Standing.{live_iff}

pub same_edge : (p x : ℕ) → x / 2 ≡ p / 2 → End p x
same_edge p x e = go (ℕ_discrete x p)
  where
    go : Dec (x ≡ p) → End p x
    go (yes k) = inl k
    go (no n) = inr (⊎_elim (λ a. omega arith) (λ a. omega arith) (partner_cases p))

edge_end : {p x : ℕ} → End p x → x / 2 ≡ p / 2
edge_end {p} = ⊎_elim (λ e. rw e) (λ e. rw e (partner_edge p))

-- ---- one operation more

not_either : (a b c : Bool) → T (a && not (b || c)) ↔ (T (a && not c) × (¬ T b))
not_either true true c = (λ t. absurd t, λ k. k.1 tt)
not_either true false c = (λ t. (t, λ z. z), λ k. k.0)
not_either false b c = (λ t. absurd t, λ k. absurd k.0)

-- h is the number of an operation on the edge of p
pub live_cons : (D h : ℕ) (past : List ℕ) (p x : ℕ) → h / 4 ≡ p / 2 → T (live D (h ∷ past) x) ↔ (T (live D past x) × (¬ End p x))
unfolding live survives gone
live_cons D h past p x edge =
    let i = not_either (ltb x D) (eqb (h / 4) (x / 2)) (gone past x) in
    let same = eqb_iff (h / 4) (x / 2) in
    (λ t. let k = i.0 t in (k.0, λ c. k.1 (same.1 (edge ∙ sym (edge_end c)))), λ k. i.1 (k.0, λ t. k.1 (same_edge p x (sym (same.0 t) ∙ edge))))

pub gone_end : (past : List ℕ) {p x : ℕ} → End p x → gone past x ≡ gone past p
unfolding gone
gone_end [] c = refl
gone_end (h ∷ past) c = rw (edge_end c, gone_end past c)

pub not_gone_live : (D : ℕ) (past : List ℕ) (x : ℕ) → x < D → gone past x ≡ false → T (live D past x)
unfolding survives
not_gone_live D past x h e = (live_iff D past x).1 (h, rw e tt)

pub numbered_cons : (D h : ℕ) (past : List ℕ) → T (numbered D (h ∷ past)) ↔ ((h < 2 * D) × ((¬ T (gone past (lead_of h))) × T (numbered D past)))
unfolding numbered
numbered_cons D h past =
    and_iff (ltb h (2 * D)) (not (gone past (lead_of h)) && numbered D past) (ltb→lt h (2 * D), lt→ltb h (2 * D)) (λ l.
    and_iff (not (gone past (lead_of h))) (numbered D past) (not_iff (gone past (lead_of h)) Iff.rfl) (λ n. Iff.rfl))
