-- The odd dart of an edge is the partner of its even one.
--   odd_dart_lem == where p is the even dart of edge e, its partner is 2e+1, and as small
use mathlib.Core.Path.{◌≡◌, ◌∙◌, ap}
use Prim.Native.Nat.{ℕ, ◌+◌, ◌*◌, ◌<◌}
use native.Mathlib.Omega.{arith}
use Rattle.permutations.specs.Partner.{partner}
use Rattle.permutations.proofs.PartnerLemmas.{partner_first}

pub odd_dart_lem : (e : ℕ) {p q : ℕ} → (p ≡ 2 * e) × (p < 65536) → q ≡ partner p → (q ≡ 2 * e + 1) × (q < 65536)
odd_dart_lem e (even, small) other = let same = other ∙ ap partner even ∙ partner_first e in (same, omega arith)
