-- "The other record stays as it is.": once an operation merged the higher record into the lower one, no later operation writes the higher one.
--   Own D R x     == x is a dart, and a place of R
--   merge_told    == what merges is a contraction, of the lower and the higher place
--   merges_own    == both are places of the base
--   merges_untouched == the higher one is never the lower one of a later contraction
--   base_merging  == so it is with the merges of a history on a base
use mathlib.Core.List.{List, [], ◌∷◌}
use mathlib.Core.Logic.{◌≢◌}
use mathlib.Core.Path.{◌≡◌, refl, sym, ◌∙◌, subst}
use Prim.Native.Nat.{ℕ, zero, suc, ◌+◌, ◌*◌, ◌≤◌, ◌<◌}
use native.Mathlib.Omega.{arith}
use lib.ListN.{length}
use Rattle.permutations.specs.Choice.{eqb_iff}
use Rattle.darts.specs.Operation.{Kind, contraction, removal, kind_of, edge_of}
use Rattle.laws.specs.Standing.{Standing}
use Rattle.sheets.specs.Sheets.{into}
use Rattle.yarn.specs.Places.{lowest, is_place, zoned, merge_by, merges_of, merges}
use Rattle.yarn.proofs.Settled.{Inside, Settled, low, high, low_own, high_own, high_dart, joins_leaves, zoned_falls, zoned_settled, lowest_settled}
use Rattle.yarn.proofs.Apart.{Apart}
use Rattle.yarn.proofs.Merging.{Merging, not_into, into_same}

record Own (D : ℕ) (R : ℕ → ℕ) (x : ℕ) : Type 0 where
  dart : x < D
  own : R x ≡ x

merge_told : (k : Kind) (R : ℕ → ℕ) (e : ℕ) {l h : ℕ} → merge_by k R e ≡ into l h → (k ≡ contraction) × (low R e ≡ l) × (high R e ≡ h)
unfolding merge_by
merge_told contraction R e k = (refl, (into_same k).0, (into_same k).1)
merge_told removal R e k = absurd (not_into k)

-- what is a place after an operation was one before it
own_before : {D : ℕ} {R : ℕ → ℕ} → Settled D R → (k : Kind) (e : ℕ) {x : ℕ} → Own D (zoned k R e) x → Own D R x
own_before {D} {R} Q k e {x} o =
    let falls = zoned_falls k R e x in
    let below = Q.below x o.dart in
    let same = o.own in
    record { dart = o.dart; own = omega arith }

merges_own : {D : ℕ} (hs : List ℕ) {R : ℕ → ℕ} → Settled D R → Inside D hs → (t : ℕ) {l h : ℕ} → merges_of R hs t ≡ into l h → Own D R l × Own D R h
unfolding merges_of
merges_own [] Q inside t k = absurd (not_into k)
merges_own (g ∷ hs) {R} Q inside zero k =
    let e = edge_of g in
    let (_, is-low, is-high) = merge_told (kind_of g) R e k in
    let below = high_dart Q e inside.0 in (
      subst (Own _ R) is-low (record { dart = omega arith; own = low_own Q e inside.0 }),
      subst (Own _ R) is-high (record { dart = below; own = high_own Q e inside.0 }),
    )
merges_own (g ∷ hs) Q inside (suc t) k =
    let (l, h) = merges_own hs (zoned_settled Q (kind_of g) (edge_of g) inside.0) inside.1 t k in
    (own_before Q (kind_of g) (edge_of g) l, own_before Q (kind_of g) (edge_of g) h)

-- the higher place of a contraction is none after it
high_gone : {D : ℕ} (R : ℕ → ℕ) {k : Kind} (e : ℕ) {x : ℕ} → k ≡ contraction → R (2 * e) ≢ R (2 * e + 1) → Own D (zoned k R e) x → high R e ≢ x
unfolding zoned
high_gone R e {x} c two o h =
    joins_leaves R e two x (subst (λ k. zoned k R e x ≡ x) c o.own ∙ sym h)

merges_untouched : {D : ℕ} (hs : List ℕ) {R : ℕ → ℕ} → Settled D R → Inside D hs → Apart R hs
    → (t u : ℕ) {l h l' h' : ℕ} → t ≤ u → merges_of R hs t ≡ into l h → merges_of R hs u ≡ into l' h' → h ≢ l'
unfolding merges_of
merges_untouched [] Q inside apart t u less k j same = absurd (not_into k)
merges_untouched (g ∷ hs) {R} Q inside apart zero zero less k j same =
    let (c, _, is-high) = merge_told (kind_of g) R (edge_of g) k in
    let (_, is-low, _) = merge_told (kind_of g) R (edge_of g) j in
    apart.0 c (omega arith)
merges_untouched (g ∷ hs) {R} Q inside apart zero (suc u) less k j same =
    let (c, _, is-high) = merge_told (kind_of g) R (edge_of g) k in
    let (l, _) = merges_own hs (zoned_settled Q (kind_of g) (edge_of g) inside.0) inside.1 u j in
    high_gone R (edge_of g) c (apart.0 c) l (is-high ∙ same)
merges_untouched (g ∷ hs) Q inside apart (suc t) zero less k j same = absurd (omega arith)
merges_untouched (g ∷ hs) Q inside apart (suc t) (suc u) less k j same =
    merges_untouched hs (zoned_settled Q (kind_of g) (edge_of g) inside.0) inside.1 apart.1 t u (omega arith) k j same

-- THE OTHER RECORD STAYS AS IT IS
pub base_merging : {D : ℕ} {b : List ℕ} → Standing D b [] → (hs : List ℕ) → Inside D hs → Apart (lowest D b) hs
    → Merging (is_place D b) (merges D b hs) D (length hs)
unfolding merges is_place
base_merging {D} {b} S hs inside apart =
    let Q = lowest_settled S in
    record {
      lows = λ {t} h e. let (l, _) = merges_own hs Q inside t e in (l.dart, (eqb_iff (lowest D b _) _).1 l.own);
      highs = λ {t} h e. let (_, l) = merges_own hs Q inside t e in (l.dart, (eqb_iff (lowest D b _) _).1 l.own);
      untouched = λ {t} {u} less h e k. merges_untouched hs Q inside apart t u less e k;
    }
