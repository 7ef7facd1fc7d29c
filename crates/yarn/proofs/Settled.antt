-- Places stay places.
--   Inside D hs    == the operations hs are on edges of D darts
--   Settled D R    == the places R of D darts: none is above its dart, and each is its own place
--   low R e, high R e == the two places of a contraction of the edge e
--   joins_high, joins_other == what had the higher place has the lower one; no other place changes
--   joins_leaves   == then no dart has the higher place any more
--   zoned_falls, after_falls == operations raise no place
--   zoned_settled, after_settled == operations keep places places
--   lowest_settled == the base's places are such
use mathlib.Core.List.{List, [], ◌∷◌}
use mathlib.Core.Logic.{◌≢◌}
use mathlib.Core.Path.{◌≡◌, ◌∙◌}
use Prim.Native.Nat.{ℕ, ◌+◌, ◌*◌, ◌≤◌, ◌<◌, min, max}
use native.Mathlib.Decide.{ℕ_discrete, dec_le}
use native.Mathlib.Omega.{arith}
use Rattle.permutations.specs.Choice.{eqb_same, eqb_other}
use Rattle.darts.specs.Operation.{Kind, contraction, removal, kind_of, edge_of}
use Rattle.laws.specs.Standing.{Standing}
use Rattle.laws.proofs.bridge.Bases.{all_live}
use Rattle.yarn.specs.Places.{lowest, joins, zoned, places_after}
use Rattle.yarn.proofs.Lowest.{lowest_below, lowest_met_lem, lowest_labels}

abbrev pub Inside : ℕ → List ℕ → Type 0
Inside D [] = Unit {0}
Inside D (h ∷ hs) = (2 * edge_of h + 1 < D) × Inside D hs

pub record Settled (D : ℕ) (R : ℕ → ℕ) : Type 0 where
  pub below : (x : ℕ) → x < D → R x ≤ x
  pub own : (x : ℕ) → x < D → R (R x) ≡ R x

-- ---- one operation

module _ (R : ℕ → ℕ) (e : ℕ) where
  abbrev pub low : ℕ
  low = min (R (2 * e)) (R (2 * e + 1))

  abbrev pub high : ℕ
  high = max (R (2 * e)) (R (2 * e + 1))

  pub joins_high : (x : ℕ) → R x ≡ high → joins R e x ≡ low
  unfolding joins
  joins_high x k = rw (eqb_same k)

  pub joins_other : (x : ℕ) → R x ≢ high → joins R e x ≡ R x
  unfolding joins
  joins_other x n = rw (eqb_other n)

  joins_falls : (x : ℕ) → joins R e x ≤ R x
  joins_falls x = go (ℕ_discrete (R x) high)
    where
      go : Dec (R x ≡ high) → joins R e x ≤ R x
      go (yes k) = rw (joins_high x k) (omega arith)
      go (no n) = rw (joins_other x n) (omega arith)

  -- once the two places are one, the higher one is no dart's place
  pub joins_leaves : R (2 * e) ≢ R (2 * e + 1) → (x : ℕ) → joins R e x ≢ high
  joins_leaves two x = go (ℕ_discrete (R x) high)
    where
      go : Dec (R x ≡ high) → joins R e x ≢ high
      go (yes k) = rw (joins_high x k) (λ o. two (omega arith))
      go (no n) = rw (joins_other x n) n

-- no operation raises a place
pub zoned_falls : (k : Kind) (R : ℕ → ℕ) (e x : ℕ) → zoned k R e x ≤ R x
unfolding zoned
zoned_falls contraction R e x = joins_falls R e x
zoned_falls removal R e x = omega arith

module _ {D : ℕ} {R : ℕ → ℕ} (Q : Settled D R) where
  -- both places of a contraction are places
  pub low_own : (e : ℕ) → 2 * e + 1 < D → R (low R e) ≡ low R e
  low_own e h = go (dec_le (R (2 * e)) (R (2 * e + 1)))
    where
      go : Dec (R (2 * e) ≤ R (2 * e + 1)) → R (low R e) ≡ low R e
      go (yes l) = let k : low R e ≡ R (2 * e) = omega arith in rw k (Q.own (2 * e) (omega arith))
      go (no n) = let k : low R e ≡ R (2 * e + 1) = omega arith in rw k (Q.own (2 * e + 1) h)

  pub high_own : (e : ℕ) → 2 * e + 1 < D → R (high R e) ≡ high R e
  high_own e h = go (dec_le (R (2 * e)) (R (2 * e + 1)))
    where
      go : Dec (R (2 * e) ≤ R (2 * e + 1)) → R (high R e) ≡ high R e
      go (yes l) = let k : high R e ≡ R (2 * e + 1) = omega arith in rw k (Q.own (2 * e + 1) h)
      go (no n) = let k : high R e ≡ R (2 * e) = omega arith in rw k (Q.own (2 * e) (omega arith))

  pub high_dart : (e : ℕ) → 2 * e + 1 < D → high R e < D
  high_dart e h =
      let a = Q.below (2 * e) (omega arith) in
      let b = Q.below (2 * e + 1) h in
      omega arith

  joins_own : (e x : ℕ) → 2 * e + 1 < D → x < D → joins R e (joins R e x) ≡ joins R e x
  joins_own e x h d = go (ℕ_discrete (R x) (high R e))
    where
      again : Dec (low R e ≡ high R e) → joins R e (low R e) ≡ low R e
      again (yes k) = joins_high R e (low R e) (low_own e h ∙ k)
      again (no n) = joins_other R e (low R e) (rw (low_own e h) n) ∙ low_own e h

      go : Dec (R x ≡ high R e) → joins R e (joins R e x) ≡ joins R e x
      go (yes k) = rw (joins_high R e x k) (again (ℕ_discrete (low R e) (high R e)))
      go (no n) = rw (joins_other R e x n) (joins_other R e (R x) (rw (Q.own x d) n) ∙ Q.own x d)

  -- AN OPERATION KEEPS PLACES PLACES
  pub zoned_settled : (k : Kind) (e : ℕ) → 2 * e + 1 < D → Settled D (zoned k R e)
  unfolding zoned
  zoned_settled k e h = record { below = λ x d. let a = zoned_falls k R e x in let b = Q.below x d in omega arith; own = own k }
    where
      own : (k : Kind) (x : ℕ) → x < D → zoned k R e (zoned k R e x) ≡ zoned k R e x
      own contraction x d = joins_own e x h d
      own removal x d = Q.own x d

-- ---- all of them

pub after_falls : (hs : List ℕ) (R : ℕ → ℕ) (x : ℕ) → places_after R hs x ≤ R x
unfolding places_after
after_falls [] R x = omega arith
after_falls (h ∷ hs) R x =
    let a = after_falls hs (zoned (kind_of h) R (edge_of h)) x in
    let b = zoned_falls (kind_of h) R (edge_of h) x in
    omega arith

pub after_settled : {D : ℕ} (hs : List ℕ) {R : ℕ → ℕ} → Settled D R → Inside D hs → Settled D (places_after R hs)
unfolding places_after
after_settled [] Q inside = Q
after_settled (h ∷ hs) Q inside = after_settled hs (zoned_settled Q (kind_of h) (edge_of h) inside.0) inside.1

-- ---- a base's places

pub lowest_settled : {D : ℕ} {b : List ℕ} → Standing D b [] → Settled D (lowest D b)
lowest_settled {D} {b} S = record {
  below = lowest_below S;
  own = λ x d.
      let l = lowest_below S x d in
      ((lowest_labels S).says (lowest D b x) x ((all_live D (lowest D b x)).1 (omega arith)) ((all_live D x).1 d)).1 (lowest_met_lem S x d);
}
