-- Records at the turns of operations.
--   Turns D R hs  == the operations hs are on edges of D darts, and each contraction finds two places at its turn, where the places at the first one are R
--   Turn D R e    == a contraction of the edge e, at its turn
--   Two D R l h   == l and h are two places of records
--   turn_two      == a contraction's are
--   own_stays, high_left == a contraction leaves all places but the higher one
--   own_after     == what is a place in the end was one before
--   together_after == darts with one place go on with one
--   From ms t R hs == the operations from t on are hs, where the places are R
use mathlib.Core.Bool.{false}
use mathlib.Core.List.{List, [], ◌∷◌, ◌++◌}
use mathlib.Core.Logic.{◌≢◌}
use mathlib.Core.Path.{◌≡◌, sym, ap, ◌∙◌}
use Prim.Native.Nat.{ℕ, suc, ◌+◌, ◌*◌, ◌<◌}
use native.Mathlib.Decide.{ℕ_discrete}
use native.Mathlib.Nat.{add-zero, zero-add, suc-add}
use native.Mathlib.Omega.{arith}
use lib.Dec.{eqb}
use lib.ListN.{length}
use Rattle.permutations.specs.Choice.{pick, eqb_other}
use Rattle.darts.specs.Operation.{Kind, contraction, removal, kind_of, edge_of}
use Rattle.sheets.specs.Sheets.{Merge}
use Rattle.yarn.specs.Places.{joins, zoned, places_after, merge_by, merges_of}
use Rattle.yarn.specs.Totals.{own}
use Rattle.yarn.proofs.Settled.{Inside, Settled, low, high, joins_high, joins_other, joins_leaves, low_own, high_own, high_dart, after_falls}
use Rattle.yarn.proofs.Apart.{Apart}

pub record Turns (D : ℕ) (R : ℕ → ℕ) (hs : List ℕ) : Type 0 where
  pub inside : Inside D hs
  pub apart : Apart R hs

-- ---- the two places of a contraction

pub record Two (D : ℕ) (R : ℕ → ℕ) (l h : ℕ) : Type 0 where
  pub low_dart : l < D
  pub high_dart : h < D
  pub low_own : R l ≡ l
  pub high_own : R h ≡ h
  pub two : l ≢ h

-- a contraction of the edge e, at its turn
pub record Turn (D : ℕ) (R : ℕ → ℕ) (e : ℕ) : Type 0 where
  pub edge : 2 * e + 1 < D
  pub apart : R (2 * e) ≢ R (2 * e + 1)

module _ {D : ℕ} {R : ℕ → ℕ} {e : ℕ} (Q : Settled D R) (turn : Turn D R e) where
  pub turn_two : Two D R (low R e) (high R e)
  turn_two =
      let top = high_dart Q e turn.edge in
      record { low_dart = omega arith; high_dart = top; low_own = low_own Q e turn.edge; high_own = high_own Q e turn.edge; two = λ z. turn.apart (omega arith) }

  pub low_stays : joins R e (low R e) ≡ low R e
  low_stays = joins_other R e (low R e) (λ z. turn_two.two (sym (low_own Q e turn.edge) ∙ z)) ∙ low_own Q e turn.edge

  pub high_goes : joins R e (high R e) ≡ low R e
  high_goes = joins_high R e (high R e) (high_own Q e turn.edge)

  -- ALL PLACES BUT THE HIGHER ONE STAY
  pub own_stays : (x : ℕ) → x ≢ high R e → own (joins R e) x ≡ own R x
  own_stays x n = go (ℕ_discrete (R x) (high R e))
    where
      go : Dec (R x ≡ high R e) → own (joins R e) x ≡ own R x
      go (yes k) =
          let was : own R x ≡ false = eqb_other (λ z. n (sym z ∙ k)) in
          let is : own (joins R e) x ≡ false = eqb_other (λ z. turn_two.two (sym (low_own Q e turn.edge) ∙ ap R (sym (joins_high R e x k) ∙ z) ∙ k)) in
          is ∙ sym was
      go (no o) = ap (λ y. eqb y x) (joins_other R e x o)

  pub high_left : own (joins R e) (high R e) ≡ false
  high_left = eqb_other (joins_leaves R e turn.apart (high R e))

pub own_after : {D : ℕ} {R : ℕ → ℕ} → Settled D R → (hs : List ℕ) (x : ℕ) → x < D → places_after R hs x ≡ x → R x ≡ x
own_after {R = R} Q hs x d e =
    let a = after_falls hs R x in
    let b = Q.below x d in
    omega arith

-- ---- darts that are together

together_zoned : (R : ℕ → ℕ) (k : Kind) (e x y : ℕ) → R x ≡ R y → zoned k R e x ≡ zoned k R e y
unfolding zoned joins
together_zoned R contraction e x y z = ap (λ v. pick (eqb v (high R e)) (low R e) v) z
together_zoned R removal e x y z = z

pub together_after : (R : ℕ → ℕ) (hs : List ℕ) (x y : ℕ) → R x ≡ R y → places_after R hs x ≡ places_after R hs y
unfolding places_after
together_after R [] x y z = z
together_after R (h ∷ hs) x y z = together_after (zoned (kind_of h) R (edge_of h)) hs x y (together_zoned R (kind_of h) (edge_of h) x y z)

-- ---- histories that go on

pub record From (ms : ℕ → Merge) (t : ℕ) (R : ℕ → ℕ) (hs : List ℕ) : Type 0 where
  pub each : (i : ℕ) → ms (t + i) ≡ merges_of R hs i

module _ {ms : ℕ → Merge} {t : ℕ} {R : ℕ → ℕ} {h : ℕ} {hs : List ℕ} (F : From ms t R (h ∷ hs)) where
  pub from_first : ms t ≡ merge_by (kind_of h) R (edge_of h)
  unfolding merges_of
  from_first = ap ms (sym (add-zero t)) ∙ F.each 0

  pub from_rest : From ms (suc t) (zoned (kind_of h) R (edge_of h)) hs
  unfolding merges_of
  from_rest = record { each = λ i. let e : suc t + i ≡ t + suc i = omega arith in ap ms e ∙ F.each (suc i) }

pub from_start : (R : ℕ → ℕ) (hs : List ℕ) → From (merges_of R hs) 0 R hs
from_start R hs = record { each = λ i. ap (merges_of R hs) (zero-add i) }

pub from_on : (R : ℕ → ℕ) (hs new : List ℕ) → From (merges_of R (hs ++ new)) (length hs) (places_after R hs) new
unfolding merges_of places_after
from_on R [] new = from_start R new
from_on R (h ∷ hs) new = record {
  each = λ i. ap (merges_of R (h ∷ (hs ++ new))) (suc-add (length hs) i) ∙ (from_on (zoned (kind_of h) R (edge_of h)) hs new).each i;
}

module _ {D : ℕ} {R : ℕ → ℕ} {h : ℕ} {hs : List ℕ} (A : Turns D R (h ∷ hs)) where
  pub turn_edge : 2 * edge_of h + 1 < D
  turn_edge = A.inside.0

  pub turn_now : kind_of h ≡ contraction → Turn D R (edge_of h)
  turn_now k = record { edge = turn_edge; apart = A.apart.0 k }

  pub turns_rest : Turns D (zoned (kind_of h) R (edge_of h)) hs
  turns_rest = record { inside = A.inside.1; apart = A.apart.1 }

pub turns_first : (D : ℕ) (R : ℕ → ℕ) (hs new : List ℕ) → Turns D R (hs ++ new) → Turns D R hs
turns_first D R [] new A = record { inside = tt; apart = tt }
turns_first D R (h ∷ hs) new A =
    let rest = turns_first D (zoned (kind_of h) R (edge_of h)) hs new (turns_rest A) in
    record { inside = (turn_edge A, rest.inside); apart = (A.apart.0, rest.apart) }

pub turns_then : (D : ℕ) (R : ℕ → ℕ) (hs new : List ℕ) → Turns D R (hs ++ new) → Turns D (places_after R hs) new
unfolding places_after
turns_then D R [] new A = A
turns_then D R (h ∷ hs) new A = turns_then D (zoned (kind_of h) R (edge_of h)) hs new (turns_rest A)
