-- A contraction merges two records: its darts have two places at its turn.
--   Apart R hs    == each contraction of hs finds two places at its turn, where the places at the first one are R
--   Alike L R     == L and R give one label to the same darts
--   replays_apart == labels that tell a legal history (test 16) tell places that are apart
--   joins_merges  == places that are joined merge the labels of the edge's two darts
--   after_alike   == along a history, the labels that the tests merge and the places stay alike
--   base_standing, base_apart == the base of a pyramid stands, and the contractions on it find two places
--   pyramid_apart == the same, said of the pyramid's own base
--   pyramid_inside == the operations of a pyramid are on edges of its darts
use mathlib.Core.Bool.{not, ◌||◌}
use mathlib.Core.List.{List, [], ◌∷◌, ◌++◌, reverse, reverse-cons}
use mathlib.Core.Logic.Iff
use mathlib.Core.Logic.{◌≢◌, ◌⊎◌, ◌↔◌, inl, inr, ⊎_elim, ⊎_swap}
use mathlib.Core.Path.{◌≡◌, sym, subst, fun_ext}
use Prim.Native.Nat.{ℕ, ◌+◌, ◌*◌, ◌/◌, ◌%◌, ◌≤◌, ◌<◌, min, max}
use native.Mathlib.Decide.{dec_le}
use native.Mathlib.Omega.{arith}
use lib.Dec.{T, eqb}
use Rattle.permutations.specs.Choice.{pick, ⊎_iff, eqb_iff, and_left, and_right, not_iff}
use Rattle.permutations.specs.Partner.{partner}
use Rattle.permutations.proofs.PartnerLemmas.{partner_cases}
use Rattle.permutations.specs.Labels.{Either, Merges, merge, merge_merges}
use Rattle.permutations.proofs.Dual.{face_perm}
use Rattle.permutations.proofs.Replay.{Labelled}
use Rattle.darts.specs.Operation.{Kind, contraction, removal, kind_of, lead_of, edge_of}
use Rattle.darts.specs.State.{State}
use Rattle.darts.specs.Pyramid.{Pyramid}
use Rattle.darts.specs.Tests.{same_kind, relabel, relabelled, parted, replays, numbered}
use Rattle.laws.specs.Standing.{map_of, Standing, cycles_of}
use Rattle.laws.proofs.bridge.Standing.{live, live_iff}
use Rattle.laws.proofs.bridge.Bases.{base_stands}
use Rattle.laws.proofs.bridge.Walks as Walks
use Rattle.laws.proofs.claims.Decided.{base_undone}
use Rattle.laws.proofs.tests.Fits.{numbered_iff}
use Rattle.laws.proofs.tests.Passes.{pyramid_shaped}
use Rattle.laws.proofs.tests.TestsDecide.{passed_iff, tests_decide}
use Rattle.yarn.specs.Places.{lowest, joins, zoned, places_after}
use Rattle.yarn.specs.Calls.{base_of}
use Rattle.yarn.proofs.Lowest.{lowest_labels}
use Rattle.yarn.proofs.Settled.{Inside}

abbrev pub Apart : (ℕ → ℕ) → List ℕ → Type 0
Apart R [] = Unit {0}
Apart R (h ∷ hs) = (kind_of h ≡ contraction → R (2 * edge_of h) ≢ R (2 * edge_of h + 1)) × Apart (zoned (kind_of h) R (edge_of h)) hs

pub record Alike (L R : ℕ → ℕ) : Type 0 where
  pub same : (x y : ℕ) → (L x ≡ L y) ↔ (R x ≡ R y)

-- ---- merging keeps labels alike

merges_alike : {L R M N : ℕ → ℕ} {p q : ℕ} → Alike L R → Merges L M p q → Merges R N p q → Alike M N
merges_alike {L} {R} {p = p} {q = q} A μ ν = record {
  same = λ x y. Iff.trans (μ.when x y) (Iff.trans (⊎_iff (A.same x y) (Iff.and (either x) (either y))) (Iff.symm (ν.when x y)));
}
  where
    either : (z : ℕ) → Either L p q z ↔ Either R p q z
    either z = ⊎_iff (A.same z p) (A.same z q)

merges_turned : {L M : ℕ → ℕ} {p q : ℕ} → Merges L M p q → Merges L M q p
merges_turned {L} {M} {p} {q} μ = record {
  when = λ x y. (
    λ k. ⊎_elim inl (λ c. inr (⊎_swap c.0, ⊎_swap c.1)) ((μ.when x y).0 k),
    λ k. (μ.when x y).1 (⊎_elim inl (λ c. inr (⊎_swap c.0, ⊎_swap c.1)) k),
  );
}

-- the lower place for the higher one
module _ (R : ℕ → ℕ) (p q e : ℕ) (low : min (R (2 * e)) (R (2 * e + 1)) ≡ R p) (high : max (R (2 * e)) (R (2 * e + 1)) ≡ R q) where
  joins_merge : Merges R (joins R e) p q
  unfolding joins merge
  joins_merge = subst (λ M. Merges R M p q) (fun_ext (λ x. sym (same x))) (merge_merges R p q)
    where
      same : (x : ℕ) → joins R e x ≡ merge R p q x
      same x = rw (low, high)

pub joins_merges : (R : ℕ → ℕ) (e : ℕ) → Merges R (joins R e) (2 * e) (2 * e + 1)
joins_merges R e = go (dec_le (R (2 * e)) (R (2 * e + 1)))
  where
    go : Dec (R (2 * e) ≤ R (2 * e + 1)) → Merges R (joins R e) (2 * e) (2 * e + 1)
    go (yes l) = joins_merge R (2 * e) (2 * e + 1) e (omega arith) (omega arith)
    go (no n) = merges_turned (joins_merge R (2 * e + 1) (2 * e) e (omega arith) (omega arith))

-- ---- the lead of an operation is either dart of its edge

abbrev Ends : ℕ → Type 0
Ends h = ((lead_of h ≡ 2 * edge_of h) × (partner (lead_of h) ≡ 2 * edge_of h + 1)) ⊎ ((lead_of h ≡ 2 * edge_of h + 1) × (partner (lead_of h) ≡ 2 * edge_of h))

lead_ends : (h : ℕ) → Ends h
unfolding edge_of lead_of
lead_ends h = ⊎_elim (λ c. inl (omega arith, omega arith)) (λ c. inr (omega arith, omega arith)) (partner_cases (h / 2))

lead_merges : (L : ℕ → ℕ) (h : ℕ) → Merges L (merge L (lead_of h) (partner (lead_of h))) (2 * edge_of h) (2 * edge_of h + 1)
lead_merges L h = go (lead_ends h)
  where
    go : Ends h → Merges L (merge L (lead_of h) (partner (lead_of h))) (2 * edge_of h) (2 * edge_of h + 1)
    go (inl (a, b)) = rw (b, a) (merge_merges L (2 * edge_of h) (2 * edge_of h + 1))
    go (inr (a, b)) = rw (b, a) (merges_turned (merge_merges L (2 * edge_of h + 1) (2 * edge_of h)))

lead_parts : (L : ℕ → ℕ) (h : ℕ) → L (lead_of h) ≢ L (partner (lead_of h)) → L (2 * edge_of h) ≢ L (2 * edge_of h + 1)
lead_parts L h = go (lead_ends h)
  where
    go : Ends h → L (lead_of h) ≢ L (partner (lead_of h)) → L (2 * edge_of h) ≢ L (2 * edge_of h + 1)
    go (inl (a, b)) n = rw (b, a) at n
    go (inr (a, b)) n = λ e. n (rw (b, a) (sym e))

-- ---- along a history

module _ {L R : ℕ → ℕ} (A : Alike L R) (h : ℕ) where
  relabel_alike : Alike (relabel contraction L h) (zoned (kind_of h) R (edge_of h))
  unfolding relabel same_kind zoned
  relabel_alike = go (kind_of h)
    where
      go : (k : Kind) → Alike (pick (same_kind contraction k) (merge L (lead_of h) (partner (lead_of h))) L) (zoned k R (edge_of h))
      go contraction = merges_alike A (lead_merges L h) (joins_merges R (edge_of h))
      go removal = A

  parted_two : T (parted contraction L h) → kind_of h ≡ contraction → R (2 * edge_of h) ≢ R (2 * edge_of h + 1)
  unfolding parted same_kind
  parted_two = go (kind_of h)
    where
      go : (k : Kind) → T (not (same_kind contraction k) || not (eqb (L (lead_of h)) (L (partner (lead_of h))))) → k ≡ contraction
          → R (2 * edge_of h) ≢ R (2 * edge_of h + 1)
      go contraction t e s =
          lead_parts L h ((not_iff (eqb (L (lead_of h)) (L (partner (lead_of h)))) (eqb_iff (L (lead_of h)) (L (partner (lead_of h))))).0 t) ((A.same (2 * edge_of h) (2 * edge_of h + 1)).1 s)
      go removal t e s = subst (λ k. T (same_kind contraction k)) (sym e) tt

pub replays_apart : (hs : List ℕ) {L R : ℕ → ℕ} → Alike L R → T (replays contraction L hs) → Apart R hs
unfolding replays
replays_apart [] A t = tt
replays_apart (h ∷ hs) {L} A t = (
  parted_two A h (and_left (parted contraction L h) (replays contraction (relabel contraction L h) hs) t),
  replays_apart hs (relabel_alike A h) (and_right (parted contraction L h) (replays contraction (relabel contraction L h) hs) t),
)

pub after_alike : (hs : List ℕ) {L R : ℕ → ℕ} → Alike L R → Alike (relabelled contraction L hs) (places_after R hs)
unfolding relabelled places_after
after_alike [] A = A
after_alike (h ∷ hs) A = after_alike hs (relabel_alike A h)

pub alike_same : (R : ℕ → ℕ) → Alike R R
alike_same R = record { same = λ x y. Iff.rfl }

-- ---- on a pyramid

inside_last : {D : ℕ} (hs : List ℕ) (h : ℕ) → Inside D hs → 2 * edge_of h + 1 < D → Inside D (hs ++ (h ∷ []))
inside_last [] h inside l = (l, tt)
inside_last (g ∷ hs) h inside l = (inside.0, inside_last hs h inside.1 l)

-- tests 1 and 2: the operations are on edges of the map
numbered_inside : (D : ℕ) (past : List ℕ) → D % 2 ≡ 0 → T (numbered D past) → Inside D (reverse past)
unfolding lead_of edge_of
numbered_inside D [] even n = tt
numbered_inside D (h ∷ past) even n =
    let (l, more) = (numbered_iff D h past).0 n in
    subst (Inside D) (sym (reverse-cons h past))
    (inside_last (reverse past) h (numbered_inside D past even more) (edge ((live_iff D past (lead_of h)).0 l).0))
  where
    edge : h / 2 < D → 2 * (h / 4) + 1 < D
    edge l = omega arith

module _ {s : State} {t past : List ℕ} (P : Pyramid s t past) where
  abbrev D : ℕ
  D = s.darts

  pub base_standing : Standing D (base_of s t past) []
  unfolding base_of
  base_standing = subst (λ b. Standing D b []) (sym (base_undone P)) (base_stands D P.base P.count P.size P.permutation)

  vertices_told : T (replays contraction (lowest D (base_of s t past)) (reverse past))
  unfolding base_of
  vertices_told =
      ((passed_iff (lowest D b) sides s t past).0 ((tests_decide (lowest D b) sides s t past labelled).1 P).0).vertices
    where
      b : List ℕ
      b = base_of s t past

      sides : ℕ → ℕ
      sides = Walks.lowest_met (cycles_of removal (map_of D b [])) D

      labelled : Standing D b [] → Labelled (map_of D b []) (lowest D b) sides
      labelled S = record { vertex = lowest_labels S; side = Walks.lowest_labels (face_perm S.good) (live D []) }

  -- "A contraction merges the two records": THERE ARE TWO
  pub base_apart : Apart (lowest D (base_of s t past)) (reverse past)
  base_apart = replays_apart (reverse past) (alike_same (lowest D (base_of s t past))) vertices_told

  pub pyramid_apart : Apart (lowest D P.base) (reverse past)
  unfolding base_of
  pyramid_apart = subst (λ b. Apart (lowest D b) (reverse past)) (base_undone P) base_apart

  pub pyramid_inside : Inside D (reverse past)
  pyramid_inside = numbered_inside D past base_standing.even (pyramid_shaped P).sound.numbers
