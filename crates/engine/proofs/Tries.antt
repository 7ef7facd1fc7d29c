-- The operations of one kind replayed on the base, and then those of the other.
--   walk_rooted      == the lowest dart of each cycle: labels of the base that are always right
--   outside_back     == where only the forest differs, it is so the other way round
--   outside_history  == and the history is the same,
--   outside_numbered == whose numbers are still of darts
--   kind_passed      == a kind of which there are none, and none are coming
--   kind_replayed    == a kind with a tree for each cycle of the base, and its operations joined
--   kind_grown       == its forest is there, whatever is coming
--   both_no          == the first kind is refused
--   both_yes         == the first kind passes, and the second answers
use mathlib.Core.Bool.{Bool, true, false, false≢true}
use mathlib.Core.List.{List}
use mathlib.Core.Logic.{◌≢◌, ◌↔◌, by_cases}
use mathlib.Core.Path.{◌≡◌, refl, sym, ap, ◌∙◌}
use Prim.Native.Nat.{ℕ, ◌+◌, ◌-◌, ◌*◌, ◌≤◌}
use native.Mathlib.Decide.{ℕ_discrete}
use native.Mathlib.Omega.{arith}
use lib.Dec.{T, eqb}
use lib.ListN.{take}
use Rattle.permutations.specs.Choice.{pick, true→T, eqb_same, eqb_other}
use Rattle.darts.specs.Operation.{kind_of}
use Rattle.laws.proofs.bridge.Walks.{lowest_met, lowest_labels}
use Rattle.area.specs.Shape.{has_kind, history_in}
use Rattle.operations.specs.Cycles.{Labelled}
use Rattle.operations.specs.Replay.{rejoined, replayed, Numbered, Replayed}
use Rattle.operations.specs.Trees.{Outside, rooted}
use Rattle.operations.proofs.Labels.{labelled_same}
use Rattle.operations.proofs.Outside.{outside_refl, outside_trans, outside_rest}
use Rattle.operations.proofs.Replay.{none_replayed}
use Rattle.laws.specs.Standing.{cycles_of}
use Rattle.engine.specs.Held.{Area, map_in, Rooted}
use Rattle.engine.specs.Checks.{Grown, KindTried, BothTried}
use Rattle.engine.proofs.Around.{ring_good, step_perm}
use Rattle.engine.proofs.Beside.{beside_rooted}
use Rattle.engine.proofs.ByRoots.{rooted_start}

-- ---- one kind

walk_rooted : {D : ℕ} {w : List ℕ} → Area D 0 w → (k : ℕ) → Rooted D 0 k w (lowest_met (cycles_of (kind_of k) (map_in D 0 w)) D)
walk_rooted A k = lowest_labels (ring_good A.stands.good (kind_of k)).perm _

pub outside_back : {D : ℕ} {w v : List ℕ} → Outside D w v → Outside D v w
outside_back o = record { size = sym o.size; front = sym o.front; rest = sym o.rest }

pub outside_history : {D : ℕ} {w v : List ℕ} (n : ℕ) → Outside D w v → history_in D n v ≡ history_in D n w
outside_history {D} n o = ap (take (3 * D + n - 3 * D)) o.rest

pub outside_numbered : {D n : ℕ} {w v : List ℕ} → Outside D w v → Numbered D n w → Numbered D n v
outside_numbered o N = record { fits = N.fits; each = λ i h. rw (outside_rest o i) (N.each i h) }

module _ {D n k : ℕ} {w : List ℕ} (A : Area D 0 w) where
  pub kind_passed : {coming : ℕ} → k ≢ coming → has_kind k (history_in D n w) ≡ false → KindTried D n k coming w w true
  kind_passed other none = record {
    outside = outside_refl D w;
    label = lowest_met (cycles_of (kind_of k) (map_in D 0 w)) D;
    right = walk_rooted A k;
    answer = sym (none_replayed k _ (history_in D n w) none);
    grown = λ _ e. absurd (other e);
  }

  pub kind_replayed : k ≤ 1 → {v w' : List ℕ} {r : Bool} → Labelled D k w v → Replayed D n k v w' r → KindTried D n k k w w' r
  kind_replayed l {v} L R = record {
    outside = outside_trans L.outside R.outside;
    label = rooted D v;
    right = rooted_start A k l (labelled_same (step_perm A k l) L);
    answer = R.answer ∙ ap (replayed k (rooted D v)) (outside_history n L.outside);
    grown = λ e _. record {
      falls = R.falls;
      roots = R.roots e ∙ ap (rejoined k (rooted D v)) (outside_history n L.outside);
    };
  }

pub kind_grown : {D n k : ℕ} (coming : ℕ) {w w' : List ℕ} {r : Bool} → KindTried D n k k w w' r → KindTried D n k coming w w' r
kind_grown coming K = record {
  outside = K.outside;
  label = K.label;
  right = K.right;
  answer = K.answer;
  grown = λ e _. K.grown e refl;
}

-- ---- both kinds

module _ {D n k coming : ℕ} {w v : List ℕ} {q : Bool} (l : k ≤ 1) (last : coming ≤ 1 → k ≡ coming) (K : KindTried D n (1 - k) coming w v q) where
  abbrev hs : List ℕ
  hs = history_in D n w

  -- the labels of both kinds, L being those of kind k
  abbrev labels : (ℕ → ℕ) → ℕ → ℕ → ℕ
  labels L j = pick (eqb j k) L K.label

  module _ {L : ℕ → ℕ} (Λ : Rooted D 0 k w L) where
    rights : (j : ℕ) → j ≤ 1 → Rooted D 0 j w (labels L j)
    rights j b =
        by_cases (ℕ_discrete j k)
        (λ e. rw (eqb_same e, e) Λ)
        (λ o. let e : j ≡ 1 - k = omega arith in rw (eqb_other o, e) K.right)

    answers : (r : Bool) → T r ↔ (T q × T (replayed k L hs)) → T r ↔ ((j : ℕ) → j ≤ 1 → T (replayed j (labels L j) hs))
    answers r i =
        let o : 1 - k ≢ k = omega arith in (
          λ x j b.
              by_cases (ℕ_discrete j k)
              (λ e. rw (eqb_same e, e) (i.0 x).1)
              (λ o. let e : j ≡ 1 - k = omega arith in rw (eqb_other o, e) (rw K.answer at (i.0 x).0)),
          λ f. i.1 (rw K.answer (rw (eqb_other o) at (f (1 - k) (omega arith))), rw (eqb_same refl) at (f k l)),
        )

    both : {w' : List ℕ} (r : Bool) → Outside D w w' → T r ↔ (T q × T (replayed k L hs)) → (r ≡ true → k ≡ coming → Grown D n k L w w')
        → BothTried D n coming w w' r
    both r o i grown = record {
      outside = o;
      label = labels L;
      right = rights;
      answer = answers r i;
      grown = λ t b. let e = last b in rw (eqb_same (sym e), ← e) (grown t e);
    }

  pub both_no : Area D 0 w → q ≡ false → BothTried D n coming w v false
  both_no A e = both (walk_rooted A k) false K.outside (λ x. absurd x, λ x. rw e at x.0) (λ t. absurd (false≢true t))

  pub both_yes : {w' : List ℕ} {r : Bool} → q ≡ true → KindTried D n k coming v w' r → BothTried D n coming w w' r
  both_yes {w'} {r} e M =
      let same = outside_history n K.outside in
      both (beside_rooted (outside_back K.outside) 0 k M.right) r (outside_trans K.outside M.outside)
      (λ x. (true→T e, rw (M.answer, same) at x), λ x. rw (M.answer, same) x.1)
      (λ t c. let G = M.grown t c in record { falls = G.falls; roots = G.roots ∙ ap (rejoined k M.label) same })
