-- The replay of a history on the forest's roots: one operation more, and the same replay on labels.
--   replay_other, rejoin_other       == an operation of the other kind changes nothing
--   replay_together                  == one root already: the replay fails
--   replay_apart, rejoin_apart       == two roots: they are joined, and the replay goes on
--   none_replayed                    == where none is of kind k, the replay has nothing to refuse
--   merged_merges                    == joined roots give one root where they did, and where both belonged to p or q
--   Alike R L                        == R and L give one root, or label, to the same numbers
--   replay_alike                     == the replay on labels answers the same
--   rejoined_alike                   == and what is joined is what is relabelled
use mathlib.Core.Bool.{Bool, true, false, not, true≢false}
use mathlib.Core.List.{List, [], ◌∷◌}
use mathlib.Core.Logic.{◌≢◌, ◌⊎◌, inl, inr, ⊎_elim, ◌↔◌, by_cases}
use mathlib.Core.Path.{◌≡◌, refl, sym, ap, ◌∙◌}
use Prim.Native.Nat.{ℕ, ◌/◌, ◌%◌, ◌<◌, min, max}
use native.Mathlib.Decide.{ℕ_discrete}
use native.Mathlib.Omega.{arith}
use lib.Dec.{eqb}
use borrow.Author.Tests.{eq-eqb, ne_eqb}
use Rattle.permutations.specs.Partner.{partner}
use Rattle.permutations.specs.Labels.{Either, Merges, merge, merge_merges}
use Rattle.std.proofs.Common.{if◌then◌else◌}
use Rattle.darts.specs.Operation.{kind_of, lead_of}
use Rattle.darts.specs.Tests.{relabel, relabelled, replays, parted}
use Rattle.forest.specs.Forest.{linked}
use Rattle.forest.proofs.Joins.{linked_higher, linked_other}
use Rattle.area.specs.Shape.{has_kind}
use Rattle.area.proofs.OfKind.{has_here, has_on, kind_same}
use Rattle.operations.specs.Trees.{merged}
use Rattle.operations.specs.Replay.{rejoin, rejoined, replayed}

-- ---- one operation more

module _ (k : ℕ) (R : ℕ → ℕ) (h : ℕ) (hs : List ℕ) where
  module _ (other : h % 2 ≢ k) where
    pub replay_other : replayed k R (h ∷ hs) ≡ replayed k R hs
    unfolding replayed rejoin
    replay_other = rw (ne_eqb (h % 2) k other) refl

    pub rejoin_other : rejoined k R (h ∷ hs) ≡ rejoined k R hs
    unfolding rejoined rejoin
    rejoin_other = rw (ne_eqb (h % 2) k other) refl

  module _ (same : h % 2 ≡ k) where
    pub replay_together : false ≡ not (eqb (R (h / 2)) (R (partner (h / 2)))) → replayed k R (h ∷ hs) ≡ false
    unfolding replayed rejoin
    replay_together e = rw (eq-eqb (h % 2) k same, ← e) refl

    pub replay_apart : true ≡ not (eqb (R (h / 2)) (R (partner (h / 2)))) → replayed k R (h ∷ hs) ≡ replayed k (merged R (h / 2) (partner (h / 2))) hs
    unfolding replayed rejoin
    replay_apart e = rw (eq-eqb (h % 2) k same, ← e) refl

    pub rejoin_apart : rejoined k R (h ∷ hs) ≡ rejoined k (merged R (h / 2) (partner (h / 2))) hs
    unfolding rejoined rejoin
    rejoin_apart = rw (eq-eqb (h % 2) k same) refl

pub none_replayed : (k : ℕ) (R : ℕ → ℕ) (hs : List ℕ) → has_kind k hs ≡ false → replayed k R hs ≡ true
none_replayed k R [] none = unfold replayed in refl
none_replayed k R (h ∷ hs) none =
    by_cases (ℕ_discrete (h % 2) k)
    (λ e. absurd (true≢false (sym (has_here k h hs e) ∙ none)))
    (λ n. replay_other k R h hs n ∙ none_replayed k R hs (sym (has_on k h hs n) ∙ none))

-- ---- joined roots

module _ (R : ℕ → ℕ) (p q : ℕ) where
  lower : (x : ℕ) → Either R p q x → merged R p q x ≡ min (R p) (R q)
  unfolding merged
  lower x e =
      by_cases (ℕ_discrete (R x) (max (R p) (R q)))
      (linked_higher (R p) (R q) (R x))
      (λ n. linked_other (R p) (R q) (R x) n ∙ ⊎_elim (λ h. omega arith) (λ h. omega arith) e)

  either : (x : ℕ) → merged R p q x ≡ min (R p) (R q) → Either R p q x
  unfolding merged
  either x h =
      by_cases (ℕ_discrete (R x) (R p)) inl
      (λ n. by_cases (ℕ_discrete (R x) (R q)) inr (λ m. absurd (omega (arith, linked_other (R p) (R q) (R x) (omega arith)))))

  pub merged_merges : Merges R (merged R p q) p q
  unfolding merged
  merged_merges = record { when = λ x y. (there x y (ℕ_discrete (R x) (max (R p) (R q))) (ℕ_discrete (R y) (max (R p) (R q))), back x y) }
    where
      both : (x y : ℕ) → merged R p q x ≡ min (R p) (R q) → merged R p q y ≡ min (R p) (R q) → (R x ≡ R y) ⊎ (Either R p q x × Either R p q y)
      both x y g h = inr (either x g, either y h)

      there : (x y : ℕ) → Dec (R x ≡ max (R p) (R q)) → Dec (R y ≡ max (R p) (R q)) → merged R p q x ≡ merged R p q y → (R x ≡ R y) ⊎ (Either R p q x × Either R p q y)
      there x y (yes e) _ h = both x y (linked_higher (R p) (R q) (R x) e) (sym h ∙ linked_higher (R p) (R q) (R x) e)
      there x y (no n) (yes e) h = both x y (h ∙ linked_higher (R p) (R q) (R y) e) (linked_higher (R p) (R q) (R y) e)
      there x y (no n) (no m) h = inl (sym (linked_other (R p) (R q) (R x) n) ∙ h ∙ linked_other (R p) (R q) (R y) m)

      back : (x y : ℕ) → (R x ≡ R y) ⊎ (Either R p q x × Either R p q y) → merged R p q x ≡ merged R p q y
      back x y (inl e) = ap (linked (R p) (R q)) e
      back x y (inr a) = lower x a.0 ∙ sym (lower y a.1)

-- ---- the same on labels

pub record Alike (R L : ℕ → ℕ) : Type 0 where
  pub says : (x y : ℕ) → (R x ≡ R y) ↔ (L x ≡ L y)

module _ {R L : ℕ → ℕ} (a : Alike R L) where
  alike_either : (p q x : ℕ) → Either R p q x ↔ Either L p q x
  alike_either p q x = (
    ⊎_elim (λ e. inl ((a.says x p).0 e)) (λ e. inr ((a.says x q).0 e)),
    ⊎_elim (λ e. inl ((a.says x p).1 e)) (λ e. inr ((a.says x q).1 e)),
  )

  alike_merged : (p q : ℕ) → Alike (merged R p q) (merge L p q)
  alike_merged p q = record {
    says = λ x y.
        let r = (merged_merges R p q).when x y in
        let l = (merge_merges L p q).when x y in
        let i = alike_either p q x in
        let j = alike_either p q y in (
          λ e. l.1 (⊎_elim (λ s. inl ((a.says x y).0 s)) (λ s. inr (i.0 s.0, j.0 s.1)) (r.0 e)),
          λ e. r.1 (⊎_elim (λ s. inl ((a.says x y).1 s)) (λ s. inr (i.1 s.0, j.1 s.1)) (l.0 e)),
        );
  }

  alike_test : (x y : ℕ) → eqb (R x) (R y) ≡ eqb (L x) (L y)
  alike_test x y =
      by_cases (ℕ_discrete (R x) (R y))
      (λ e. eq-eqb (R x) (R y) e ∙ sym (eq-eqb (L x) (L y) ((a.says x y).0 e)))
      (λ n. ne_eqb (R x) (R y) n ∙ sym (ne_eqb (L x) (L y) (λ e. n ((a.says x y).1 e))))

module _ (k : ℕ) (kind : k < 2) where
  alike_rejoin : {R L : ℕ → ℕ} → Alike R L → (h : ℕ) → Alike (rejoin k R h) (relabel (kind_of k) L h)
  unfolding rejoin relabel lead_of
  alike_rejoin {R} {L} a h = rw (kind_same k kind h) (go (eqb (h % 2) k))
    where
      go : (b : Bool) → Alike (if b then merged R (h / 2) (partner (h / 2)) else R) (if b then merge L (h / 2) (partner (h / 2)) else L)
      go true = alike_merged a (h / 2) (partner (h / 2))
      go false = a

  pub replay_alike : {R L : ℕ → ℕ} → Alike R L → (hs : List ℕ) → replayed k R hs ≡ replays (kind_of k) L hs
  unfolding replayed replays parted lead_of
  replay_alike a [] = refl
  replay_alike {R} {L} a (h ∷ hs) =
      rw (kind_same k kind h, alike_test a (h / 2) (partner (h / 2)), replay_alike {R = rejoin k R h} (alike_rejoin a h) hs) refl

  pub rejoined_alike : {R L : ℕ → ℕ} → Alike R L → (hs : List ℕ) → Alike (rejoined k R hs) (relabelled (kind_of k) L hs)
  unfolding rejoined relabelled
  rejoined_alike a [] = a
  rejoined_alike {R = R} {L = L} a (h ∷ hs) = rejoined_alike {R = rejoin k R h} (alike_rejoin a h) hs
