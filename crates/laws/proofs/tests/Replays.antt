-- Tests 16 and 17: labels, merged along the history, say which operations are legal at their turn.
--   Trail D t past              == each operation of the past can be undone, and done again
--   Allowed D t past            == each operation of the past is legal at its turn, which is once the later ones are undone
--   Replayed D t past hs Lv Lf  == labels that are right for the base tell whether that is so, and are then, merged, right at the top
use mathlib.Core.Bool.{Bool, true, false, ◌||◌, ◌&&◌, not, and-true, and_assoc}
use mathlib.Core.List.{List, [], ◌∷◌, ◌++◌, reverse, reverse-cons}
use mathlib.Core.Logic.Iff
use mathlib.Core.Logic.{◌↔◌, ◌⊎◌, inl, inr, ⊎_elim, ⊎_swap}
use mathlib.Core.Path.{◌≡◌, refl, sym, ap, ◌∙◌, subst, subst₂}
use Prim.Native.Nat.{ℕ, ◌*◌, ◌/◌}
use native.Mathlib.Omega.{arith}
use lib.Dec.{T, eqb}
use lib.ListN.{length}
use Rattle.permutations.specs.Choice.{pick, eqb_iff, and_left, and_right, not_iff}
use Rattle.permutations.specs.Partner.{partner}
use Rattle.permutations.proofs.PartnerLemmas.{partner_cases, partner_partner}
use Rattle.permutations.specs.Cycle.{Meets}
use Rattle.permutations.specs.Map.{Map, Good, partner_live}
use Rattle.permutations.proofs.Legal.{Legal, Separate, act, Whole}
use Rattle.permutations.specs.Labels.{Labels, Merges, merge, merge_merges}
use Rattle.permutations.proofs.Replay.{Labelled, contract_labelled, remove_labelled}
use Rattle.darts.specs.Operation.{Kind, contraction, removal, kind_of, lead_of, edge_of, undo_one, undone}
use Rattle.darts.specs.Kernel.{judge}
use Rattle.laws.specs.Standing.{map_of, Standing}
use Rattle.laws.proofs.bridge.Standing.{op_of}
use Rattle.laws.proofs.bridge.Judged.{judge_legal}
use Rattle.laws.proofs.bridge.Operate.{operate_acts}
use Rattle.darts.specs.Tests.{numbered, fits, backs, same_kind, relabel, relabelled, parted, replays}
use Rattle.laws.proofs.tests.Fits.{numbered_iff}
use Rattle.laws.proofs.tests.Back.{Redo, fits_redo}

-- ---- one operation more, at the end

module _ (k : Kind) where
  relabelled_last : (L : ℕ → ℕ) (hs : List ℕ) (h : ℕ) → relabelled k L (hs ++ (h ∷ [])) ≡ relabel k (relabelled k L hs) h
  unfolding relabelled
  relabelled_last L [] h = refl
  relabelled_last L (g ∷ hs) h = relabelled_last (relabel k L g) hs h

  replays_last : (L : ℕ → ℕ) (hs : List ℕ) (h : ℕ) → replays k L (hs ++ (h ∷ [])) ≡ (replays k L hs && parted k (relabelled k L hs) h)
  unfolding replays relabelled
  replays_last L [] h = and-true (parted k L h)
  replays_last L (g ∷ hs) h =
      let M = relabel k L g in
      ap (◌&&◌ (parted k L g)) (replays_last M hs h) ∙ sym (and_assoc (parted k L g) (replays k M hs) (parted k (relabelled k M hs) h))

-- ---- the labels at one operation

-- x is either dart of p's edge
module _ {p x : ℕ} (end : (x ≡ p) ⊎ (x ≡ partner p)) (L : ℕ → ℕ) where
  labels_end : (L p ≡ L (partner p)) ↔ (L x ≡ L (partner x))
  labels_end = go end
    where
      go : (x ≡ p) ⊎ (x ≡ partner p) → (L p ≡ L (partner p)) ↔ (L x ≡ L (partner x))
      go (inl e) = rw e Iff.rfl
      go (inr e) = rw (e, partner_partner p) (sym, sym)

  merges_end : Merges L (merge L p (partner p)) x (partner x)
  merges_end = go end
    where
      go : (x ≡ p) ⊎ (x ≡ partner p) → Merges L (merge L p (partner p)) x (partner x)
      go (inl e) = rw e (merge_merges L p (partner p))
      go (inr e) = rw (e, partner_partner p) (record {
        when = λ y z. let i = (merge_merges L p (partner p)).when y z in (
          λ k. ⊎_elim inl (λ b. inr (⊎_swap b.0, ⊎_swap b.1)) (i.0 k),
          λ k. i.1 (⊎_elim inl (λ b. inr (⊎_swap b.0, ⊎_swap b.1)) k),
        );
      })

-- the labels of p and of its partner differ
abbrev differ : (ℕ → ℕ) → ℕ → Bool
differ L p = not (eqb (L p) (L (partner p)))

module _ {D : ℕ} {m : Map} (G : Good D m) {Lv Lf : ℕ → ℕ} (Λ : Labelled m Lv Lf)
    (h : ℕ) (lives : T (m.live (2 * edge_of h))) (more : ¬ Whole m (2 * edge_of h)) where
  abbrev p : ℕ
  p = lead_of h

  abbrev x : ℕ
  x = 2 * edge_of h

  x_end : (x ≡ p) ⊎ (x ≡ partner p)
  unfolding edge_of lead_of
  x_end = ⊎_elim (λ c. inl (omega arith)) (λ c. inr (omega arith)) (partner_cases (h / 2))

  differ_separate : {f L : ℕ → ℕ} → Labels m.live f L → T (differ L p) ↔ Separate f m x
  differ_separate {f} {L} Λ = (λ t. record { lives = lives; two = two.0 t; more = more }, λ s. two.1 s.two)
    where
      same : (L p ≡ L (partner p)) ↔ Meets f x (partner x)
      same = Iff.trans (labels_end x_end L) (Λ.says x (partner x) lives (partner_live G x lives))

      two : T (differ L p) ↔ (¬ Meets f x (partner x))
      two = not_iff (eqb (L p) (L (partner p))) (Iff.trans (eqb_iff (L p) (L (partner p))) same)

  -- the labels of its kind tell whether the operation is legal; those of the other kind say nothing
  parted_legal : (T (parted contraction Lv h) × T (parted removal Lf h)) ↔ Legal m (op_of (kind_of h) x)
  unfolding parted same_kind
  parted_legal = go (kind_of h)
    where
      go : (k : Kind) → (T (not (same_kind contraction k) || differ Lv p) × T (not (same_kind removal k) || differ Lf p)) ↔ Legal m (op_of k x)
      go contraction = let i = differ_separate Λ.vertex in (λ t. i.0 t.0, λ l. (i.1 l, tt))
      go removal = let i = differ_separate Λ.side in (λ t. i.0 t.1, λ l. (tt, i.1 l))

  -- a legal operation merges the labels of its kind, and keeps the others
  relabel_right : Legal m (op_of (kind_of h) x) → Labelled (act m (op_of (kind_of h) x)) (relabel contraction Lv h) (relabel removal Lf h)
  unfolding relabel same_kind
  relabel_right = go (kind_of h)
    where
      go : (k : Kind) → Legal m (op_of k x)
          → Labelled (act m (op_of k x)) (pick (same_kind contraction k) (merge Lv p (partner p)) Lv) (pick (same_kind removal k) (merge Lf p (partner p)) Lf)
      go contraction l = contract_labelled G Λ x l (merges_end x_end Lv)
      go removal l = remove_labelled G Λ x l (merges_end x_end Lf)

-- ---- back through the whole past

abbrev pub Trail : ℕ → List ℕ → List ℕ → Type 0
Trail D t [] = Unit {0}
Trail D t (h ∷ past) = let u : List ℕ = undo_one D t h past in Redo D t h past u × Trail D u past

abbrev pub Allowed : ℕ → List ℕ → List ℕ → Type 0
Allowed D t [] = Unit {0}
Allowed D t (h ∷ past) = let u : List ℕ = undo_one D t h past in Legal (map_of D u past) (op_of (kind_of h) (2 * edge_of h)) × Allowed D u past

-- tests 6 to 15 let everything be undone and done again
pub backs_trail : (D : ℕ) (t past : List ℕ) → Standing D t past → T (numbered D past) → T (backs D t past) → Trail D t past
unfolding backs
backs_trail D t [] S N b = tt
backs_trail D t (h ∷ past) S N b =
    let u = undo_one D t h past in
    let R = fits_redo S N (and_left (fits D t h past) (backs D u past) b) in
    (R, backs_trail D u past R.standing ((numbered_iff D h past).0 N).1 (and_right (fits D t h past) (backs D u past) b))

module _ {D : ℕ} {t : List ℕ} {h : ℕ} {past u : List ℕ} (R : Redo D t h past u)
    (legal : Legal (map_of D u past) (op_of (kind_of h) (2 * edge_of h))) where
  pub redo_fine : judge (kind_of h) D u past (edge_of h) ≡ 0
  redo_fine = (judge_legal R.standing (kind_of h) (edge_of h)).1 legal

  redo_acts : map_of D t (h ∷ past) ≡ act (map_of D u past) (op_of (kind_of h) (2 * edge_of h))
  redo_acts =
      subst₂ (λ w g. map_of D w (g ∷ past) ≡ act (map_of D u past) (op_of (kind_of h) (2 * edge_of h))) R.again R.same
      (operate_acts R.standing (kind_of h) (edge_of h) redo_fine)

-- what tests 16 and 17 tell of a past and its history hs, first operation first
pub record Replayed (D : ℕ) (t past hs : List ℕ) (Lv Lf : ℕ → ℕ) : Type 0 where
  pub tells : (T (replays contraction Lv hs) × T (replays removal Lf hs)) ↔ Allowed D t past
  pub labels : Allowed D t past → Labelled (map_of D t past) (relabelled contraction Lv hs) (relabelled removal Lf hs)

-- two tests and then two more
both_iff : (a b c d : Bool) {A B : Type 0} → (T a × T b) ↔ A → (A → (T c × T d) ↔ B) → (T (a && c) × T (b && d)) ↔ (B × A)
both_iff true true c d i k = (λ t. let x = i.0 (tt, tt) in ((k x).0 t, x), λ y. (k y.1).1 y.0)
both_iff true false c d i k = (λ t. absurd t.1, λ y. absurd (i.1 y.1).1)
both_iff false b c d i k = (λ t. absurd t.0, λ y. absurd (i.1 y.1).0)

module _ {D : ℕ} {t : List ℕ} {h : ℕ} {past hs : List ℕ} {Lv Lf : ℕ → ℕ}
    (R : Redo D t h past (undo_one D t h past)) (before : Replayed D (undo_one D t h past) past hs Lv Lf) where
  replayed_more : Replayed D t (h ∷ past) (hs ++ (h ∷ [])) Lv Lf
  replayed_more = record {
    tells = rw (replays_last contraction Lv hs h, replays_last removal Lf hs h)
        (both_iff (replays contraction Lv hs) (replays removal Lf hs) _ _ before.tells
        (λ a. parted_legal G (before.labels a) h R.lives R.more));
    labels = λ (l, a).
        rw (relabelled_last contraction Lv hs h, relabelled_last removal Lf hs h, redo_acts R l)
        (relabel_right G (before.labels a) h R.lives R.more l);
  }
    where
      G : Good D (map_of D (undo_one D t h past) past)
      G = R.standing.good

-- THE LABELS TELL WHETHER EVERY OPERATION IS LEGAL AT ITS TURN, AND THEN THEY ARE RIGHT AT THE TOP
pub replayed : (D : ℕ) (t past : List ℕ) {Lv Lf : ℕ → ℕ} → Trail D t past
    → Labelled (map_of D (undone D (length past) t past) []) Lv Lf → Replayed D t past (reverse past) Lv Lf
unfolding undone replays relabelled
replayed D t [] trail Λ = record { tells = (λ r. tt, λ a. (tt, tt)); labels = λ a. Λ }
replayed D t (h ∷ past) {Lv} {Lf} trail Λ =
    subst (λ hs. Replayed D t (h ∷ past) hs Lv Lf) (sym (reverse-cons h past))
    (replayed_more trail.0 (replayed D (undo_one D t h past) past trail.1 Λ))
