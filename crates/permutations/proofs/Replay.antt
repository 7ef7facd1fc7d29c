-- Judging operations by two sets of labels, one for the vertices and one for the faces: no cycle is walked.
--   Labelled m L F == L says who is on whose vertex, F who is on whose face
--   judge m L F l  == the test whether the operations of l are legal, by the labels alone
use mathlib.Core.Bool.{Bool, true, ◌&&◌}
use mathlib.Core.List.{List, [], ◌∷◌}
use mathlib.Core.Logic.{inl, inr, ◌≢◌, ◌↔◌}
use mathlib.Core.Path.{subst, sym, ◌≡◌}
use Prim.Native.Nat.{ℕ}
use lib.Dec.{T, eqb}
use Rattle.permutations.specs.Choice.{eqb_iff, and_iff}
use Rattle.permutations.specs.Partner.{partner}
use Rattle.permutations.specs.Map.{Map, face, Good, contract, partner_small, off_edge, partner_live, remove}
use Rattle.permutations.proofs.MapLemmas.{off_edge_not_end, off_edge_was, good_remove}
use Rattle.permutations.proofs.Dual.{dual, dual_dual, face_contract, remove_by_dual, good_contract, good_dual}
use Rattle.permutations.proofs.Legal.{Contractible, Contract, Removable, Whole, Separate, Op, Remove, AllLegal}
use Rattle.permutations.proofs.LegalLemmas.{dual_contractible}
use Rattle.permutations.proofs.Tests.{separate_test, separate_iff}
use Rattle.permutations.specs.Labels.{Labels, Merges, labels_skip, Kept, merge, merge_merges}
use Rattle.permutations.proofs.LabelsLemmas.{labels_splice}

pub record Labelled (m : Map) (L F : ℕ → ℕ) : Type 0 where
  pub vertex : Labels m.live m.next L
  pub side : Labels m.live (face m) F

-- ---- a legal operation merges the labels of one set, and keeps the others

pub labelled_dual : {D : ℕ} {m : Map} {L F : ℕ → ℕ} → Good D m → Labelled m L F → Labelled (dual m) F L
labelled_dual {D} {m} {L} {F} G Λ = record {
  vertex = Λ.side;
  side = subst (λ n. Labels m.live n.next L) (sym (dual_dual G)) Λ.vertex;
}

pub contract_labelled : {D : ℕ} {m : Map} {L F M : ℕ → ℕ} → Good D m → Labelled m L F → (p : ℕ) → Contractible m p
    → Merges L M p (partner p) → Labelled (contract m p) M F
contract_labelled {D} {m} {L} {F} G Λ p c μ = record {
  vertex =
      labels_splice G.perm (G.small p c.lives) (partner_small G p c.lives) kept Λ.vertex c.lives q μ
      (λ e. c.two ((Λ.vertex.says p (partner p) c.lives q).0 e));
  side = subst (λ f. Labels (off_edge m.live p) f F) (sym (face_contract G p c.lives)) (labels_skip kept Λ.side);
}
  where
    q : T (m.live (partner p))
    q = partner_live G p c.lives

    kept : Kept m.live (off_edge m.live p) p (partner p)
    kept = record {
      was = λ x t. let n = off_edge_not_end m.live t in (off_edge_was m.live p x t, λ e. n (inl e), λ e. n (inr e));
    }

pub remove_labelled : {D : ℕ} {m : Map} {L F M : ℕ → ℕ} → Good D m → Labelled m L F → (p : ℕ) → Removable m p
    → Merges F M p (partner p) → Labelled (remove m p) L M
remove_labelled {D} {m} {L} {F} {M} G Λ p r μ =
    subst (λ n. Labelled n L M) (remove_by_dual G p r.lives)
    (labelled_dual (good_contract (good_dual G) p r.lives) (contract_labelled (good_dual G) (labelled_dual G Λ) p (dual_contractible G p r) μ))

-- ---- one operation, judged by the labels of its two darts

-- f's labels judge the edge of p: two labels and more than the edge in its piece, or one label
module _ {D : ℕ} {m : Map} {f K : ℕ → ℕ} (G : Good D m) (Λ : Labels m.live f K) (p : ℕ) (pl : T (m.live p)) where
  two_labels : K p ≢ K (partner p) → ¬ Whole m p → Separate f m p
  two_labels n w = record { lives = pl; two = λ k. n ((Λ.says p (partner p) pl (partner_live G p pl)).1 k); more = w }

  one_label : K p ≡ K (partner p) → ¬ Separate f m p
  one_label e s = s.two ((Λ.says p (partner p) pl (partner_live G p pl)).0 e)

module _ {D : ℕ} {m : Map} (G : Good D m) {L F : ℕ → ℕ} (Λ : Labelled m L F) (p : ℕ) (pl : T (m.live p)) where
  pub contract_judged : {M : ℕ → ℕ} → L p ≢ L (partner p) → ¬ Whole m p → Merges L M p (partner p) → Contractible m p × Labelled (contract m p) M F
  contract_judged n w μ = let c = two_labels G Λ.vertex p pl n w in (c, contract_labelled G Λ p c μ)

  pub contract_refused : L p ≡ L (partner p) → ¬ Contractible m p
  contract_refused = one_label G Λ.vertex p pl

  pub remove_judged : {M : ℕ → ℕ} → F p ≢ F (partner p) → ¬ Whole m p → Merges F M p (partner p) → Removable m p × Labelled (remove m p) L M
  remove_judged n w μ = let r = two_labels G Λ.side p pl n w in (r, remove_labelled G Λ p r μ)

  pub remove_refused : F p ≡ F (partner p) → ¬ Removable m p
  remove_refused = one_label G Λ.side p pl

-- ---- a whole list

abbrev pub label_test : Map → (ℕ → ℕ) → ℕ → Bool
label_test m K p = separate_test m p (eqb (K p) (K (partner p)))

unfoldable pub judge : Map → (ℕ → ℕ) → (ℕ → ℕ) → List Op → Bool
judge m L F [] = true
judge m L F (Contract p ∷ l) = label_test m L p && judge (contract m p) (merge L p (partner p)) F l
judge m L F (Remove p ∷ l) = label_test m F p && judge (remove m p) L (merge F p (partner p)) l

label_iff : {D : ℕ} {m : Map} {f K : ℕ → ℕ} → Good D m → Labels m.live f K → (p : ℕ) → T (label_test m K p) ↔ Separate f m p
label_iff {D} {m} {f} {K} G Λ p =
    let q = partner p in
    let e = eqb_iff (K p) (K q) in
    separate_iff f m p (eqb (K p) (K q)) (λ t.
    let s = Λ.says p q t (partner_live G p t) in
    (λ k. s.0 (e.0 k), λ k. e.1 (s.1 k)))

-- THE LABELS JUDGE RIGHTLY
pub judge_iff : {D : ℕ} {m : Map} {L F : ℕ → ℕ} → Good D m → Labelled m L F → (l : List Op) → T (judge m L F l) ↔ AllLegal m l
unfolding judge
judge_iff G Λ [] = (λ t. tt, λ t. tt)
judge_iff {D} {m} {L} {F} G Λ (Contract p ∷ l) =
    let M = merge L p (partner p) in
    and_iff (label_test m L p) (judge (contract m p) M F l) (label_iff G Λ.vertex p) (λ c.
    judge_iff {m = contract m p} {L = M} {F = F} (good_contract G p c.lives) (contract_labelled G Λ p c (merge_merges L p (partner p))) l)
judge_iff {D} {m} {L} {F} G Λ (Remove p ∷ l) =
    let M = merge F p (partner p) in
    and_iff (label_test m F p) (judge (remove m p) L M l) (label_iff G Λ.side p) (λ r.
    judge_iff {m = remove m p} {L = L} {F = M} (good_remove G p r.lives) (remove_labelled G Λ p r (merge_merges F p (partner p))) l)
