-- Labels that say who is on whose cycle, kept through the operations without walking a cycle: what a union-find keeps.
--   Labels live f L   == live numbers have the same label exactly where they are on one cycle of f
--   Either L p q x    == x has the label of p or that of q
--   Merges L M p q    == M gives one label where L does, and where both labels are p's or q's
--   Kept live new p q == what is live now was live before, and is neither p nor q
--   merge L p q       == L, with p's label for q's
use Rattle.std.specs.Prelude.{Bool, ◌↔◌, ◌⊎◌, ◌≢◌, ◌≡◌, ℕ, T, eqb}
use Rattle.std.proofs.Common.{inl, inr, ⊎_elim, sym, ◌∙◌}
use Rattle.std.proofs.Math.Decide.{ℕ_discrete}
use Rattle.permutations.specs.Choice.{pick, eqb_same, eqb_other}
use Rattle.permutations.specs.Splice.{skip}
use Rattle.permutations.specs.Cycle.{Meets}
use Rattle.permutations.specs.Joined.{skip_meets}
use mathlib.Core.Logic.Iff

pub record Labels (live : ℕ → Bool) (f L : ℕ → ℕ) : Type 0 where
  pub says : (x y : ℕ) → T (live x) → T (live y) → (L x ≡ L y) ↔ Meets f x y

abbrev pub Either : (ℕ → ℕ) → ℕ → ℕ → ℕ → Type 0
Either L p q x = (L x ≡ L p) ⊎ (L x ≡ L q)

pub record Merges (L M : ℕ → ℕ) (p q : ℕ) : Type 0 where
  pub when : (x y : ℕ) → (M x ≡ M y) ↔ ((L x ≡ L y) ⊎ (Either L p q x × Either L p q y))

pub record Kept (live new : ℕ → Bool) (p q : ℕ) : Type 0 where
  pub was : (x : ℕ) → T (new x) → T (live x) × (x ≢ p) × (x ≢ q)

-- ---- skip keeps the labels

pub labels_skip : {live new : ℕ → Bool} {f L : ℕ → ℕ} {p q : ℕ} → Kept live new p q → Labels live f L → Labels new (skip f p q) L
labels_skip {f = f} K Λ = record {
  says = λ x y s t.
      let a = K.was x s in
      let b = K.was y t in
      Iff.trans (Λ.says x y a.0 b.0) (Iff.symm (skip_meets f a.1 a.2 b.1 b.2));
}

-- ---- one way to merge

unfoldable pub merge : (ℕ → ℕ) → ℕ → ℕ → ℕ → ℕ
merge L p q x = pick (eqb (L x) (L q)) (L p) (L x)

pub merge_merges : (L : ℕ → ℕ) (p q : ℕ) → Merges L (merge L p q) p q
unfolding merge
merge_merges L p q = record { when = λ x y. go x y (ℕ_discrete (L x) (L q)) (ℕ_discrete (L y) (L q)) }
  where
    go : (x y : ℕ) → Dec (L x ≡ L q) → Dec (L y ≡ L q) → (merge L p q x ≡ merge L p q y) ↔ ((L x ≡ L y) ⊎ (Either L p q x × Either L p q y))
    go x y (yes a) (yes b) = (λ k. inl (a ∙ sym b), λ h. rw (eqb_same a, eqb_same b))
    go x y (yes a) (no b) =
        rw (eqb_same a, eqb_other b)
        (λ k. inr (inr a, inl (sym k)), ⊎_elim (λ h. absurd (b (sym h ∙ a))) (λ h. ⊎_elim sym (λ k. absurd (b k)) h.1))
    go x y (no a) (yes b) =
        rw (eqb_other a, eqb_same b)
        (λ k. inr (inl k, inr b), ⊎_elim (λ h. absurd (a (h ∙ b))) (λ h. ⊎_elim (λ k. k) (λ k. absurd (a k)) h.0))
    go x y (no a) (no b) =
        rw (eqb_other a, eqb_other b)
        (λ k. inl k, ⊎_elim (λ h. h) (λ h. ⊎_elim (λ k. k) (λ k. absurd (a k)) h.0 ∙ sym (⊎_elim (λ k. k) (λ k. absurd (b k)) h.1)))
