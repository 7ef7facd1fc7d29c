-- Splice merges two labels.
use Rattle.std.specs.Prelude.{Bool, ◌↔◌, ◌≢◌, ℕ, ◌<◌, T}
use mathlib.Core.Logic.Iff
use Rattle.permutations.specs.Choice.{⊎_iff}
use Rattle.permutations.specs.Perm.{Perm}
use Rattle.permutations.specs.Splice.{splice}
use Rattle.permutations.specs.Joined.{On}
use Rattle.permutations.specs.Labels.{Labels, Either, Merges, Kept}
use Rattle.permutations.proofs.JoinedLemmas.{splice_meets}

module _ {D : ℕ} {live new : ℕ → Bool} {f L : ℕ → ℕ} {p q : ℕ} (π : Perm D f) (p_d : p < D) (q_d : q < D)
    (K : Kept live new p q) (Λ : Labels live f L) (pl : T (live p)) (ql : T (live q)) where
  either_iff : (x : ℕ) → T (live x) → Either L p q x ↔ On f p q x
  either_iff x t = ⊎_iff (Λ.says x p t pl) (Λ.says x q t ql)

  -- p and q have two labels, so splice joins two cycles, and the merged labels say who is on whose
  pub labels_splice : {M : ℕ → ℕ} → Merges L M p q → L p ≢ L q → Labels new (splice f p q) M
  labels_splice {M} μ n = record {
    says = λ x y s t.
        let a = K.was x s in
        let b = K.was y t in
        let joined = ⊎_iff (Λ.says x y a.0 b.0) (Iff.and (either_iff x a.0) (either_iff y b.0)) in
        let spliced = splice_meets π p q p_d q_d (λ m. n ((Λ.says p q pl ql).1 m)) a.1 a.2 b.1 b.2 in
        Iff.trans (μ.when x y) (Iff.trans joined (Iff.symm spliced));
  }
