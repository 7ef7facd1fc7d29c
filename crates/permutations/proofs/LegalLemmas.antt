-- An edge that may be removed may be contracted in the dual.
use Rattle.std.specs.Prelude.{ℕ, T}
use Rattle.std.proofs.Common.{inl, inr, ⊎_elim, sym, ◌∙◌}
use Rattle.permutations.specs.Map.{Map, Good}
use Rattle.permutations.proofs.Dual.{dual, face_at, face_partner}
use Rattle.permutations.proofs.Legal.{Whole, Removable, Contractible}

module _ {D : ℕ} {m : Map} (G : Good D m) (p : ℕ) where
  -- the dual has the same edges for whole pieces
  pub whole_dual : T (m.live p) → Whole (dual m) p → Whole m p
  whole_dual t =
      let a = sym (face_at G p t) in
      let b = sym (face_partner G p t) in
      ⊎_elim (λ h. inr (b ∙ h.1, a ∙ h.0)) (λ h. inl (b ∙ h.1, a ∙ h.0))

  pub dual_contractible : Removable m p → Contractible (dual m) p
  dual_contractible r = record { lives = r.lives; two = r.two; more = λ w. r.more (whole_dual r.lives w) }
