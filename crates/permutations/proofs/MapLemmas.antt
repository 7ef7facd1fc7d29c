-- What holds of the live darts without an edge, of mates, and of the map with an edge removed.
use Rattle.std.specs.Prelude.{Bool, ◌≡◌, ℕ, T}
use Rattle.std.proofs.Math.Bool.{false, true}
use Rattle.std.proofs.Common.{inl, inr, sym, ◌∙◌, subst}
use Rattle.std.proofs.Math.Path.{refl}
use Rattle.permutations.specs.Choice.{pick}
use Rattle.permutations.specs.Partner.{partner, End, end?}
use Rattle.permutations.specs.Splice.{skip, skip_perm, skip_at, skip_fixed}
use Rattle.permutations.specs.Live.{off, off_other, off_self}
use Rattle.permutations.specs.Map.{Map, Good, mate, off_edge, remove, off_edge_other, mate_gone}
use Rattle.permutations.proofs.PartnerLemmas.{partner_ne, partner_partner, end_partner, partner_end}

-- ---- the live darts without an edge

module _ (live : ℕ → Bool) {p x : ℕ} where
  pub off_edge_end : End p x → off_edge live p x ≡ false
  unfolding off_edge
  off_edge_end (inl e) = off_other (off live p) (λ k. partner_ne p (sym e ∙ k)) ∙ off_self live e
  off_edge_end (inr e) = off_self (off live p) e

  pub off_edge_not_end : T (off_edge live p x) → ¬ (End p x)
  off_edge_not_end t e = subst T (off_edge_end e) t

pub off_edge_was : (live : ℕ → Bool) (p x : ℕ) → T (off_edge live p x) → T (live x)
off_edge_was live p x t = subst T (off_edge_other live (off_edge_not_end live t)) t

-- ---- the partner while it is live

module _ (live : ℕ → Bool) where
  pub mate_mate : ((x : ℕ) → live (partner x) ≡ live x) → (x : ℕ) → mate live (mate live x) ≡ x
  unfolding mate
  mate_mate pairs x = go (live x) refl
    where
      go : (b : Bool) → live x ≡ b → mate live (pick b (partner x) x) ≡ x
      go true e = rw (pairs x, e) (partner_partner x)
      go false e = rw e

module _ (live : ℕ → Bool) {p x : ℕ} where
  pub mate_off_end : End p x → mate (off_edge live p) x ≡ x
  mate_off_end e = mate_gone (off_edge live p) x (λ t. off_edge_not_end live t e)

-- ---- good maps

module _ {D : ℕ} {m : Map} (G : Good D m) where
  -- partners are live together without the edge, too
  pub pairs_off : (p x : ℕ) → off_edge m.live p (partner x) ≡ off_edge m.live p x
  pairs_off p x = go (end? p x)
    where
      go : Dec (End p x) → off_edge m.live p (partner x) ≡ off_edge m.live p x
      go (yes e) = off_edge_end m.live (end_partner e) ∙ sym (off_edge_end m.live e)
      go (no n) = off_edge_other m.live (λ e. n (partner_end e)) ∙ G.pairs x ∙ sym (off_edge_other m.live n)

  pub good_remove : (p : ℕ) → T (m.live p) → Good D (remove m p)
  good_remove p t = record {
    perm = skip_perm G.perm p (partner p);
    gone = λ x n. gone_off x n (end? p x);
    pairs = pairs_off p;
    small = λ x k. G.small x (off_edge_was m.live p x k);
  }
    where
      gone_off : (x : ℕ) → ¬ (T (off_edge m.live p x)) → Dec (End p x) → skip m.next p (partner p) x ≡ x
      gone_off x n (yes e) = skip_at m.next e
      gone_off x n (no k) = skip_fixed m.next p (partner p) x (G.gone x (λ s. n (rw (off_edge_other m.live k) s)))
