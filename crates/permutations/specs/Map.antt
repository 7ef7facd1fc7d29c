-- A map: darts in pairs, some of them live, and the successor of each.
--   Map            == which darts are live, and the successor of each dart
--   Good D m       == the live darts are below D and go in pairs; the successor permutes them, and leaves the others where they are
--   mate live x    == x's partner while x is live, x itself when it is gone
--   face m x       == the face-next of x
--   off_edge live p == the live darts without the edge of p
--   contract m p   == m with the edge of p contracted
--   remove m p     == m with the edge of p removed
use Rattle.std.specs.Prelude.{Bool, ◌≡◌, ℕ, ◌<◌, T}
use Rattle.std.proofs.Common.{inl, inr, ap, ◌∙◌}
use Rattle.permutations.specs.Choice.{pick, T→true, not_T→false, T?}
use Rattle.permutations.specs.Partner.{partner, End}
use Rattle.permutations.specs.Perm.{Perm, inj}
use Rattle.permutations.specs.Splice.{splice, skip}
use Rattle.permutations.specs.Live.{off, off_other}

pub record Map : Type 0 where
  pub live : ℕ → Bool
  pub next : ℕ → ℕ

pub record Good (D : ℕ) (m : Map) : Type 0 where
  pub perm : Perm D m.next
  pub gone : (x : ℕ) → ¬ (T (m.live x)) → m.next x ≡ x
  pub pairs : (x : ℕ) → m.live (partner x) ≡ m.live x
  pub small : (x : ℕ) → T (m.live x) → x < D

unfoldable pub mate : (ℕ → Bool) → ℕ → ℕ
mate live x = pick (live x) (partner x) x

-- "The face-next of d is the successor of its partner."
unfoldable pub face : Map → ℕ → ℕ
face m x = m.next (mate m.live x)

unfoldable pub off_edge : (ℕ → Bool) → ℕ → ℕ → Bool
off_edge live p = off (off live p) (partner p)

abbrev pub contract : Map → ℕ → Map
contract m p = record { live = off_edge m.live p; next = splice m.next p (partner p) }

abbrev pub remove : Map → ℕ → Map
remove m p = record { live = off_edge m.live p; next = skip m.next p (partner p) }

pub map_path : {m n : Map} → m.live ≡ n.live → m.next ≡ n.next → m ≡ n
map_path a b = λ i. record { live = a i; next = b i }

-- ---- the live darts without an edge

module _ (live : ℕ → Bool) {p x : ℕ} where
  pub off_edge_other : ¬ (End p x) → off_edge live p x ≡ live x
  unfolding off_edge
  off_edge_other n = off_other (off live p) (λ e. n (inr e)) ∙ off_other live (λ e. n (inl e))

-- ---- the partner while it is live

module _ (live : ℕ → Bool) where
  pub mate_live : (x : ℕ) → T (live x) → mate live x ≡ partner x
  unfolding mate
  mate_live x t = rw (T→true (live x) t)

  pub mate_gone : (x : ℕ) → ¬ (T (live x)) → mate live x ≡ x
  unfolding mate
  mate_gone x n = rw (not_T→false (live x) n)

module _ (live : ℕ → Bool) {p x : ℕ} where
  pub mate_off_other : ¬ (End p x) → mate (off_edge live p) x ≡ mate live x
  unfolding mate
  mate_off_other n = rw (off_edge_other live n)

-- ---- good maps

module _ {D : ℕ} {m : Map} (G : Good D m) where
  pub partner_live : (p : ℕ) → T (m.live p) → T (m.live (partner p))
  partner_live p t = rw (G.pairs p) t

  pub partner_small : (p : ℕ) → T (m.live p) → partner p < D
  partner_small p t = G.small (partner p) (partner_live p t)

  pub next_live : (x : ℕ) → T (m.live x) → T (m.live (m.next x))
  next_live x t = go (T? (m.live (m.next x)))
    where
      go : Dec (T (m.live (m.next x))) → T (m.live (m.next x))
      go (yes k) = k
      go (no n) = rw (ap m.live (inj G.perm (G.gone (m.next x) n))) t
