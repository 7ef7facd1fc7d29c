-- Which operations are legal.
--   Whole m p        == the edge of p is a whole piece
--   Separate f m p   == the edge of p is live, its darts are on two cycles of f, and it is no whole piece
--   Contractible m p == the edge of p may be contracted: its darts are at two vertices
--   Removable m p    == the edge of p may be removed: its darts are on two faces
--   Op               == an operation: Contract p or Remove p, at the edge of p
--   dart a           == the dart p of the operation a
--   after a f        == the permutation f after the operation a: spliced by a contraction, skipped by a removal
--   act m a          == the map after the operation a
--   around m a       == the permutation whose cycles a joins: the successor for a contraction, the face-next for a removal
--   Legal m a        == the operation a may be done in m
--   run m l          == the map after the operations of l, one after another
--   AllLegal m l     == each of them is legal at its turn
use mathlib.Core.List.{List, [], ◌∷◌}
use mathlib.Core.Logic.{◌⊎◌}
use mathlib.Core.Path.{◌≡◌}
use Prim.Native.Nat.{ℕ}
use lib.Dec.{T}
use Rattle.permutations.specs.Partner.{partner}
use Rattle.permutations.specs.Perm.{Perm}
use Rattle.permutations.specs.Splice.{splice, skip}
use Rattle.permutations.specs.Cycle.{Meets}
use Rattle.permutations.specs.Map.{Map, face, off_edge, Good}
use Rattle.permutations.proofs.MapLemmas.{good_remove}
use Rattle.permutations.proofs.Dual.{good_contract, face_perm}

-- "the edge is a whole piece: r = p and s = q, or r = q and s = p"
abbrev pub Whole : Map → ℕ → Type 0
Whole m p = ((m.next p ≡ p) × (m.next (partner p) ≡ partner p)) ⊎ ((m.next p ≡ partner p) × (m.next (partner p) ≡ p))

pub record Separate (f : ℕ → ℕ) (m : Map) (p : ℕ) : Type 0 where
  pub lives : T (m.live p)
  pub two : ¬ Meets f p (partner p)
  pub more : ¬ Whole m p

-- "Contract is refused where p and q share a vertex."
abbrev pub Contractible : Map → ℕ → Type 0
Contractible m p = Separate m.next m p

-- "Remove is refused where p and q share a face."
abbrev pub Removable : Map → ℕ → Type 0
Removable m p = Separate (face m) m p

-- ---- one operation

pub data Op : Type 0 where
  Contract Remove : ℕ → Op

abbrev pub dart : Op → ℕ
dart (Contract p) = p
dart (Remove p) = p

abbrev pub after : Op → (ℕ → ℕ) → ℕ → ℕ
after (Contract p) f = splice f p (partner p)
after (Remove p) f = skip f p (partner p)

abbrev pub act : Map → Op → Map
act m a = record { live = off_edge m.live (dart a); next = after a m.next }

abbrev pub around : Map → Op → ℕ → ℕ
around m (Contract p) = m.next
around m (Remove p) = face m

abbrev pub Legal : Map → Op → Type 0
Legal m a = Separate (around m a) m (dart a)

module _ {D : ℕ} {m : Map} (G : Good D m) where
  pub good_act : (a : Op) → Legal m a → Good D (act m a)
  good_act (Contract p) l = good_contract G p l.lives
  good_act (Remove p) l = good_remove G p l.lives

  pub around_perm : (a : Op) → Perm D (around m a)
  around_perm (Contract p) = G.perm
  around_perm (Remove p) = face_perm G

-- ---- a list of operations

unfoldable pub run : Map → List Op → Map
run m [] = m
run m (a ∷ l) = run (act m a) l

abbrev pub AllLegal : Map → List Op → Type 0
AllLegal m [] = Unit {0}
AllLegal m (a ∷ l) = Legal m a × AllLegal (act m a) l

pub good_run : {D : ℕ} {m : Map} → Good D m → (l : List Op) → AllLegal m l → Good D (run m l)
unfolding run
good_run G [] h = G
good_run {m = m} G (a ∷ l) h = good_run {m = act m a} (good_act G a h.0) l h.1
