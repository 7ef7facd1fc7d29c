-- The edges whose end passes a test.
--   picked p a ends == the edges whose end passes the test p, by rising number; the first end is that of edge a
--   has_picked      == which they are
--   distinct_picked == none of them stands there twice
--   ends_as k v      == the end v is one by kind k
--   ending_picked   == the edges that end by a kind are such
use mathlib.Core.Bool.{Bool, true, false, ◌&&◌}
use mathlib.Core.List.{List, [], ◌∷◌}
use mathlib.Core.Logic.{◌↔◌, inl, inr, ⊎_elim}
use mathlib.Core.Path.{◌≡◌, refl, sym, ap, subst}
use Prim.Native.Nat.{ℕ, zero, suc, ◌+◌, ◌<◌}
use native.Mathlib.Omega.{arith}
use lib.Dec.{T, leb}
use lib.ListN.{get_or, length}
use Rattle.permutations.specs.Live.{has}
use Rattle.std.proofs.Common.{if◌then◌else◌}
use Rattle.darts.specs.Operation.{Kind, kind_of}
use Rattle.darts.specs.Tests.{same_kind}
use Rattle.ends.specs.Ends.{level_of, ending_from, ending}
use Rattle.ends.proofs.Members.{Distinct, has_none, has_cons}

unfoldable pub picked : (ℕ → Bool) → ℕ → List ℕ → List ℕ
picked p a [] = []
picked p a (v ∷ ends) = if p v then a ∷ picked p (suc a) ends else picked p (suc a) ends

module _ (p : ℕ → Bool) where
  -- edge a + i, of the end at place i, is picked
  picks : (a : ℕ) (ends : List ℕ) (i : ℕ) → i < length ends → T (p (get_or ends i 0)) → T (has (picked p a ends) (a + i))
  unfolding picked
  picks a [] i l h = absurd (omega arith)
  picks a (v ∷ ends) zero l h = go (p v) h
    where
      go : (b : Bool) → T b → T (has (if b then a ∷ picked p (suc a) ends else picked p (suc a) ends) (a + 0))
      go true h = (has_cons a (picked p (suc a) ends) (a + 0)).1 (inl (omega arith))
      go false h = absurd h
  picks a (v ∷ ends) (suc i) l h = go (p v) (subst (λ e. T (has (picked p (suc a) ends) e)) (omega arith) (picks (suc a) ends i (omega arith) h))
    where
      go : (b : Bool) → T (has (picked p (suc a) ends) (a + suc i))
          → T (has (if b then a ∷ picked p (suc a) ends else picked p (suc a) ends) (a + suc i))
      go true k = (has_cons a (picked p (suc a) ends) (a + suc i)).1 (inr k)
      go false k = k

  -- what is picked is some edge a + i, of an end that passes
  record Place (a : ℕ) (ends : List ℕ) (e : ℕ) : Type 0 where
    place : ℕ
    edge : e ≡ a + place
    inside : place < length ends
    passes : T (p (get_or ends place 0))

  later : (a v : ℕ) (ends : List ℕ) (e : ℕ) → Place (suc a) ends e → Place a (v ∷ ends) e
  later a v ends e P = record {
    place = suc P.place;
    edge = let k = P.edge in omega arith;
    inside = let k = P.inside in omega arith;
    passes = P.passes;
  }

  place : (a : ℕ) (ends : List ℕ) (e : ℕ) → T (has (picked p a ends) e) → Place a ends e
  unfolding picked
  place a [] e h = absurd (has_none e h)
  place a (v ∷ ends) e h = go (p v) refl (place (suc a) ends e) h
    where
      go : (b : Bool) → p v ≡ b → (T (has (picked p (suc a) ends) e) → Place (suc a) ends e)
          → T (has (if b then a ∷ picked p (suc a) ends else picked p (suc a) ends) e) → Place a (v ∷ ends) e
      go false q rest h = later a v ends e (rest h)
      go true q rest h =
          ⊎_elim (λ (k : e ≡ a). record { place = 0; edge = omega arith; inside = omega arith; passes = subst T (sym q) tt })
          (λ k. later a v ends e (rest k)) ((has_cons a (picked p (suc a) ends) e).0 h)

  pub distinct_picked : (a : ℕ) (ends : List ℕ) → Distinct (picked p a ends)
  unfolding picked
  distinct_picked a [] = tt
  distinct_picked a (v ∷ ends) = go (p v) (distinct_picked (suc a) ends)
    where
      go : (b : Bool) → Distinct (picked p (suc a) ends) → Distinct (if b then a ∷ picked p (suc a) ends else picked p (suc a) ends)
      go true d = (λ h. let k = (place (suc a) ends a h).edge in omega arith, d)
      go false d = d

  -- WHICH EDGES ARE PICKED
  pub has_picked : (ends : List ℕ) (e : ℕ) → T (has (picked p 0 ends) e) ↔ ((e < length ends) × T (p (get_or ends e 0)))
  has_picked ends e = (
    λ h.
        let P = place 0 ends e h in
        let same : P.place ≡ e = let k = P.edge in omega arith in
        (subst (λ i. i < length ends) same P.inside, subst (λ i. T (p (get_or ends i 0))) same P.passes),
    λ h. subst (λ i. T (has (picked p 0 ends) i)) (omega arith) (picks 0 ends e h.0 h.1),
  )

-- ---- the edges that end by a kind

abbrev pub ends_as : Kind → ℕ → Bool
ends_as k v = leb 1 (level_of v) && same_kind k (kind_of v)

from_picked : (k : Kind) (a : ℕ) (ends : List ℕ) → ending_from k a ends ≡ picked (ends_as k) a ends
unfolding ending_from picked
from_picked k a [] = refl
from_picked k a (v ∷ ends) = ap (λ l. if ends_as k v then a ∷ l else l) (from_picked k (suc a) ends)

pub ending_picked : (k : Kind) (ends : List ℕ) → ending k ends ≡ picked (ends_as k) 0 ends
unfolding ending
ending_picked k ends = from_picked k 0 ends
