-- The numbers that a state stores, as a caller sees them (document 02, request Six).
--   Most s       == s stores at most D vertices and at most D faces
--   pyramid_most == so does every pyramid
--   wrong_judged == a state whose numbers differ from its cycles is judged 4 where the lengths fit
--   Shown s c    == the counts c are done, and they are the numbers that s stores
--   lent_counts  == what a pyramid stores are the counts of the present level
use mathlib.Core.List.{List}
use mathlib.Core.Path.{◌≡◌, refl, sym}
use Prim.Native.Nat.{ℕ, ◌≤◌}
use lib.ListN.{length}
use Rattle.darts.specs.Answers.{done, no_pyramid}
use Rattle.darts.specs.State.{State}
use Rattle.darts.specs.Pyramid.{Pyramid}
use Rattle.darts.specs.Calls.{Counted, table_of, past_of, judged, counts}
use Rattle.darts.proofs.Fitting.{Count, Lengths}
use Rattle.laws.proofs.runs.Ends.{Stores}
use Rattle.laws.proofs.runs.Pyramids.{pyramid_built}
use Rattle.laws.proofs.calls.Judging.{Lent, Judging, uncounted, cramped, other, lent, judging, judged_lent}
use Rattle.laws.proofs.moves.Kept.{vertices_most, faces_most}

pub record Most (s : State) : Type 0 where
  pub vertices : s.vertices ≤ s.darts
  pub faces : s.faces ≤ s.darts

pub pyramid_most : {s : State} {t past : List ℕ} → Pyramid s t past → Most s
pyramid_most {s} {t} {past} P =
    let N = (pyramid_built P).stored in
    record { vertices = rw N.vertices (vertices_most s.darts t past); faces = rw N.faces (faces_most s.darts t past) }

module _ (s : State) (t h w : List ℕ) where
  -- "a state whose numbers differ from the cycles is no pyramid"
  pub wrong_judged : Count s.darts → Lengths s.darts (length t) (length h) (length w) → ¬ (Stores s (table_of s t) (past_of s h)) → judged s t h w ≡ no_pyramid
  wrong_judged C L n = go (judging s t h w)
    where
      go : Judging s t h w → judged s t h w ≡ no_pyramid
      go (uncounted c e) = absurd (c C)
      go (cramped c l e) = absurd (l L)
      go (other c l p e) = e
      go (lent G e) = absurd (n (pyramid_built G.pyramid).stored)

  pub record Shown (c : Counted) : Type 0 where
    pub answer : c.answer ≡ done
    pub vertices : c.counts.vertices ≡ s.vertices
    pub faces : c.counts.faces ≡ s.faces

  -- WHAT A PYRAMID STORES IS WHAT ITS COUNTS SAY
  pub lent_counts : Lent s t h w → Shown (counts s t h w)
  unfolding counts
  lent_counts L = let N = (pyramid_built L.pyramid).stored in rw (judged_lent s t h w L) (record { answer = refl; vertices = sym N.vertices; faces = sym N.faces })
