-- The history has room: no edge is taken twice, so that there are at most D/2 operations.
use mathlib.Core.List.{List, [], ◌∷◌}
use mathlib.Core.Logic.{◌≢◌, inl, inr}
use mathlib.Core.Path.{◌≡◌}
use Prim.Native.Nat.{ℕ, zero, suc, ◌/◌, ◌%◌, ◌≤◌, ◌<◌}
use native.Mathlib.Decide.{dec_lt}
use native.Mathlib.Nat.{not-suc-le-zero, le_of_suc-le-suc}
use native.Mathlib.Omega.{arith}
use lib.Dec.{T, eqb, T_not}
use lib.ListN.{length, get_or}
use Rattle.permutations.specs.Choice.{eqb_iff, or_intro}
use Rattle.permutations.specs.Pigeonhole.{pigeonhole}
use Rattle.darts.specs.Map.{gone, survives}
use Rattle.darts.specs.Operation.{lead_of}
use Rattle.darts.specs.State.{State}
use Rattle.darts.specs.Pyramid.{Pyramid}
use Rattle.laws.proofs.bridge.Standing.{live_iff}
use Rattle.darts.specs.Tests.{numbered}
use Rattle.laws.proofs.tests.Fits.{numbered_iff}
use Rattle.laws.proofs.tests.Passes.{pyramid_shaped}

-- the edge of each number in the past is gone
pub gone_at : (past : List ℕ) (i x : ℕ) → i < length past → get_or past i 0 / 4 ≡ x / 2 → T (gone past x)
unfolding gone
gone_at [] i x b e = absurd (not-suc-le-zero b)
gone_at (h ∷ past) zero x b e = or_intro (eqb (h / 4) (x / 2)) (gone past x) (inl ((eqb_iff (h / 4) (x / 2)).1 e))
gone_at (h ∷ past) (suc i) x b e = or_intro (eqb (h / 4) (x / 2)) (gone past x) (inr (gone_at past i x (le_of_suc-le-suc b) e))

module _ (D : ℕ) (even : D % 2 ≡ 0) where
  edge_below : (past : List ℕ) → T (numbered D past) → (i : ℕ) → i < length past → get_or past i 0 / 4 < D / 2
  unfolding lead_of
  edge_below [] N i b = absurd (not-suc-le-zero b)
  edge_below (h ∷ past) N zero b = let l = ((live_iff D past (h / 2)).0 ((numbered_iff D h past).0 N).0).0 in omega arith
  edge_below (h ∷ past) N (suc i) b = edge_below past ((numbered_iff D h past).0 N).1 i (le_of_suc-le-suc b)

  edges_differ : (past : List ℕ) → T (numbered D past) → (i j : ℕ) → i < j → j < length past → get_or past i 0 / 4 ≢ get_or past j 0 / 4
  unfolding lead_of survives
  edges_differ [] N i j l b e = not-suc-le-zero b
  edges_differ (h ∷ past) N i zero l b e = not-suc-le-zero l
  edges_differ (h ∷ past) N zero (suc j) l b e =
      let stays = ((live_iff D past (h / 2)).0 ((numbered_iff D h past).0 N).0).1 in
      T_not (gone past (h / 2)) stays (gone_at past j (h / 2) (le_of_suc-le-suc b) (omega arith))
  edges_differ (h ∷ past) N (suc i) (suc j) l b e =
      edges_differ past ((numbered_iff D h past).0 N).1 i j (le_of_suc-le-suc l) (le_of_suc-le-suc b) e

  pub numbered_room : (past : List ℕ) → T (numbered D past) → length past ≤ D / 2
  numbered_room past N = go (dec_lt (D / 2) (length past))
    where
      go : Dec (D / 2 < length past) → length past ≤ D / 2
      go (no n) = omega arith
      go (yes b) =
          let c = pigeonhole (D / 2) (λ i. get_or past i 0 / 4) (λ i l. edge_below past N i (omega arith)) in
          absurd (edges_differ past N c.first c.second c.order (omega arith) c.same)

-- A PYRAMID'S HISTORY HAS AT MOST D/2 NUMBERS
pub pyramid_room : {s : State} {t past : List ℕ} → Pyramid s t past → length past ≤ s.darts / 2
pyramid_room {s} {t} {past} P = let Q = (pyramid_shaped P).sound in numbered_room s.darts Q.standing.even past Q.numbers
