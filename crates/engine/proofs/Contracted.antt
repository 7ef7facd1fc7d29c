-- A history of contractions alone: no face has gone, so that the faces are counted at the present level, before anything is taken back.
--   no_removal       == where all are contractions, none is a removal
--   contracted_tried == the contractions replayed on the base are both kinds replayed
--   decided_beside   == the decision is the same, whatever forest stood in the work area
--   contracted_no    == no where an operation does not fit
--   contracted       == the contractions replayed on the base decide
--   contracted_few   == the base has a vertex for each operation
--   contracted_are   == without these it has the present level's vertices; the faces are the present level's
use mathlib.Core.Bool.{Bool, true, false}
use mathlib.Core.List.{List, [], ◌∷◌, reverse-reverse}
use mathlib.Core.Path.{◌≡◌, refl, sym, ap, ◌∙◌}
use Prim.Native.Nat.{ℕ, ◌+◌, ◌-◌, ◌≤◌}
use native.Mathlib.Omega.{arith}
use lib.ListN.{length, length-reverse}
use Rattle.permutations.specs.Choice.{true→T}
use Rattle.darts.specs.Counts.{cycles, counts_of}
use Rattle.darts.specs.Map.{face_next}
use Rattle.darts.specs.Moves.{contractions_in}
use Rattle.darts.specs.Pyramid.{Pyramid}
use Rattle.darts.specs.State.{State, counted}
use Rattle.darts.specs.Tests.{shaped}
use Rattle.laws.proofs.claims.Decided.{pyramid_decided}
use Rattle.laws.proofs.moves.Contractions.{contractions_most, contractions_reverse}
use Rattle.laws.proofs.moves.Kept.{vertices_kept}
use Rattle.laws.proofs.tests.TestsDecide.{base_of}
use Rattle.area.specs.Area.{table_in, past_in, around, tried}
use Rattle.area.specs.Shape.{has_kind, history_in}
use Rattle.area.proofs.OfKind.{has_on}
use Rattle.operations.specs.Back.{backs}
use Rattle.operations.specs.Count.{roots_in}
use Rattle.operations.specs.Cycles.{Labelled}
use Rattle.operations.specs.Trees.{Outside}
use Rattle.operations.proofs.Outside.{outside_trans}
use Rattle.engine.specs.Held.{Area}
use Rattle.engine.specs.Checks.{KindTried, BothTried, Decided}
use Rattle.engine.specs.Counted.{CyclesAre}
use Rattle.engine.proofs.Beside.{beside_table, beside_past, beside_rooted}
use Rattle.engine.proofs.Counts.{roots_cycles, labelled_area, cycles_are}
use Rattle.engine.proofs.Decides.{count, history, back_no, all_taken, base, decided}
use Rattle.engine.proofs.Tries.{outside_back, outside_history, kind_passed, both_yes}

-- ---- nothing of the other kind

no_removal : (hs : List ℕ) → contractions_in hs ≡ length hs → has_kind 0 hs ≡ false
unfolding contractions_in has_kind
no_removal [] all = refl
no_removal (h ∷ hs) all = let most = contractions_most hs in has_on 0 h hs (λ e. omega arith) ∙ no_removal hs (omega arith)

contracted_tried : {D n : ℕ} {w w' : List ℕ} {r : Bool} → Area D 0 w → has_kind 0 (history_in D n w) ≡ false → KindTried D n 1 1 w w' r
    → BothTried D n 1 w w' r
contracted_tried A none K = both_yes (omega arith) (λ _. refl) (kind_passed A (λ e. omega (arith, e)) none) refl K

-- ---- with another forest

decided_beside : {s : State} {coming : ℕ} {w u w' : List ℕ} {r : Bool} → Outside s.darts w u → Decided s coming u w' r → Decided s coming w w' r
decided_beside {s} o δ = record {
  answer = rw (beside_table o, beside_past o s.operations) at δ.answer;
  size = δ.size ∙ o.size;
  rest = δ.rest ∙ o.rest;
  falls = δ.falls;
  roots = λ e b. beside_rooted (outside_back o) _ _ (δ.roots e b);
  kept = λ e none. outside_trans o (δ.kept e none);
}

-- ---- the decision, with the faces labelled first

module _ (s : State) {w u : List ℕ} (A : Area s.darts s.operations w) (L : Labelled s.darts 0 w u) {b : Bool} {v : List ℕ}
    (back : tried b v ≡ backs s.darts u s.operations s.operations) where
  abbrev D : ℕ
  D = s.darts

  abbrev n : ℕ
  n = s.operations

  abbrev t : List ℕ
  t = table_in D w

  abbrev past : List ℕ
  past = past_in D n w

  U : Area D n u
  U = labelled_area A (omega arith) L

  pub contracted_no : b ≡ false → Decided s 1 w v false
  contracted_no e = decided_beside L.outside (back_no s U back e)

  module _ (fine : b ≡ true) (shape : shaped s (history_in D n w) ≡ true) (all : contractions_in (history_in D n w) ≡ n) {w' : List ℕ} {r : Bool}
      (K : KindTried D n 1 1 v w' r) where
    none : has_kind 0 (history_in D n v) ≡ false
    none =
        rw (history s U back, beside_past L.outside n, reverse-reverse (history_in D n w))
        (no_removal (history_in D n w) (all ∙ sym (count s A) ∙ length-reverse (history_in D n w)))

    -- THE CONTRACTIONS REPLAYED ON THE BASE DECIDE
    pub contracted : Decided s 1 w w' r
    contracted =
        let shape_u : shaped s (history_in D n u) ≡ true = ap (shaped s) (outside_history n L.outside) ∙ shape in
        decided_beside L.outside (decided s U back fine (sym shape_u) refl (contracted_tried (all_taken s U back fine).0 none K))

    module _ (yes_decided : r ≡ true) {c : ℕ} (base_has : c ≡ cycles (around 1 (table_in D v)) D [] D) where
      pyramid : Pyramid (counted s t past) t past
      pyramid = (pyramid_decided (counted s t past) t past).0 (true→T (sym contracted.answer ∙ yes_decided))

      vertices : (counts_of D t past).vertices + n ≡ c
      unfolding around counts_of
      vertices =
          let all_past : contractions_in past ≡ n = contractions_reverse (history_in D n w) ∙ all in
          let base_w : table_in D v ≡ base_of s t past = rw (beside_table L.outside, beside_past L.outside n) at (base s U back fine) in
          rw all_past at (vertices_kept pyramid) ∙ sym (rw base_w at base_has)

      pub contracted_few : n ≤ c
      contracted_few = omega (arith, vertices)

      -- THE BASE'S VERTICES, LESS ONE FOR EACH OPERATION, AND THE FACES OF THE PRESENT LEVEL
      pub contracted_are : {f : ℕ} → f ≡ roots_in D u D → CyclesAre D t past (c - n) f
      unfolding around face_next counts_of
      contracted_are F = cycles_are (omega (arith, vertices)) (F ∙ roots_cycles A (omega arith) L)
