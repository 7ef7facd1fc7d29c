-- Counts taken from the forest of the cycles: each cycle has one tree, whose root is its lowest dart.
--   roots_cycles  == the roots are as many as the cycles: faces where k is 0, vertices where k is 1
--   labelled_area == labelling keeps the map
--   cycles_are    == the numbers of vertices and faces, of which there are at most as many as darts
--   kind_counted  == so the cycles of one kind are counted at the base
--   base_counted  == and both kinds are
--   both_counted, both_counted_back == one after the other
use mathlib.Core.Bool.{Bool, ◌&&◌}
use mathlib.Core.List.{List, []}
use mathlib.Core.Logic.Iff
use mathlib.Core.Logic.{◌↔◌}
use mathlib.Core.Path.{◌≡◌, refl, ap, ◌∙◌}
use Prim.Native.Nat.{ℕ, zero, suc, ◌+◌, ◌*◌, ◌≤◌, ◌<◌}
use native.Mathlib.Decide.{dec_lt}
use native.Mathlib.Omega.{arith}
use lib.Dec.{T, eqb}
use lib.ListN.{get_or}
use Rattle.permutations.specs.Choice.{T-ext, eqb_iff, and_iff}
use Rattle.permutations.specs.Cycle.{Meets}
use Rattle.permutations.specs.Partner.{partner}
use Rattle.permutations.proofs.PartnerLemmas.{partner_below}
use Rattle.permutations.specs.Map.{next_live}
use Rattle.darts.specs.Map.{face_next, survives, live}
use Rattle.darts.specs.Operation.{kind_of}
use Rattle.darts.specs.Counts.{lowest, cycles, counts_of}
use Rattle.laws.proofs.bridge.Standing.{live_iff}
use Rattle.laws.proofs.moves.Kept.{vertices_most, faces_most}
use Rattle.forest.specs.Forest.{parent}
use Rattle.forest.specs.Lowest.{Lowest}
use Rattle.area.specs.Area.{there, table_in, past_in, forest_in, around}
use Rattle.operations.specs.Count.{roots_in}
use Rattle.operations.specs.Cycles.{step_in, Labelled}
use Rattle.operations.specs.Trees.{Outside}
use Rattle.operations.proofs.Outside.{outside_there, forest_at}
use Rattle.engine.specs.Counted.{CyclesAre}
use Rattle.engine.specs.Held.{Area}
use Rattle.engine.proofs.Area.{there_live}
use Rattle.engine.proofs.Around.{ring_good, around_next, step_ring, step_perm}
use Rattle.engine.proofs.Beside.{beside_area, beside_table}
use Rattle.laws.proofs.bridge.Least.{Least, lowest_least, lowest_same}
use Rattle.engine.proofs.Parts.{successor_in, past_none}

-- ---- the lowest of a class is its own parent

own_least : {D : ℕ} {f : ℕ → ℕ} {t : List ℕ} → Lowest (Meets f) D D t → (x : ℕ) → x < D → (parent t x ≡ x) ↔ Least f x
own_least {D} {f} {t} L x h = (
  λ e y m. go y m e (dec_lt y D),
  λ least. let l = least (parent t x) (L.member x h) in let d = L.down x h in omega arith,
)
  where
    go : (y : ℕ) → Meets f x y → parent t x ≡ x → Dec (y < D) → x ≤ y
    go y m e (yes l) = let i = L.low x y h l m in omega arith
    go y m e (no n) = omega arith

-- ---- one tree for each cycle

module _ {D n k : ℕ} {w v : List ℕ} (A : Area D n w) (kind : k ≤ 1) (L : Labelled D k w v) where
  abbrev past : List ℕ
  past = past_in D n w

  abbrev next : ℕ → ℕ
  next = around k (table_in D w)

  small : (x : ℕ) → T (live D past x) → x < D
  small x h = ((live_iff D past x).0 h).0

  next_step : (x : ℕ) → T (live D past x) → next x ≡ step_in D k w x
  unfolding around
  next_step x h =
      rw (step_ring A k kind, successor_in D w x (small x h), successor_in D w (partner x) (partner_below D x (small x h) A.room.even))
      (around_next A k kind x h)

  step_live : (x : ℕ) → T (live D past x) → T (live D past (step_in D k w x))
  step_live x h = rw (step_ring A k kind) (next_live (ring_good A.stands.good (kind_of k)) x h)

  own_lowest : (x : ℕ) → T (live D past x) → T (eqb (get_or v (2 * D + x) 0) x) ↔ T (lowest next D x)
  own_lowest x h =
      rw (← (forest_at D v x (small x h)), lowest_same (λ y. T (live D past y)) next (step_in D k w) next_step step_live D x h)
      (Iff.trans (eqb_iff (parent (forest_in D v) x) x)
      (Iff.trans (own_least L.lowest x (small x h)) (Iff.symm (lowest_least (step_perm A k kind) x))))

  root_lowest : (x : ℕ) → x < D → (there D v x && eqb (get_or v (2 * D + x) 0) x) ≡ (survives past x && lowest next D x)
  root_lowest x h =
      rw (outside_there L.outside x h, there_live A x h)
      (T-ext (live D past x && own) (survives past x && least) (λ t. lowers.1 (roots.0 t)) (λ t. roots.1 (lowers.0 t)))
    where
      own : Bool
      own = eqb (get_or v (2 * D + x) 0) x

      least : Bool
      least = lowest next D x

      alive : T (survives past x) ↔ T (live D past x)
      alive = (λ s. (live_iff D past x).1 (h, s), λ l. ((live_iff D past x).0 l).1)

      roots : T (live D past x && own) ↔ (T (live D past x) × T least)
      roots = and_iff (live D past x) own Iff.rfl (own_lowest x)

      lowers : T (survives past x && least) ↔ (T (live D past x) × T least)
      lowers = and_iff (survives past x) least alive (λ l. Iff.rfl)

  roots_below : (m : ℕ) → m ≤ D → roots_in D v m ≡ cycles next D past m
  unfolding roots_in cycles
  roots_below zero h = refl
  roots_below (suc m) h = rw (root_lowest m (omega arith), roots_below m (omega arith))

  -- THE ROOTS ARE AS MANY AS THE CYCLES
  pub roots_cycles : roots_in D v D ≡ cycles next D past D
  roots_cycles = roots_below D (omega arith)

  -- LABELLING KEEPS THE MAP
  pub labelled_area : Area D n v
  labelled_area = beside_area L.outside A

-- THERE ARE AT MOST AS MANY CYCLES AS DARTS
pub cycles_are : {D v f : ℕ} {t past : List ℕ} → v ≡ (counts_of D t past).vertices → f ≡ (counts_of D t past).faces → CyclesAre D t past v f
cycles_are {D} {t = t} {past = past} i j =
    record { vertices = i; faces = j; few_vertices = rw i (vertices_most D t past); few_faces = rw j (faces_most D t past) }

-- ---- at the base

-- THE CYCLES OF ONE KIND ARE COUNTED WHILE THEY ARE LABELLED
pub kind_counted : {D k : ℕ} {w v : List ℕ} → Area D 0 w → k ≤ 1 → Labelled D k w v → {r : ℕ} → r ≡ roots_in D v D
    → r ≡ cycles (around k (table_in D w)) D [] D
kind_counted {D} {k} {w} A kind L e = rw (past_none D w) at (e ∙ roots_cycles A kind L)

-- VERTICES AND FACES ARE COUNTED
pub base_counted : {D v f : ℕ} (t : List ℕ) → v ≡ cycles (around 1 t) D [] D → f ≡ cycles (around 0 t) D [] D → CyclesAre D t [] v f
unfolding around face_next counts_of
base_counted t i j = cycles_are i j

-- one kind after the other, of which the second finds the same base
module _ {D : ℕ} {w v : List ℕ} (o : Outside D w v) where
  same : (k : ℕ) → cycles (around k (table_in D v)) D [] D ≡ cycles (around k (table_in D w)) D [] D
  same k = ap (λ t. cycles (around k t) D [] D) (beside_table o)

  pub both_counted : {x y : ℕ} → y ≡ cycles (around 0 (table_in D w)) D [] D → x ≡ cycles (around 1 (table_in D v)) D [] D → CyclesAre D (table_in D w) [] x y
  both_counted i j = base_counted (table_in D w) (j ∙ same 1) i

  pub both_counted_back : {x y : ℕ} → y ≡ cycles (around 1 (table_in D w)) D [] D → x ≡ cycles (around 0 (table_in D v)) D [] D
      → CyclesAre D (table_in D w) [] y x
  both_counted_back i j = base_counted (table_in D w) i (j ∙ same 0)
