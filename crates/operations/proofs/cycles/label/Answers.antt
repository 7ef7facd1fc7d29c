-- `operations::cycles::label` meets its contract: a fresh forest is a start, and making it changes no step.
use mathlib.Core.List.{List}
use mathlib.Core.Path.{◌≡◌, sym, subst}
use Prim.Native.Nat.{ℕ}
use lib.ListN.{length}
use Rattle.permutations.specs.Perm.{Perm}
use Rattle.permutations.specs.Cycle.{Meets}
use Rattle.darts.specs.Kinds.{bit}
use Rattle.forest.specs.Forest.{Fresh}
use Rattle.forest.specs.Lowest.{Lowest}
use Rattle.area.specs.Area.{Room, forest_in}
use Rattle.operations.specs.Trees.{Outside}
use Rattle.operations.specs.Cycles.{step_in, Labelled}
use Rattle.operations.proofs.Outside.{outside_trans, forest_length}
use Rattle.operations.proofs.Lent.{lent, lent_outside, lent_forest}
use Rattle.operations.proofs.Steps.{outside_step}
use Rattle.operations.proofs.cycles.label.Goals as goal

module _ {D : ℕ} (k : ℕ) {w : List ℕ} (room : Room D w) {t : List ℕ} (fresh : Fresh (length (forest_in D w)) t) where
  outside : Outside D w (lent D w t)
  outside = lent_outside room t fresh.size

  steps : step_in D k (lent D w t) ≡ step_in D k w
  steps = outside_step outside room k

  start_perm : Perm D (step_in D k w) → Perm D (step_in D k (lent D w t))
  start_perm π = subst (Perm D) (sym steps) π

  start_fresh : Fresh D (forest_in D (lent D w t))
  start_fresh = rw (lent_forest room t fresh.size) (subst (λ n. Fresh n t) (forest_length D w room.fits) fresh)

  labelled : {w' : List ℕ} → Labelled D k (lent D w t) w' → Labelled D k w w'
  labelled {w'} l =
      record {
        outside = outside_trans outside l.outside;
        lowest = subst (λ f. Lowest (Meets f) D D (forest_in D w')) steps l.lowest;
      }

pub label_cycles-requires-clause-perm : goal.label_cycles-requires-clause-perm
label_cycles-requires-clause-perm c = start_perm _ c.requires.room c.fresh.ensures c.requires.perm

pub label_cycles-requires-clause-fresh : goal.label_cycles-requires-clause-fresh
label_cycles-requires-clause-fresh c = start_fresh (bit c.args.kind) c.requires.room c.fresh.ensures

pub returns-clause-labelled : goal.returns-clause-labelled
returns-clause-labelled c = labelled _ c.requires.room c.fresh.ensures c.label_cycles.ensures.labelled
