-- One step back: where the last operation fits, undo gives a table that stands, and doing the operation again gives back every entry and the
-- history number.
--   Redo D t h past u == in the table u, which stands, the operation h is to be done: it leads to t, and its edge is no whole piece
use mathlib.Core.List.{List, ◌∷◌}
use mathlib.Core.Path.{◌≡◌, ap, ◌∙◌, subst}
use Prim.Native.Nat.{ℕ, ◌*◌, ◌/◌, ◌%◌}
use native.Mathlib.Decide.{ℕ_discrete}
use native.Mathlib.Omega.{arith}
use lib.Dec.{T, eqb}
use Rattle.permutations.specs.Choice.{pick, eqb_same, eqb_other}
use Rattle.permutations.specs.Map.{off_edge}
use Rattle.permutations.proofs.Legal.{Whole}
use Rattle.darts.specs.Operation.{Kind, contraction, removal, lead, operate, number, kind_of, lead_of, edge_of, undo_one}
use Rattle.laws.specs.Standing.{map_of, Standing}
use Rattle.laws.proofs.bridge.Standing.{live}
use Rattle.laws.proofs.bridge.Numbers.{live_after}
use Rattle.laws.proofs.bridge.Relink.{near_entry, far_entry}
use Rattle.darts.specs.Tests.{numbered, fits}
use Rattle.laws.proofs.tests.Fits.{Fit, numbered_iff, fits_iff}
use Rattle.laws.proofs.bridge.StandsBy.{live_edge}
use Rattle.laws.proofs.tests.Undone.{undone_stands, leads_again, operates_again, no_whole}

number_parts : (h : ℕ) → number (kind_of h) (lead_of h) ≡ h
unfolding number kind_of lead_of
number_parts h = go (ℕ_discrete (h % 2) 0)
  where
    go : Dec (h % 2 ≡ 0) → number (pick (eqb (h % 2) 0) removal contraction) (h / 2) ≡ h
    go (yes e) = rw (eqb_same e) (omega arith)
    go (no n) = rw (eqb_other n) (omega arith)

pub record Redo (D : ℕ) (t : List ℕ) (h : ℕ) (past u : List ℕ) : Type 0 where
  pub standing : Standing D u past
  pub lives : T (live D past (2 * edge_of h))
  pub more : ¬ Whole (map_of D u past) (2 * edge_of h)
  pub again : operate (kind_of h) D u past (edge_of h) ≡ t
  pub same : number (kind_of h) (lead (kind_of h) u (edge_of h)) ≡ h

-- AN OPERATION THAT FITS CAN BE UNDONE AND DONE AGAIN
pub fits_redo : {D : ℕ} {t : List ℕ} {h : ℕ} {past : List ℕ}
    → Standing D t (h ∷ past) → T (numbered D (h ∷ past)) → T (fits D t h past) → Redo D t h past (undo_one D t h past)
unfolding undo_one edge_of lead_of
fits_redo {D} {t} {h} {past} S N f = record {
  standing = undone_stands past k p taken S lives F;
  lives = rw (live_edge D past S.even p (h / 4) edge) lives;
  more = no_whole past k p taken S lives F (h / 4) edge;
  again = operates_again past k p taken S lives F (h / 4) edge;
  same = ap (number k) (leads_again past k p taken S lives F (h / 4) edge) ∙ number_parts h;
}
  where
    k : Kind
    k = kind_of h

    p : ℕ
    p = h / 2

    edge : h / 4 ≡ h / 2 / 2
    edge = omega arith

    taken : live D (h ∷ past) ≡ off_edge (live D past) p
    taken = subst (λ g. live D (g ∷ past) ≡ off_edge (live D past) p) (number_parts h) (live_after k D past p)

    lives : T (live D past p)
    lives = ((numbered_iff D h past).0 N).0

    F : Fit (live D (h ∷ past)) p (near_entry k t p) (far_entry k t p)
    F = (fits_iff D t h past).0 f
