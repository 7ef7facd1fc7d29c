-- From the numbers of the base to those of the pyramid over it: each contraction took one vertex away, each removal one face.
--   takes_of   == the base has as many as the operations took
--   taken_are  == what is left are the cycles of the present level
use mathlib.Core.List.{List, []}
use mathlib.Core.Path.{◌≡◌, sym, ◌∙◌}
use Prim.Native.Nat.{ℕ, ◌+◌, ◌-◌, ◌≤◌}
use native.Mathlib.Omega.{arith}
use lib.ListN.{length}
use Rattle.slices.specs.Part.{part}
use Rattle.darts.specs.Counts.{counts_of}
use Rattle.darts.specs.Moves.{contractions_in}
use Rattle.darts.specs.Operation.{undone}
use Rattle.darts.specs.Pyramid.{Pyramid}
use Rattle.darts.specs.State.{State}
use Rattle.laws.proofs.moves.Contractions.{contractions_most}
use Rattle.laws.proofs.moves.Kept.{vertices_kept, faces_kept}
use Rattle.engine.specs.Counted.{CyclesAre, Takes, Taken}
use Rattle.engine.specs.declared.Cycles.{Cycles}
use Rattle.engine.proofs.Counts.{cycles_are}

module _ {s : State} {t past : List ℕ} (P : Pyramid s t past) (a : ℕ) (u : List ℕ) (same : contractions_in (part a (a + length past) u) ≡ contractions_in past)
    (fits : a + length past ≤ length u) {b : Cycles} (C : CyclesAre s.darts (undone s.darts (length past) t past) [] b.vertices b.faces) where
  abbrev D : ℕ
  D = s.darts

  vertices : (counts_of D t past).vertices + contractions_in past ≡ b.vertices
  vertices = vertices_kept P ∙ sym C.vertices

  faces : (counts_of D t past).faces + (length past - contractions_in past) ≡ b.faces
  faces = faces_kept P ∙ sym C.faces

  pub takes_of : Takes a (length past) u b
  takes_of = record {
    fits = fits;
    few = rw same (contractions_most past);
    vertices = rw same (omega (arith, vertices));
    faces = rw same (omega (arith, faces));
  }

  pub taken_are : {r : Cycles} → Taken a (length past) u b r → CyclesAre D t past r.vertices r.faces
  taken_are {r} T =
      let x : r.vertices ≡ b.vertices - contractions_in past = rw same at T.vertices in
      let y : r.faces ≡ b.faces - (length past - contractions_in past) = rw same at T.faces in
      cycles_are (omega (arith, vertices, x)) (omega (arith, faces, y))
