-- The numbers of vertices and faces along the operations: one vertex less for each contraction, one face less for each removal.
--   Kept D t past u new == the vertices and contractions of u and new together are as many as those of t and past, and so are faces and removals
--   done_kept           == so it is once operations were done one by one
--   pyramid_kept        == and so it is of a pyramid and its base
--   vertices_kept, faces_kept == number by number
--   vertices_most, faces_most == there are at most D of each, of every table and past
use mathlib.Core.Bool.{Bool, true, false, ◌&&◌}
use mathlib.Core.List.{List, [], ◌∷◌}
use mathlib.Core.Path.{◌≡◌, refl, sym, ◌∙◌, subst}
use Prim.Native.Nat.{ℕ, zero, suc, ◌+◌, ◌*◌, ◌≤◌}
use native.Mathlib.Omega.{arith}
use lib.ListN.{length}
use Rattle.permutations.specs.Choice.{pick}
use Rattle.darts.specs.Map.{successor, face_next, survives}
use Rattle.darts.specs.Operation.{lead, undone}
use Rattle.darts.specs.Kernel.{judge, Operation}
use Rattle.darts.specs.State.{State, base_state}
use Rattle.darts.specs.Pyramid.{Pyramid}
use Rattle.darts.specs.OneByOne.{operations_of}
use Rattle.darts.specs.Counts.{lowest, cycles, counts_of}
use Rattle.darts.specs.Moves.{contractions_in}
use Rattle.laws.specs.Standing.{Standing}
use Rattle.laws.proofs.bridge.Bases.{base_stands}
use Rattle.laws.proofs.bridge.Operate.{operate_stands}
use Rattle.laws.proofs.bridge.Counting.{counts_operate}
use Rattle.laws.proofs.runs.Operations.{after, past_after, AllDone, none, first}
use Rattle.laws.proofs.runs.Cuts.{kernels_done}
use Rattle.laws.proofs.claims.Decided.{base_undone}
use Rattle.laws.proofs.moves.Contractions.{removals_in, contractions_number, removals_number}

pub record Kept (D : ℕ) (t past u new : List ℕ) : Type 0 where
  pub vertices : (counts_of D u new).vertices + contractions_in new ≡ (counts_of D t past).vertices + contractions_in past
  pub faces : (counts_of D u new).faces + removals_in new ≡ (counts_of D t past).faces + removals_in past

-- ---- operations done one by one

pub kept_on : {D : ℕ} {t past u new v last : List ℕ} → Kept D t past u new → Kept D u new v last → Kept D t past v last
kept_on A B = record { vertices = B.vertices ∙ A.vertices; faces = B.faces ∙ A.faces }

pub kept_back : {D : ℕ} {t past u new : List ℕ} → Kept D t past u new → Kept D u new t past
kept_back A = record { vertices = sym A.vertices; faces = sym A.faces }

kept_one : {D : ℕ} {t past : List ℕ} → Standing D t past → (o : Operation) → judge o.kind D t past o.edge ≡ 0
    → Kept D t past (after D t past o) (past_after t past o)
kept_one {D} {t} {past} S o fine =
    let T = counts_operate S o.kind o.edge fine in
    let p = lead o.kind t o.edge in
    let c = contractions_number (2 * o.edge) p past o.kind in
    let r = removals_number (2 * o.edge) p past o.kind in
    record {
      vertices = let e = T.a_vertex in omega arith;
      faces = let e = T.a_face in omega arith;
    }

-- EACH CONTRACTION TAKES ONE VERTEX, EACH REMOVAL ONE FACE
pub done_kept : {D : ℕ} {t past u new : List ℕ} → Standing D t past → (os : List Operation) → AllDone D t past os u new → Kept D t past u new
done_kept S [] none = record { vertices = refl; faces = refl }
done_kept {D} {t} {past} S (o ∷ os) (first fine rest) = kept_on (kept_one S o fine) (done_kept {t = after D t past o} {past = past_after t past o} (operate_stands S o.kind o.edge fine) os rest)

-- ---- a pyramid and its base

module _ {s : State} {t past : List ℕ} (P : Pyramid s t past) where
  abbrev D : ℕ
  D = s.darts

  pub pyramid_kept : Kept D (undone D (length past) t past) [] t past
  pyramid_kept =
      let S = base_stands D P.base P.count P.size P.permutation in
      subst (λ (b : List ℕ). Kept D b [] t past) (sym (base_undone P))
      (done_kept S (operations_of P.kernels) (kernels_done (base_state D P.base) P.base [] P.kernels P.built))

  -- A PYRAMID HAS AS MANY VERTICES AS ITS BASE, LESS ONE FOR EACH CONTRACTION
  pub vertices_kept : (counts_of D t past).vertices + contractions_in past ≡ (counts_of D (undone D (length past) t past) []).vertices
  unfolding contractions_in
  vertices_kept = let e = pyramid_kept.vertices in omega arith

  -- AND AS MANY FACES AS ITS BASE, LESS ONE FOR EACH REMOVAL
  pub faces_kept : (counts_of D t past).faces + removals_in past ≡ (counts_of D (undone D (length past) t past) []).faces
  unfolding contractions_in
  faces_kept = let e = pyramid_kept.faces in omega arith

-- ---- no more than darts

one_most : (b : Bool) (c n : ℕ) → c ≤ n → pick b (suc c) c ≤ suc n
one_most true c n h = omega arith
one_most false c n h = omega arith

cycles_most : (f : ℕ → ℕ) (D : ℕ) (past : List ℕ) (n : ℕ) → cycles f D past n ≤ n
unfolding cycles
cycles_most f D past zero = omega arith
cycles_most f D past (suc n) = one_most (survives past n && lowest f D n) (cycles f D past n) n (cycles_most f D past n)

module _ (D : ℕ) (t past : List ℕ) where
  pub vertices_most : (counts_of D t past).vertices ≤ D
  unfolding counts_of
  vertices_most = cycles_most (successor t) D past D

  pub faces_most : (counts_of D t past).faces ≤ D
  unfolding counts_of
  faces_most = cycles_most (face_next t) D past D
