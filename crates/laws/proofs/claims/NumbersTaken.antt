-- What a contraction, a removal, a kernel and a sweep take of the numbers of vertices and faces (document 02, request Six).
--   Takes k n v f v' f' == n operations of kind k lead from v vertices and f faces to v' and f'
--   one_vertex_less  == a contraction takes one vertex and no face
--   one_face_less    == a removal takes one face and no vertex
--   kernel_less      == a kernel of contractions takes a vertex for each of its edges, a kernel of removals a face for each
--   sweep_less       == a sweep takes a face for each edge that it takes
use mathlib.Core.List.{List, [], ◌∷◌}
use mathlib.Core.Path.{◌≡◌, sym, ◌∙◌}
use Prim.Native.Nat.{ℕ, suc, ◌+◌}
use native.Mathlib.Omega.{arith}
use lib.ListN.{length}
use Rattle.darts.specs.Operation.{Kind, contraction, removal, lead, operate, number}
use Rattle.darts.specs.Kernel.{judge, each}
use Rattle.darts.specs.State.{State, gives, reduce}
use Rattle.darts.specs.Levels.{sweep}
use Rattle.darts.specs.Pyramid.{Pyramid}
use Rattle.darts.specs.Counts.{Counts, counts_of}
use Rattle.laws.specs.Standing.{Standing}
use Rattle.laws.proofs.bridge.Operate.{operate_stands}
use Rattle.laws.proofs.bridge.Counting.{counts_operate}
use Rattle.laws.proofs.runs.Operations.{AllDone, none, first, run_iff}
use Rattle.laws.proofs.runs.Reduces.{reduce_raises}
use Rattle.laws.proofs.runs.Sweeps.{loops}
use Rattle.laws.proofs.runs.Pyramids.{pyramid_built, pyramid_sweep, reduce_pyramid}
use Rattle.laws.proofs.chained.Steps.{reduce_leads}

-- of n operations of kind k: so many vertices, and so many faces
abbrev pub vertices_taken : Kind → ℕ → ℕ
vertices_taken contraction n = n
vertices_taken removal n = 0

abbrev pub faces_taken : Kind → ℕ → ℕ
faces_taken contraction n = 0
faces_taken removal n = n

-- from v vertices and f faces n operations of kind k lead to v' and f'
pub record Takes (k : Kind) (n v f v' f' : ℕ) : Type 0 where
  pub vertices : v ≡ v' + vertices_taken k n
  pub faces : f ≡ f' + faces_taken k n

-- ---- one operation

module _ {D : ℕ} {t past : List ℕ} (S : Standing D t past) (e : ℕ) where
  abbrev after : Kind → Counts
  after k = counts_of D (operate k D t past e) (number k (lead k t e) ∷ past)

  one_less : (k : Kind) → judge k D t past e ≡ 0 → Takes k 1 (counts_of D t past).vertices (counts_of D t past).faces (after k).vertices (after k).faces
  one_less contraction fine = let T = counts_operate S contraction e fine in record { vertices = T.a_vertex; faces = T.a_face }
  one_less removal fine = let T = counts_operate S removal e fine in record { vertices = T.a_vertex; faces = T.a_face }

  -- A CONTRACTION TAKES ONE VERTEX AND NO FACE
  pub one_vertex_less : judge contraction D t past e ≡ 0
      → Takes contraction 1 (counts_of D t past).vertices (counts_of D t past).faces (after contraction).vertices (after contraction).faces
  one_vertex_less = one_less contraction

  -- A REMOVAL TAKES ONE FACE AND NO VERTEX
  pub one_face_less : judge removal D t past e ≡ 0
      → Takes removal 1 (counts_of D t past).vertices (counts_of D t past).faces (after removal).vertices (after removal).faces
  one_face_less = one_less removal

-- ---- a kernel

takes_on : (k : Kind) {n v f v' f' v'' f'' : ℕ} → Takes k 1 v f v' f' → Takes k n v' f' v'' f'' → Takes k (suc n) v f v'' f''
takes_on contraction one more = record {
  vertices = let a = one.vertices in let b = more.vertices in omega arith;
  faces = let a = one.faces in let b = more.faces in omega arith;
}
takes_on removal one more = record {
  vertices = let a = one.vertices in let b = more.vertices in omega arith;
  faces = let a = one.faces in let b = more.faces in omega arith;
}

takes_none : (k : Kind) (v f : ℕ) → Takes k 0 v f v f
takes_none contraction v f = record { vertices = omega arith; faces = omega arith }
takes_none removal v f = record { vertices = omega arith; faces = omega arith }

done_less : {D : ℕ} {t past u new : List ℕ} → Standing D t past → (k : Kind) (es : List ℕ) → AllDone D t past (each k es) u new
    → Takes k (length es) (counts_of D t past).vertices (counts_of D t past).faces (counts_of D u new).vertices (counts_of D u new).faces
done_less S k [] none = takes_none k _ _
done_less {D} {t} {past} S k (e ∷ es) (first fine rest) = takes_on k (one_less S e k fine) (done_less {t = operate k D t past e} {past = number k (lead k t e) ∷ past} (operate_stands S k e fine) k es rest)

module _ {s : State} {t past : List ℕ} {z : State} {u new : List ℕ} (P : Pyramid s t past) where
  -- A KERNEL OF CONTRACTIONS TAKES ONE VERTEX FOR EACH OF ITS EDGES AND NO FACE, A KERNEL OF REMOVALS ONE FACE FOR EACH AND NO VERTEX
  pub kernel_less : (k : Kind) (es : List ℕ) → reduce k es s t past ≡ gives z u new
      → Takes k (length es) s.vertices s.faces z.vertices z.faces
  kernel_less k es e =
      let all = (run_iff k s.darts t past es).0 (reduce_raises s t past k es e).stood in
      let S = (pyramid_built P).stored in
      let Z = (pyramid_built (reduce_pyramid P k es e)).stored in
      let same = (reduce_leads k es).darts e in
      rw (S.vertices, S.faces, Z.vertices, Z.faces, same) (done_less (pyramid_built P).standing k es all)

  pub sweep_less : sweep s t past ≡ gives z u new
      → Takes removal (length (loops s t past)) s.vertices s.faces z.vertices z.faces
  sweep_less e = kernel_less removal (loops s t past) (sym (pyramid_sweep P) ∙ e)
