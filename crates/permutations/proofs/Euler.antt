-- What legal operations do to the numbers of vertices, edges and faces.
--   vertices D m       == how many vertices m has
--   faces D m          == how many faces m has
--   survivors D m      == how many darts are live: two for each edge
--   Remains f live p u == something is left of u's cycle of f when the edge of p is gone
--   total w l          == the sum of w over the operations of the list l
--   contractions l     == how many operations of l are contractions
--   removals l         == how many are removals
use mathlib.Core.Bool.{Bool}
use mathlib.Core.List.{List, Permᴰ, [], ◌∷◌}
use mathlib.Core.Logic.{◌≢◌, ⊎_elim, ◌⊎◌, inl, inr}
use mathlib.Core.Path.{ap, subst, sym, ◌≡◌, refl, ◌∙◌}
use Prim.Native.Nat.{ℕ, suc, ◌+◌, ◌*◌}
use native.Mathlib.Decide.{ℕ_discrete}
use native.Mathlib.Omega.{arith}
use lib.Dec.{T}
use lib.ListN.{length}
use Rattle.permutations.specs.Partner.{partner, End}
use Rattle.permutations.proofs.PartnerLemmas.{partner_ne}
use Rattle.permutations.specs.Cycle.{Meets, meets_next, meets_sym, meets_trans}
use Rattle.permutations.specs.Joined.{On}
use Rattle.permutations.specs.Live.{darts, off, darts_out, off_other}
use Rattle.permutations.proofs.Cycles.{cycles, splice_cycles, skip_cycles}
use Rattle.permutations.specs.Map.{Map, face, off_edge, Good, off_edge_other, next_live, partner_live, contract, remove, partner_small}
use Rattle.permutations.proofs.Dual.{face_at, face_partner, good_dual, dual_dual, face_contract, face_perm, remove_by_dual, face_remove}
use Rattle.permutations.proofs.Legal.{dart, Contractible, Contract, act, Removable, Op, Remove, run, Legal, AllLegal, good_act}
use Rattle.permutations.proofs.LegalLemmas.{dual_contractible}

unfoldable pub vertices : ℕ → Map → ℕ
vertices D m = cycles D m.live m.next

unfoldable pub faces : ℕ → Map → ℕ
faces D m = cycles D m.live (face m)

unfoldable pub survivors : ℕ → Map → ℕ
survivors D m = length (darts m.live D)

-- ---- no vertex and no face is emptied

pub record Remains (f : ℕ → ℕ) (live : ℕ → Bool) (p u : ℕ) : Type 0 where
  pub one : ℕ
  pub left : T (off_edge live p one)
  pub meets : Meets f u one

module _ {D : ℕ} {m : Map} (G : Good D m) (p : ℕ) (c : Contractible m p) where
  left_p : m.next p ≢ p → T (off_edge m.live p (m.next p))
  left_p n =
      subst T (sym (off_edge_other m.live (⊎_elim n (λ e. c.two (subst (Meets m.next p) e (meets_next m.next p))))))
      (next_live G p c.lives)

  left_q : m.next (partner p) ≢ partner p → T (off_edge m.live p (m.next (partner p)))
  left_q n =
      let back = meets_next m.next (partner p) in
      subst T (sym (off_edge_other m.live (⊎_elim (λ e. c.two (meets_sym G.perm (subst (Meets m.next (partner p)) e back))) n)))
      (next_live G (partner p) (partner_live G p c.lives))

  -- something is left of the joined vertex
  pub contract_keeps_vertex : Remains m.next m.live p p ⊎ Remains m.next m.live p (partner p)
  contract_keeps_vertex = go (ℕ_discrete (m.next p) p)
    where
      go : Dec (m.next p ≡ p) → Remains m.next m.live p p ⊎ Remains m.next m.live p (partner p)
      go (no n) = inl (record { one = m.next p; left = left_p n; meets = meets_next m.next p })
      go (yes e) = inr (record {
        one = m.next (partner p);
        left = left_q (λ k. c.more (inl (e, k)));
        meets = meets_next m.next (partner p);
      })

  -- the face of u goes on to what v leads to, and if that is v to what u leads to
  face_remains : (u v : ℕ) → face m u ≡ m.next v → face m v ≡ m.next u
      → (m.next u ≢ u → T (off_edge m.live p (m.next u))) → (m.next v ≢ v → T (off_edge m.live p (m.next v)))
      → (m.next v ≡ v → m.next u ≢ u) → Remains (face m) m.live p u
  face_remains u v fu fv lu lv more = go (ℕ_discrete (m.next v) v)
    where
      step : Meets (face m) u (m.next v)
      step = subst (Meets (face m) u) fu (meets_next (face m) u)

      go : Dec (m.next v ≡ v) → Remains (face m) m.live p u
      go (no n) = record { one = m.next v; left = lv n; meets = step }
      go (yes e) = record {
        one = m.next u;
        left = lu (more e);
        meets = meets_trans (face m) (subst (Meets (face m) u) e step) (subst (Meets (face m) v) fv (meets_next (face m) v));
      }

  -- something is left of the face of each of the two darts
  pub contract_keeps_face : {u : ℕ} → End p u → Remains (face m) m.live p u
  contract_keeps_face {u} e =
      let fp = face_at G p c.lives in
      let fq = face_partner G p c.lives in
      let p_left = face_remains p (partner p) fp fq left_p left_q (λ h k. c.more (inl (k, h))) in
      let q_left = face_remains (partner p) p fq fp left_q left_p (λ h k. c.more (inl (h, k))) in
      ⊎_elim (λ k. subst (Remains (face m) m.live p) (sym k) p_left) (λ k. subst (Remains (face m) m.live p) (sym k) q_left) e

module _ {D : ℕ} {m : Map} (G : Good D m) (p : ℕ) (r : Removable m p) where
  pub remove_keeps_face : Remains (face m) m.live p p ⊎ Remains (face m) m.live p (partner p)
  remove_keeps_face = contract_keeps_vertex (good_dual G) p (dual_contractible G p r)

  pub remove_keeps_vertex : {u : ℕ} → End p u → Remains m.next m.live p u
  remove_keeps_vertex {u} e =
      subst (λ n. Remains n.next m.live p u) (dual_dual G) (contract_keeps_face (good_dual G) p (dual_contractible G p r) e)

-- ---- contraction takes one vertex away and keeps the faces

module _ {D : ℕ} {m : Map} (G : Good D m) (p : ℕ) (c : Contractible m p) where
  pub contract_vertices : vertices D m ≡ suc (vertices D (contract m p))
  unfolding vertices off_edge
  contract_vertices =
      ⊎_elim (λ r. less r.one r.left (inl (meets_sym G.perm r.meets))) (λ r. less r.one r.left (inr (meets_sym G.perm r.meets)))
      (contract_keeps_vertex G p c)
    where
      less : (x : ℕ) → T (off_edge m.live p x) → On m.next p (partner p) x → vertices D m ≡ suc (vertices D (contract m p))
      less = splice_cycles G.perm m.live G.small p (partner p) (partner_ne p) c.lives (partner_live G p c.lives) c.two

  pub contract_faces : faces D (contract m p) ≡ faces D m
  unfolding faces off_edge
  contract_faces =
      let s = contract_keeps_face G p c (inl refl) in
      let t = contract_keeps_face G p c (inr refl) in
      ap (cycles D (off_edge m.live p)) (face_contract G p c.lives)
      ∙ skip_cycles (face_perm G) m.live G.small p (partner p) (partner_ne p) c.lives (partner_live G p c.lives)
      s.one t.one s.left t.left s.meets t.meets

-- ---- removal takes one face away and keeps the vertices: by the dual

module _ {D : ℕ} {m : Map} (G : Good D m) (p : ℕ) (r : Removable m p) where
  pub remove_vertices : vertices D (remove m p) ≡ vertices D m
  unfolding vertices faces
  remove_vertices =
      ap (vertices D) (sym (remove_by_dual G p r.lives)) ∙ contract_faces (good_dual G) p (dual_contractible G p r) ∙ ap (vertices D) (dual_dual G)

  pub remove_faces : faces D m ≡ suc (faces D (remove m p))
  unfolding vertices faces
  remove_faces =
      contract_vertices (good_dual G) p (dual_contractible G p r)
      ∙ ap (λ f. suc (cycles D (off_edge m.live p) f)) (sym (face_remove G p r.lives))

-- ---- each takes one edge away

perm_length : {l k : List ℕ} → Permᴰ l k → length l ≡ length k
perm_length Permᴰ.nil = refl
perm_length (Permᴰ.cons e d) = ap suc (perm_length d)
perm_length (Permᴰ.swap e k) = refl
perm_length (Permᴰ.trans c d) = perm_length c ∙ perm_length d

pub act_survivors : {D : ℕ} {m : Map} → Good D m → (a : Op) → T (m.live (dart a)) → survivors D m ≡ survivors D (act m a) + 2
unfolding survivors off_edge
act_survivors {D} {m} G a t =
    let p = dart a in
    let n = perm_length (darts_out m.live p D (G.small p t) t) in
    let k = perm_length (darts_out (off m.live p) (partner p) D (partner_small G p t) (rw (off_other m.live (λ e. partner_ne p (sym e))) (partner_live G p t))) in
    omega arith

-- ---- a list of operations

abbrev pub contracted : Op → ℕ
contracted (Contract p) = 1
contracted (Remove p) = 0

abbrev pub removed : Op → ℕ
removed (Contract p) = 0
removed (Remove p) = 1

unfoldable pub total : (Op → ℕ) → List Op → ℕ
total w [] = 0
total w (a ∷ l) = w a + total w l

abbrev pub contractions : List Op → ℕ
contractions l = total contracted l

abbrev pub removals : List Op → ℕ
removals l = total removed l

-- what falls by w with each operation falls by the total
run_total : {D : ℕ} (count : Map → ℕ) (w : Op → ℕ) → ((m : Map) → Good D m → (a : Op) → Legal m a → count m ≡ count (act m a) + w a)
    → {m : Map} → Good D m → (l : List Op) → AllLegal m l → count m ≡ count (run m l) + total w l
unfolding run total
run_total count w step G [] h = omega arith
run_total count w step {m} G (a ∷ l) h =
    let n = step m G a h.0 in
    let k = run_total count w step {m = act m a} (good_act G a h.0) l h.1 in
    omega arith

pub act_vertices : {D : ℕ} (m : Map) → Good D m → (a : Op) → Legal m a → vertices D m ≡ vertices D (act m a) + contracted a
act_vertices m G (Contract p) l = let e = contract_vertices G p l in omega arith
act_vertices m G (Remove p) l = let e = remove_vertices G p l in omega arith

pub act_faces : {D : ℕ} (m : Map) → Good D m → (a : Op) → Legal m a → faces D m ≡ faces D (act m a) + removed a
act_faces m G (Contract p) l = let e = contract_faces G p l in omega arith
act_faces m G (Remove p) l = let e = remove_faces G p l in omega arith

-- each operation is of one of the two kinds
total_two : (l : List Op) → total (λ a. 2) l ≡ 2 * (contractions l + removals l)
unfolding total
total_two [] = refl
total_two (Contract p ∷ l) = let e = total_two l in omega arith
total_two (Remove p ∷ l) = let e = total_two l in omega arith

module _ {D : ℕ} {m : Map} (G : Good D m) (l : List Op) (h : AllLegal m l) where
  -- THE VERTICES FALL BY THE NUMBER OF CONTRACTIONS
  pub vertices_run : vertices D m ≡ vertices D (run m l) + contractions l
  vertices_run = run_total (vertices D) contracted act_vertices G l h

  -- THE FACES FALL BY THE NUMBER OF REMOVALS
  pub faces_run : faces D m ≡ faces D (run m l) + removals l
  faces_run = run_total (faces D) removed act_faces G l h

  -- THE LIVE DARTS FALL BY TWO WITH EACH
  pub survivors_run : survivors D m ≡ survivors D (run m l) + 2 * (contractions l + removals l)
  survivors_run = run_total (survivors D) (λ a. 2) (λ m G a s. act_survivors G a s.lives) G l h ∙ ap (λ n. survivors D (run m l) + n) (total_two l)

  -- V - E + F STAYS: twice the vertices and faces, less the live darts, is the same before and after
  pub euler_run : 2 * (vertices D m + faces D m) + survivors D (run m l) ≡ 2 * (vertices D (run m l) + faces D (run m l)) + survivors D m
  euler_run =
      let v = vertices_run in
      let f = faces_run in
      let s = survivors_run in
      omega arith
