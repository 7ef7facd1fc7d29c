-- What it is that p and q share: the answers 9 and 10 in words of walks along the table.
--   Round k t e == successor steps lead from 2e to 2e+1 (contraction), or face-next steps do (removal)
--   shares_iff  == on a pyramid, for a surviving edge, the tests that judge it say this
--   reduce_nine, reduce_ten == so a kernel's first failing edge is answered
use mathlib.Core.List.{List, ◌∷◌, ◌++◌}
use mathlib.Core.Logic.Iff
use mathlib.Core.Logic.{◌↔◌}
use mathlib.Core.Path.{◌≡◌, refl, sym, ap, ◌∙◌}
use Prim.Native.Nat.{ℕ, zero, suc, ◌+◌, ◌*◌, ◌/◌, ◌<◌}
use native.Mathlib.Omega.{arith}
use lib.Dec.{T}
use lib.ListN.{length, get_or}
use Rattle.permutations.specs.Choice.{not_iff}
use Rattle.permutations.specs.Partner.{partner}
use Rattle.permutations.specs.Cycle.{walk, Meets}
use Rattle.permutations.specs.Map.{Map, Good, next_live}
use Rattle.permutations.proofs.Dual.{good_dual}
use Rattle.darts.specs.Map.{successor, face_next, gone, survives}
use Rattle.darts.specs.Operation.{Kind, contraction, removal}
use Rattle.darts.specs.Kernel.{stands, run}
use Rattle.darts.specs.State.{State}
use Rattle.darts.specs.Calls.{table_of, past_of, reduce_by}
use Rattle.laws.specs.Standing.{Standing}
use Rattle.laws.proofs.bridge.Standing.{live, live_iff, next_entry}
use Rattle.laws.proofs.bridge.Judged.{face_entry, same_vertex_lem, same_face_lem}
use Rattle.laws.proofs.runs.Runs.{run_stands}
use Rattle.laws.proofs.runs.Pyramids.{pyramid_built}
use Rattle.laws.proofs.calls.Judging.{Lent}
use Rattle.laws.proofs.sentences.Order.{Answers}
use Rattle.laws.proofs.sentences.Edges.{Gone, Shares, gone_iff, judge_nine, judge_ten}
use Rattle.laws.proofs.sentences.Kernels.{reduce_fails}

-- "Its cycles are the vertices." "The face-next of d is the successor of its partner (003, phi). Its cycles are the faces."
abbrev pub Round : Kind → List ℕ → ℕ → Type 0
Round contraction t e = Meets (λ d. get_or t d 0) (2 * e) (2 * e + 1)
Round removal t e = Meets (λ d. get_or t (partner d) 0) (2 * e) (2 * e + 1)

-- ---- walking along the entries

module _ {D : ℕ} {m : Map} (G : Good D m) (f : ℕ → ℕ) (agree : (x : ℕ) → T (m.live x) → f x ≡ m.next x) where
  walk_agrees : (n x : ℕ) → T (m.live x) → walk m.next n x ≡ walk f n x
  unfolding walk
  walk_agrees zero x l = refl
  walk_agrees (suc n) x l = walk_agrees n (m.next x) (next_live G x l) ∙ ap (walk f n) (sym (agree x l))

  meets_agrees : (x y : ℕ) → T (m.live x) → Meets m.next x y ↔ Meets f x y
  meets_agrees x y l = (
    λ k. record { steps = k.steps; there = sym (walk_agrees k.steps x l) ∙ k.there },
    λ k. record { steps = k.steps; there = walk_agrees k.steps x l ∙ k.there },
  )

-- ---- the tests say what the words say

module _ {D : ℕ} {t past : List ℕ} (S : Standing D t past) (e : ℕ) (below : e < D / 2) (stays : ¬ (Gone past e)) where
  pub edge_live : T (live D past (2 * e))
  unfolding survives
  edge_live = (live_iff D past (2 * e)).1 (omega arith, (not_iff (gone past (2 * e)) (gone_iff past e)).1 stays)

  pub shares_iff : (k : Kind) → Shares k D t e ↔ Round k t e
  unfolding successor face_next
  shares_iff contraction =
      Iff.trans (same_vertex_lem S (2 * e) (2 * e + 1) edge_live) (meets_agrees S.good (successor t) (λ x l. sym (next_entry S x l)) (2 * e) (2 * e + 1) edge_live)
  shares_iff removal =
      Iff.trans (same_face_lem S (2 * e) (2 * e + 1) edge_live) (meets_agrees (good_dual S.good) (face_next t) (face_entry S) (2 * e) (2 * e + 1) edge_live)

-- ---- a kernel's edge

module _ (s : State) (t h w : List ℕ) (L : Lent s t h w) (room : s.levels < 64) (fine : List ℕ) (e : ℕ) (rest : List ℕ) {u new : List ℕ}
    (below : e < s.darts / 2) (stays : ¬ (Gone new e)) where
  -- 9, "contraction with one vertex at both ends"
  pub reduce_nine : run contraction s.darts (table_of s t) (past_of s h) fine ≡ stands u new → Round contraction u e
      → Answers (reduce_by contraction (fine ++ (e ∷ rest)) s t h w).answer 9 (length fine)
  reduce_nine r v =
      let S = run_stands (pyramid_built L.pyramid).standing contraction fine r in
      reduce_fails s t h w L room contraction fine e rest r (judge_nine s.darts u new e below stays ((shares_iff S e below stays contraction).1 v)) (omega arith)

  -- 10, "removal with one face on both sides"
  pub reduce_ten : run removal s.darts (table_of s t) (past_of s h) fine ≡ stands u new → Round removal u e
      → Answers (reduce_by removal (fine ++ (e ∷ rest)) s t h w).answer 10 (length fine)
  reduce_ten r f =
      let S = run_stands (pyramid_built L.pyramid).standing removal fine r in
      reduce_fails s t h w L room removal fine e rest r (judge_ten s.darts u new e below stays ((shares_iff S e below stays removal).1 f)) (omega arith)
