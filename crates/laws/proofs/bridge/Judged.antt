-- The tests that judge an edge of a table are the mathematics' own on its map.
--   refusal none gone sharing whole c == the answer's number by four tests: there is no such edge, it is gone, its darts share a cycle (then c + 1), it is a
--                                        whole piece
use mathlib.Core.Bool.{Bool, true, false, ◌&&◌, ◌||◌, not}
use mathlib.Core.List.{List}
use mathlib.Core.Logic.Iff
use mathlib.Core.Logic.{◌↔◌}
use mathlib.Core.Path.{◌≡◌, refl, sym, ap, ◌∙◌}
use Prim.Native.Nat.{ℕ, zero, suc, ◌+◌, ◌*◌, ◌/◌, ◌<◌}
use native.Mathlib.Omega.{arith}
use lib.Dec.{T, eqb, leb, leb→le, nleb→lt, le→leb, not_T}
use Rattle.permutations.specs.Choice.{pick, T→true, and_iff, not_iff}
use Rattle.permutations.specs.Partner.{partner}
use Rattle.permutations.proofs.PartnerLemmas.{partner_first}
use Rattle.permutations.specs.Cycle.{Meets, meets_in, meets_iff}
use Rattle.permutations.specs.Map.{Map, Good, face, next_live, partner_live}
use Rattle.permutations.proofs.Dual.{good_dual, face_at}
use Rattle.permutations.proofs.Legal.{Separate, Legal, Whole}
use Rattle.permutations.proofs.Tests.{whole_iff, whole_test}
use Rattle.darts.specs.Map.{successor, face_next, same_vertex, same_face, gone, survives}
use Rattle.darts.specs.Operation.{Kind, contraction, removal, whole_edge}
use Rattle.darts.specs.Kernel.{judge, shared}
use Rattle.laws.specs.Standing.{map_of, Standing}
use Rattle.laws.proofs.bridge.Standing.{live, op_of, live_iff, next_entry}

-- ---- walking along the entries

module _ {D : ℕ} {m : Map} (G : Good D m) (f : ℕ → ℕ) (agree : (x : ℕ) → T (m.live x) → f x ≡ m.next x) where
  -- from a live dart, f walks as the map does
  meets_agree : (n p q : ℕ) → T (m.live p) → meets_in f n p q ≡ meets_in m.next n p q
  unfolding meets_in
  meets_agree zero p q h = refl
  meets_agree (suc n) p q h = ap (λ b. eqb p q || b) (ap (λ x. meets_in f n x q) (agree p h) ∙ meets_agree n (m.next p) q (next_live G p h))

  walked : (p q : ℕ) → T (m.live p) → T (meets_in f D p q) ↔ Meets m.next p q
  walked p q h = rw (meets_agree D p q h) (Iff.symm (meets_iff G.perm p q))

-- ---- the answer's number

refusal : Bool → Bool → Bool → Bool → ℕ → ℕ
refusal none gone sharing whole c =
    let n : ℕ = pick sharing (suc c) 0 in
    pick none 7 (pick gone 8 (pick (leb 1 n) n (pick whole 11 0)))

refusal_zero : (none gone sharing whole : Bool) (c : ℕ)
    → (refusal none gone sharing whole c ≡ 0) ↔ T (not none && not gone && (not sharing && not whole))
unfolding refusal
refusal_zero true g s w c = (λ e. omega arith, λ h. absurd h)
refusal_zero false true s w c = (λ e. omega arith, λ h. absurd h)
refusal_zero false false true w c = (λ e. let k : suc c ≡ 0 = rw (T→true (leb 1 (suc c)) (le→leb 1 (suc c) (omega arith))) at e in omega arith, λ h. absurd h)
refusal_zero false false false true c = (λ e. omega arith, λ h. absurd h)
refusal_zero false false false false c = (λ e. tt, λ h. refl)

module _ {D : ℕ} {t past : List ℕ} (S : Standing D t past) where
  -- a survivor's face-next in the map is the table's
  pub face_entry : (x : ℕ) → T (live D past x) → face_next t x ≡ face (map_of D t past) x
  unfolding face_next
  face_entry x h = sym (face_at S.good x h ∙ next_entry S (partner x) (partner_live S.good x h))

  -- SAME VERTEX, SAME FACE AND WHOLE PIECE ARE THE MATHEMATICS' OWN
  pub same_vertex_lem : (p q : ℕ) → T (live D past p) → T (same_vertex D t p q) ↔ Meets (map_of D t past).next p q
  unfolding same_vertex
  same_vertex_lem = walked S.good (successor t) (λ x h. sym (next_entry S x h))

  pub same_face_lem : (p q : ℕ) → T (live D past p) → T (same_face D t p q) ↔ Meets (face (map_of D t past)) p q
  unfolding same_face
  same_face_lem = walked (good_dual S.good) (face_next t) face_entry

  whole_test_lem : (e : ℕ) → T (live D past (2 * e)) → whole_edge t e ≡ whole_test (map_of D t past) (2 * e)
  unfolding whole_edge whole_test
  whole_test_lem e h = rw (next_entry S (2 * e) h, next_entry S (partner (2 * e)) (partner_live S.good (2 * e) h), partner_first e)

  pub whole_edge_lem : (e : ℕ) → T (live D past (2 * e)) → T (whole_edge t e) ↔ Whole (map_of D t past) (2 * e)
  whole_edge_lem e h = rw (whole_test_lem e h) (whole_iff (map_of D t past) (2 * e))

  -- neither 7 nor 8
  edge_live : (e : ℕ) → T (not (leb (D / 2) e) && not (gone past (2 * e))) ↔ T (live D past (2 * e))
  unfolding survives
  edge_live e =
      Iff.trans (and_iff (not (leb (D / 2) e)) (not (gone past (2 * e))) below (λ h. Iff.rfl)) (Iff.symm (live_iff D past (2 * e)))
    where
      below : T (not (leb (D / 2) e)) ↔ (2 * e < D)
      below = (
        λ h. let k = nleb→lt (D / 2) e h in omega (arith, S.even),
        λ h. not_T (leb (D / 2) e) (λ l. let k = leb→le (D / 2) e l in omega (arith, S.even)),
      )

  -- for either kind, by its test for a shared cycle
  judged : (f : ℕ → ℕ) (e : ℕ) (sharing : Bool) (c : ℕ) → (T (live D past (2 * e)) → T sharing ↔ Meets f (2 * e) (partner (2 * e)))
      → (refusal (leb (D / 2) e) (gone past (2 * e)) sharing (whole_edge t e) c ≡ 0) ↔ Separate f (map_of D t past) (2 * e)
  judged f e sharing c same =
      let tests = not (leb (D / 2) e) && not (gone past (2 * e)) in
      let i = refusal_zero (leb (D / 2) e) (gone past (2 * e)) sharing (whole_edge t e) c in
      let j = and_iff tests (not sharing && not (whole_edge t e)) (edge_live e)
      (λ h. and_iff (not sharing) (not (whole_edge t e)) (not_iff sharing (same h)) (λ n. not_iff (whole_edge t e) (whole_edge_lem e h))) in (
        λ z. let l = j.0 (i.0 z) in record { lives = l.0; two = l.1.0; more = l.1.1 },
        λ l. i.1 (j.1 (l.lives, (l.two, l.more))),
      )

  -- AN EDGE MAY BE DONE EXACTLY WHERE THE MATHEMATICS ALLOWS IT
  pub judge_legal : (k : Kind) (e : ℕ) → (judge k D t past e ≡ 0) ↔ Legal (map_of D t past) (op_of k (2 * e))
  unfolding judge shared refusal
  judge_legal contraction e = judged (map_of D t past).next e (same_vertex D t (2 * e) (2 * e + 1)) 8 (λ h. rw (partner_first e) (same_vertex_lem (2 * e) (2 * e + 1) h))
  judge_legal removal e = judged (face (map_of D t past)) e (same_face D t (2 * e) (2 * e + 1)) 9 (λ h. rw (partner_first e) (same_face_lem (2 * e) (2 * e + 1) h))
