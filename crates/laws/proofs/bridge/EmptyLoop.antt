-- "Show that an empty loop always has two different faces, and drop the clause and its branch from the sweep." (document 02, Seven)
--   empty_loop_faces == so it is with every empty loop that survives, a whole piece or not
--   takes_fine       == so an edge that the sweep takes is given no refusal as a removal, 10 least of all
use mathlib.Core.Bool.{not, ◌&&◌}
use mathlib.Core.List.{List}
use mathlib.Core.Logic.Iff
use mathlib.Core.Logic.{⊎_elim}
use mathlib.Core.Path.{◌≡◌, refl, sym, ap, ◌∙◌}
use Prim.Native.Nat.{ℕ, ◌+◌, ◌*◌, ◌/◌, ◌<◌}
use native.Mathlib.Omega.{arith}
use lib.Dec.{T, eqb, leb, eqb→eq, leb→le}
use Rattle.permutations.specs.Choice.{not_T→false, or_cases, and_left, and_right, not_iff}
use Rattle.permutations.proofs.PartnerLemmas.{partner_first, partner_second}
use Rattle.permutations.specs.Cycle.{Meets, meets_ind, meets_sym}
use Rattle.permutations.specs.Map.{face, partner_live}
use Rattle.permutations.proofs.Dual.{good_dual}
use Rattle.darts.specs.Map.{successor, face_next, same_face, gone, survives, live}
use Rattle.darts.specs.Operation.{removal, whole_edge}
use Rattle.darts.specs.Kernel.{shared, judge}
use Rattle.darts.specs.Levels.{empty_loop, takes}
use Rattle.laws.specs.Standing.{map_of, Standing}
use Rattle.laws.proofs.bridge.Standing.{live_iff}
use Rattle.laws.proofs.bridge.Judged.{face_entry, same_face_lem}

-- a fixed point is a cycle by itself
alone : (f : ℕ → ℕ) {x y : ℕ} → f x ≡ x → Meets f x y → y ≡ x
alone f {x} fix k = meets_ind f (λ z. z ≡ x) (λ z e. ap f e ∙ fix) k refl

module _ {D : ℕ} {t past : List ℕ} (S : Standing D t past) (e : ℕ) (here : T (live D past (2 * e))) where
  -- ONE OF THE TWO IS A SINGLE DART: q WHERE r = q, p WHERE s = p
  pub empty_loop_faces : T (empty_loop t e) → ¬ T (same_face D t (2 * e) (2 * e + 1))
  unfolding empty_loop face_next
  empty_loop_faces loop one =
      ⊎_elim (λ r. first (eqb→eq (successor t (2 * e)) (2 * e + 1) r)) (λ s. second (eqb→eq (successor t (2 * e + 1)) (2 * e) s))
      (or_cases (eqb (successor t (2 * e)) (2 * e + 1)) (eqb (successor t (2 * e + 1)) (2 * e)) loop)
    where
      q : T (live D past (2 * e + 1))
      q = rw (partner_first e) at (partner_live S.good (2 * e) here)

      met : Meets (face (map_of D t past)) (2 * e) (2 * e + 1)
      met = (same_face_lem S (2 * e) (2 * e + 1) here).0 one

      first : successor t (2 * e) ≡ 2 * e + 1 → ⊥
      first r =
          let fix = sym (face_entry S (2 * e + 1) q) ∙ ap (successor t) (partner_second e) ∙ r in
          let same = alone (face (map_of D t past)) fix (meets_sym (good_dual S.good).perm met) in
          omega arith

      second : successor t (2 * e + 1) ≡ 2 * e → ⊥
      second s =
          let fix = sym (face_entry S (2 * e) here) ∙ ap (successor t) (partner_first e) ∙ s in
          let same = alone (face (map_of D t past)) fix met in
          omega arith

-- AN EDGE THAT THE SWEEP TAKES MAY BE REMOVED
pub takes_fine : {D : ℕ} {t past : List ℕ} → Standing D t past → (e : ℕ) → e < D / 2 → T (takes t past e) → judge removal D t past e ≡ 0
unfolding takes survives judge shared
takes_fine {D} {t} {past} S e below k =
    let stays : T (survives past (2 * e)) = and_left (not (gone past (2 * e))) (empty_loop t e && not (whole_edge t e)) k in
    let both = and_right (not (gone past (2 * e))) (empty_loop t e && not (whole_edge t e)) k in
    let loop = and_left (empty_loop t e) (not (whole_edge t e)) both in
    let part = and_right (empty_loop t e) (not (whole_edge t e)) both in
    let here = (live_iff D past (2 * e)).1 (omega arith, stays) in
    rw (
      not_T→false (leb (D / 2) e) (λ h. omega (arith, leb→le (D / 2) e h)),
      not_T→false (gone past (2 * e)) ((not_iff (gone past (2 * e)) Iff.rfl).0 stays),
      not_T→false (same_face D t (2 * e) (2 * e + 1)) (empty_loop_faces S e here loop),
      not_T→false (whole_edge t e) ((not_iff (whole_edge t e) Iff.rfl).0 part),
    )
