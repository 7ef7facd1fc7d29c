-- THE TESTS HOLD EXACTLY OF PYRAMIDS.
--   base_of s t past       == the table, once everything is undone
--   Passed Lv Lf s t past == what the tests say, one by one
use mathlib.Core.List.{List, [], ◌∷◌, reverse, reverse-reverse}
use mathlib.Core.Logic.Iff
use mathlib.Core.Logic.{◌↔◌}
use mathlib.Core.Path.{◌≡◌, refl, sym, ap, ◌∙◌, subst}
use Prim.Native.Nat.{ℕ, ◌%◌}
use native.Mathlib.Omega.{arith}
use lib.Dec.{T, eqb, eqb→eq}
use lib.ListN.{length, take}
use lib.Seq.{length-take-le}
use Rattle.permutations.specs.Choice.{eqb_iff, and_iff, and_left}
use Rattle.permutations.proofs.Replay.{Labelled}
use Rattle.darts.specs.Operation.{contraction, removal, undo_one, undone}
use Rattle.darts.specs.State.{State, counted, base_state, gives}
use Rattle.darts.specs.Pyramid.{Pyramid, dart_count, build, kernels_of}
use Rattle.laws.specs.Standing.{map_of, Standing}
use Rattle.laws.proofs.bridge.Bases.{base_stands}
use Rattle.laws.proofs.claims.Decided.{base_undone}
use Rattle.darts.specs.Tests.{numbered, linked, backs, relabelled, replays, shaped, tested}
use Rattle.laws.proofs.bridge.StandsBy.{stands_base}
use Rattle.laws.proofs.tests.Links.{linked_stands}
use Rattle.laws.proofs.tests.Replays.{Trail, backs_trail, Replayed, replayed}
use Rattle.laws.proofs.tests.Shape.{shaped_iff, raised_by, layered_told}
use Rattle.laws.proofs.runs.Ends.{Stores}
use Rattle.laws.proofs.runs.Pyramids.{pyramid_built}
use Rattle.laws.proofs.tests.Passes.{pyramid_shaped}
use Rattle.laws.proofs.tests.Rebuilt.{goes_base, goes_build}

abbrev pub base_of : State → List ℕ → List ℕ → List ℕ
base_of s t past = undone s.darts (length past) t past

-- undone to the base, the table still stands
trail_base : (D : ℕ) (t past : List ℕ) → Standing D t past → Trail D t past → Standing D (undone D (length past) t past) []
unfolding undone
trail_base D t [] S trail = S
trail_base D t (h ∷ past) S trail = trail_base D (undo_one D t h past) past trail.0.standing trail.1

-- ---- what the tests say

pub record Passed (Lv Lf : ℕ → ℕ) (s : State) (t past : List ℕ) : Type 0 where
  pub count : T (dart_count s.darts)
  pub size : length t ≡ s.darts
  pub shape : T (shaped s (reverse past))
  pub numbers : T (numbered s.darts past)
  pub links : T (linked s.darts t past)
  pub back : T (backs s.darts t past)
  pub vertices : T (replays contraction Lv (reverse past))
  pub faces : T (replays removal Lf (reverse past))

pub passed_iff : (Lv Lf : ℕ → ℕ) (s : State) (t past : List ℕ) → T (tested Lv Lf s t past) ↔ Passed Lv Lf s t past
unfolding tested
passed_iff Lv Lf s t past =
    let D = s.darts in
    let hs = reverse past in
    let i = and_iff (dart_count D) _ Iff.rfl (λ _. and_iff (eqb (length t) D) _ (eqb_iff (length t) D) (λ _. and_iff (shaped s hs) _ Iff.rfl
    (λ _. and_iff (numbered D past) _ Iff.rfl (λ _. and_iff (linked D t past) _ Iff.rfl (λ _. and_iff (backs D t past) _ Iff.rfl
    (λ _. and_iff (replays contraction Lv hs) (replays removal Lf hs) Iff.rfl (λ _. Iff.rfl))))))) in (
      λ h.
          let (a, (b, (c, (d, (e, (f, (g, j))))))) = i.0 h in
          record { count = a; size = b; shape = c; numbers = d; links = e; back = f; vertices = g; faces = j },
      λ P. i.1 (P.count, (P.size, (P.shape, (P.numbers, (P.links, (P.back, (P.vertices, P.faces))))))),
    )

even : (D : ℕ) → T (dart_count D) → D % 2 ≡ 0
unfolding dart_count
even D count = eqb→eq (D % 2) 0 (and_left (eqb (D % 2) 0) _ count)

-- ---- the decision

module _ (Lv Lf : ℕ → ℕ) (s : State) (t past : List ℕ) where
  abbrev D : ℕ
  D = s.darts

  abbrev base : List ℕ
  base = base_of s t past

  module _ (right : Standing D base [] → Labelled (map_of D base []) Lv Lf) where
    -- what passes the first tests goes back to a base that stands
    module _ (P : Passed Lv Lf s t past) (N : Stores s t past) where
      stands : Standing D t past
      stands = (linked_stands D t past (even D P.count) P.size).0 P.links

      trail : Trail D t past
      trail = backs_trail D t past stands P.numbers P.back

      base_standing : Standing D base []
      base_standing = trail_base D t past stands trail

      replay : Replayed D t past (reverse past) Lv Lf
      replay = replayed D t past trail (right base_standing)

      rebuilt : build (base_state D base) base [] (kernels_of s past) ≡ gives s t past
      unfolding kernels_of
      rebuilt =
          let (layered, rising) = (shaped_iff s past).0 P.shape in
          let marks = take s.levels s.ends in
          let used = length-take-le s.levels s.ends (let h = layered.sixty_four in let k = layered.most in omega arith) in
          let goes = goes_base D t past [] t trail (replay.tells.0 (P.vertices, P.faces)) refl in
          goes_build (base_state D base) refl base [] (record { vertices = refl; faces = refl }) 0 refl marks (reverse past) t (let h = layered.most in omega arith) rising goes
          ∙ ap (λ new. gives (raised_by (base_state D base) marks t new) t new) (reverse-reverse past)
          ∙ ap (λ z. gives z t past) (layered_told s base t past layered N)

      passed_pyramid : Pyramid s t past
      passed_pyramid = record {
        count = P.count;
        base = base;
        size = base_standing.size;
        permutation = stands_base base_standing;
        kernels = kernels_of s past;
        built = rebuilt;
      }

    pyramid_replayed : Pyramid s t past → Replayed D t past (reverse past) Lv Lf
    pyramid_replayed P =
        let S = (pyramid_shaped P).sound in
        replayed D t past (backs_trail D t past S.standing S.numbers S.fitting)
        (right (subst (λ b. Standing D b []) (sym (base_undone P)) (base_stands D P.base P.count P.size P.permutation)))

    pyramid_passed : Pyramid s t past → Passed Lv Lf s t past
    pyramid_passed P =
        let Q = pyramid_shaped P in
        let S = Q.sound in
        let labels = (pyramid_replayed P).tells.1 S.legal in
        record {
          count = P.count;
          size = S.standing.size;
          shape = (shaped_iff s past).1 (Q.layered, Q.rising);
          numbers = S.numbers;
          links = (linked_stands D t past (even D P.count) S.standing.size).1 S.standing;
          back = S.fitting;
          vertices = labels.0;
          faces = labels.1;
        }

    -- THE TESTS HOLD EXACTLY OF PYRAMIDS
    pub tests_decide : (T (tested Lv Lf s t past) × Stores s t past) ↔ Pyramid s t past
    tests_decide = (
      λ (h, N). passed_pyramid ((passed_iff Lv Lf s t past).0 h) N,
      λ P. ((passed_iff Lv Lf s t past).1 (pyramid_passed P), (pyramid_built P).stored),
    )

    -- THE MERGED LABELS ARE RIGHT AT THE TOP
    pub top_labelled : Pyramid s t past
        → Labelled (map_of D t past) (relabelled contraction Lv (reverse past)) (relabelled removal Lf (reverse past))
    top_labelled P = (pyramid_replayed P).labels (pyramid_shaped P).sound.legal

-- THE SAME OF THE FIGURES ALONE: the tests do not look at the numbers
module _ (Lv Lf : ℕ → ℕ) (s : State) (t past : List ℕ) (right : Standing s.darts (base_of s t past) [] → Labelled (map_of s.darts (base_of s t past) []) Lv Lf) where
  pub figures_decide : T (tested Lv Lf s t past) ↔ Pyramid (counted s t past) t past
  unfolding tested shaped
  figures_decide =
      let i = tests_decide Lv Lf (counted s t past) t past right in
      (λ h. i.0 (h, record { vertices = refl; faces = refl }), λ P. (i.1 P).0)
