-- Whether the map in the work area, its history and a state are a pyramid: what each step of the decision says.
--   refuted        == what is no pyramid is answered no
--   pyramid_passed == a pyramid passes every test
--   pyramid_loads  == tests 1 to 5 among them
--   pyramid_few    == a pyramid has at most D/2 operations
--   count          == the past has as many operations as the state says
--   shape_no       == no where the state does not fit the history
--   history        == the history's numbers still stand, once operations are taken back
--   back_no        == no where an operation does not fit
--   all_taken      == all operations taken back: the work area holds the base, and the history's numbers still
--   base           == its table is the present one, with everything undone
--   decided        == both kinds are replayed on the base
--   decided_takes  == the base has the numbers that the operations took away
--   decided_are    == and what is left are those of the present level
--   decided_coming == the kind that was replayed last is the coming one, where one is coming
use mathlib.Core.Bool.{Bool, true, false, ◌&&◌, false≢true}
use mathlib.Core.List.{List, [], reverse, reverse-reverse}
use mathlib.Core.Logic.Iff
use mathlib.Core.Logic.{◌↔◌}
use mathlib.Core.Path.{◌≡◌, refl, sym, ap, subst, ◌∙◌}
use Prim.Native.Nat.{ℕ, zero, suc, ◌+◌, ◌-◌, ◌*◌, ◌/◌, ◌%◌, ◌≤◌}
use native.Mathlib.Nat.{sub_self}
use native.Mathlib.Omega.{arith}
use lib.Dec.{T, eqb, leb, eqb→eq, le→leb}
use lib.ListN.{length, get_or, take, drop, length-reverse}
use lib.Seq.{get_or-drop}
use Rattle.permutations.specs.Choice.{T-ext, true→T, not_T→false, eqb_iff, and_intro, and_left}
use Rattle.permutations.specs.Labels.{Labels}
use Rattle.permutations.proofs.Replay.{Labelled}
use Rattle.darts.specs.Map.{live}
use Rattle.darts.specs.Operation.{contraction, removal, kind_of, undone}
use Rattle.darts.specs.Pyramid.{Pyramid, dart_count, is_pyramid}
use Rattle.darts.specs.Moves.{contractions_in}
use Rattle.darts.specs.State.{State, counted}
use Rattle.darts.specs.Tests.{numbered, linked, replays, shaped}
use Rattle.laws.proofs.claims.Decided.{pyramid_decided}
use Rattle.laws.proofs.moves.Contractions.{contractions_reverse}
use Rattle.laws.proofs.tests.Links.{linked_stands}
use Rattle.laws.proofs.tests.Room.{pyramid_room}
use Rattle.laws.specs.Standing.{Standing, map_of}
use Rattle.laws.proofs.tests.TestsDecide.{base_of, Passed, passed_iff, figures_decide}
use Rattle.laws.specs.Standing.{cycles_of}
use Rattle.laws.proofs.tests.TopLabels.{walked, walked_decide, labels_at_top}
use Rattle.area.specs.Area.{Room, table_in, past_in, Tried, tried}
use Rattle.area.specs.Shape.{history_in}
use Rattle.operations.specs.Back.{backs}
use Rattle.operations.specs.Replay.{replayed, Numbered}
use Rattle.operations.specs.Trees.{Outside}
use Rattle.operations.proofs.Replay.{Alike, replay_alike, rejoined_alike}
use Rattle.engine.specs.Held.{Area}
use Rattle.engine.specs.Checks.{BothTried, Decided}
use Rattle.engine.specs.Counted.{CyclesAre, Takes, Taken}
use Rattle.engine.specs.declared.Cycles.{Cycles}
use Rattle.engine.proofs.AllBack.{AllBack, backs_right, all_back}
use Rattle.engine.proofs.Area.{area_sound}
use Rattle.engine.proofs.Given.{fits_stand}
use Rattle.engine.proofs.Parts.{rest_from, past_none, past_length}
use Rattle.engine.proofs.Present.{takes_of, taken_are}

-- ---- a pyramid passes

module _ {s : State} {t past : List ℕ} where
  pub refuted : ¬ Pyramid s t past → false ≡ is_pyramid s t past
  refuted n = sym (not_T→false (is_pyramid s t past) (λ h. n ((pyramid_decided s t past).0 h)))

  decision : (r : Bool) → T r ↔ Pyramid s t past → r ≡ is_pyramid s t past
  decision r i = let d = pyramid_decided s t past in T-ext r (is_pyramid s t past) (λ x. d.1 (i.0 x)) (λ x. i.1 (d.0 x))

  pyramid_passed : Pyramid s t past → Passed (walked contraction s t past) (walked removal s t past) s t past
  pyramid_passed P = (passed_iff _ _ s t past).0 ((walked_decide s t past).1 P).0

  pub pyramid_loads : Pyramid s t past → T (numbered s.darts past && linked s.darts t past)
  pyramid_loads P =
      let Q = pyramid_passed P in
      and_intro (numbered s.darts past) (linked s.darts t past) Q.numbers Q.links

  pub pyramid_few : Pyramid s t past → s.operations ≤ s.darts / 2
  unfolding shaped
  pyramid_few P =
      let e = eqb→eq s.operations (length (reverse past)) (and_left (eqb s.operations (length (reverse past))) _ (pyramid_passed P).shape) in
      omega (arith, e, length-reverse past, pyramid_room P)

-- the tests do not look at the numbers
counted_shaped : (s : State) (t past : List ℕ) → Pyramid (counted s t past) t past → T (shaped s (reverse past))
unfolding shaped
counted_shaped s t past P = (pyramid_passed P).shape

-- ---- labels

alike_refl : (L : ℕ → ℕ) → Alike L L
alike_refl L = record { says = λ x y. (λ e. e, λ e. e) }

labels_alike : {live : ℕ → Bool} {f R L : ℕ → ℕ} → Alike R L → Labels live f L → Labels live f R
labels_alike a Λ = record { says = λ x y i j. Iff.trans (a.says x y) (Λ.says x y i j) }

dart_count_lem : {D : ℕ} {w : List ℕ} → Room D w → T (dart_count D)
unfolding dart_count
dart_count_lem {D} r =
    and_intro (eqb (D % 2) 0) _ ((eqb_iff (D % 2) 0).1 r.even)
    (and_intro (leb 2 D) (leb D 65536) (le→leb 2 D (omega (arith, r.even, r.some))) (le→leb D 65536 r.small))

-- ---- the decision

module _ (s : State) {w : List ℕ} (A : Area s.darts s.operations w) where
  abbrev D : ℕ
  D = s.darts

  abbrev n : ℕ
  n = s.operations

  abbrev t : List ℕ
  t = table_in D w

  abbrev past : List ℕ
  past = past_in D n w

  abbrev hs : List ℕ
  hs = history_in D n w

  pub count : length past ≡ n
  count = past_length D n w (omega (arith, A.few, A.room.fits))

  refuses : {w' : List ℕ} → length w' ≡ length w → drop (3 * D) w' ≡ drop (3 * D) w → {coming : ℕ} → ¬ Pyramid (counted s t past) t past
      → Decided s coming w w' false
  refuses size rest none = record {
    answer = refuted none;
    size = size;
    rest = rest;
    falls = λ e. absurd (false≢true e);
    roots = λ e. absurd (false≢true e);
    kept = λ e. absurd (false≢true e);
  }

  pub shape_no : {a : Bool} → a ≡ shaped s hs → a ≡ false → {coming : ℕ} → Decided s coming w w false
  shape_no told e = refuses refl refl (λ P. rw (reverse-reverse hs, ← told, e) at (counted_shaped s t past P))

  module _ {b : Bool} {v : List ℕ} (back : tried b v ≡ backs D w n n) where
    B : AllBack D n n t past w (tried b v)
    B = rw back (backs_right fits_stand n n w (omega arith) A)

    v_same : n ≡ 0 → v ≡ w
    unfolding backs
    v_same none = ap (λ (a : Tried). a.work) back ∙ ap (λ (c : ℕ). (backs D w c c).work) none

    v_rest : drop (3 * D) v ≡ drop (3 * D) w
    v_rest = rest_from D (3 * D) v w B.rest (omega arith)

    pub history : history_in D n v ≡ reverse past
    history = ap (take (3 * D + n - 3 * D)) v_rest ∙ sym (reverse-reverse hs)

    pub back_no : b ≡ false → {coming : ℕ} → Decided s coming w v false
    back_no e = refuses B.size v_rest (λ P. rw (all_back fits_stand n w A, ← back, e) at (pyramid_passed P).back)

    module _ (fine : b ≡ true) where
      pub all_taken : Area D 0 v × Numbered D n v
      all_taken = (
        rw (sub_self n) at (B.area (true→T fine)),
        record {
          fits = omega (arith, A.few);
          each = λ i h.
              let e : get_or v (3 * D + i) 0 ≡ get_or w (3 * D + i) 0 =
              sym (get_or-drop (3 * D) v i 0) ∙ ap (λ m. get_or m i 0) v_rest ∙ get_or-drop (3 * D) w i 0 in
              rw e ((area_sound A).numbers i h);
        },
      )

      pub base : table_in D v ≡ base_of s t past
      base = B.table (true→T fine) ∙ ap (λ c. undone D c t past) (sym count)

      module _ {a : Bool} (told : a ≡ shaped s hs) (shape : a ≡ true) {coming : ℕ} {w' : List ℕ} {r : Bool} (M : BothTried D n coming v w' r) where
        abbrev Lv : ℕ → ℕ
        Lv = M.label 1

        abbrev Lf : ℕ → ℕ
        Lf = M.label 0

        base_labels : (k : ℕ) → k ≤ 1 → Labels (live D []) (cycles_of (kind_of k) (map_of D (base_of s t past) [])) (M.label k)
        base_labels k b = rw (past_none D v, base) at (M.right k b)

        labelled : Standing D (base_of s t past) [] → Labelled (map_of D (base_of s t past) []) Lv Lf
        unfolding kind_of
        labelled S = record { vertex = base_labels 1 (omega arith); side = base_labels 0 (omega arith) }

        replay_test : (k : ℕ) → k ≤ 1 → replayed k (M.label k) (history_in D n v) ≡ replays (kind_of k) (M.label k) (reverse past)
        replay_test k b =
            replay_alike k (omega arith) (alike_refl (M.label k)) (history_in D n v) ∙ ap (replays (kind_of k) (M.label k)) history

        passed : ((k : ℕ) → k ≤ 1 → T (replays (kind_of k) (M.label k) (reverse past))) → Passed Lv Lf s t past
        unfolding kind_of
        passed f = record {
          count = dart_count_lem A.room;
          size = A.stands.size;
          shape = rw (reverse-reverse hs, ← told) (true→T shape);
          numbers = A.numbers;
          links = (linked_stands D t past A.room.even A.stands.size).1 A.stands;
          back = rw (all_back fits_stand n w A, ← back) (true→T fine);
          vertices = f 1 (omega arith);
          faces = f 0 (omega arith);
        }

        replays_both : Passed Lv Lf s t past → (k : ℕ) → k ≤ 1 → T (replays (kind_of k) (M.label k) (reverse past))
        unfolding kind_of
        replays_both P zero b = P.faces
        replays_both P (suc zero) b = P.vertices
        replays_both P (suc (suc k)) b = absurd (omega arith)

        passes : T r ↔ Pyramid (counted s t past) t past
        passes =
            let d = figures_decide Lv Lf s t past labelled in
            let i = passed_iff Lv Lf s t past in (
              λ x. d.0 (i.1 (passed (λ k b. rw (replay_test k b) at (M.answer.0 x k b)))),
              λ P. M.answer.1 (λ k b. rw (replay_test k b) (replays_both (i.0 (d.1 P)) k b)),
            )

        -- BOTH KINDS REPLAYED DECIDE, AND THE FOREST JUDGES THE COMING KERNEL
        pub decided : Decided s coming w w' r
        decided = record {
          answer = decision r passes;
          size = M.outside.size ∙ B.size;
          rest = M.outside.rest ∙ v_rest;
          falls = λ e b. (M.grown e b).falls;
          roots = λ e b.
              labels_alike
              (rw ((M.grown e b).roots, ← history) (rejoined_alike coming (omega arith) (alike_refl (M.label coming)) (history_in D n v)))
              (labels_at_top (counted s t past) t past (passes.0 (true→T e)) (kind_of coming) (M.label coming) (base_labels coming b));
          kept = λ _ none. subst (λ (u : List ℕ). Outside D u w') (v_same none) M.outside;
        }

        -- ---- the numbers of the present level

        left_contractions : contractions_in (history_in D (length past) w') ≡ contractions_in past
        left_contractions =
            ap contractions_in (rw count (ap (take (3 * D + n - 3 * D)) M.outside.rest ∙ history)) ∙ contractions_reverse past

        left_fits : 3 * D + length past ≤ length w'
        left_fits = rw count (omega (arith, A.few, A.room.fits, B.size, M.outside.size))

        module _ (yes_decided : r ≡ true) {f : Cycles} (C : CyclesAre D (table_in D v) [] f.vertices f.faces) where
          base_cycles : CyclesAre D (base_of s t past) [] f.vertices f.faces
          base_cycles = subst (λ (l : List ℕ). CyclesAre D l [] f.vertices f.faces) base C

          pub decided_takes : Takes (3 * D) n w' f
          decided_takes =
              subst (λ (c : ℕ). Takes (3 * D) c w' f) count
              (takes_of (passes.0 (true→T yes_decided)) (3 * D) w' left_contractions left_fits base_cycles)

          -- THE BASE'S NUMBERS, LESS ONE FOR EACH OPERATION OF THEIR KIND
          pub decided_are : {g : Cycles} → Taken (3 * D) n w' f g → CyclesAre D t past g.vertices g.faces
          decided_are {g} T =
              taken_are (passes.0 (true→T yes_decided)) (3 * D) w' left_contractions left_fits base_cycles
              (subst (λ (c : ℕ). Taken (3 * D) c w' f g) (sym count) T)

-- ---- the coming kernel

pub decided_coming : {s : State} {k coming : ℕ} {w w' : List ℕ} {r : Bool} → (coming ≤ 1 → k ≡ coming) → Decided s k w w' r → Decided s coming w w' r
decided_coming same δ = record {
  answer = δ.answer;
  size = δ.size;
  rest = δ.rest;
  falls = λ e b. δ.falls e (rw (same b) b);
  roots = λ e b. rw (← (same b)) (δ.roots e (rw (same b) b));
  kept = δ.kept;
}
