-- What a call on a state is judged, in code.
--   check_fits   == neither 1 nor 2: what the check asks
--   fits_with, checked_with, cycles_with == what is asked and told of a state's figures, as of the state
--   counted_same == a state that stores its numbers has those that are counted
--   found_decides == the numbers that the check found, compared to the stored ones, say whether it is a pyramid
--   found_some   == where it is one, the check found some
--   judged_first == 1 or 2: nothing is written
--   judged_no    == no: 4, and the work area is cleared
--   judged_yes   == yes
--   lent_of      == done: a pyramid is lent, with room
--   stacked_of   == the work area holds it
--   stood_of     == so that what comes next stands on it
--   any_kind     == where no kernel is coming, or one that is not judged, any forest will do
--   relabelled   == the forest of another kind, made on the map as it stands
--   room_then    == and what comes next in the work area has its room
use mathlib.Core.Bool.{Bool, true, false}
use mathlib.Core.List.{List}
use mathlib.Core.Logic.{◌≢◌, ◌↔◌}
use mathlib.Core.Path.{◌≡◌, refl, sym, ap, subst, ◌∙◌}
use Prim.Native.Nat.{ℕ, ◌/◌, ◌≤◌}
use native.Mathlib.Omega.{arith}
use lib.Dec.{T, eqb}
use lib.ListN.{length}
use Rattle.permutations.specs.Choice.{T-ext, eqb_iff, and_iff}
use Rattle.darts.specs.Answers.{Answer, done, no_pyramid}
use Rattle.std.proofs.Common.{if◌then◌else◌}
use Rattle.std.specs.Prelude.{Option, Some, None, is_some}
use Rattle.darts.specs.Pyramid.{is_pyramid}
use Rattle.darts.specs.State.{State, counted}
use Rattle.darts.specs.Calls.{fitting, table_of, past_of, judged, cleared, work_after}
use Rattle.laws.proofs.calls.Cleared.{cleared_kept}
use Rattle.darts.proofs.Fitting.{Lengths, fits, first_keeps}
use Rattle.laws.proofs.calls.Judging.{Lent, judged_unfit, judged_fit, judged_lent, judged_done}
use Rattle.laws.proofs.claims.Decided.{pyramid_decided}
use Rattle.laws.proofs.runs.Ends.{Stores, state_path}
use Rattle.laws.proofs.runs.Pyramids.{pyramid_built}
use Rattle.area.specs.Area.{Room}
use Rattle.area.specs.Shape.{state_with}
use Rattle.area.specs.declared.Figures.{Figures}
use Rattle.engine.specs.Checks.{Checked}
use Rattle.engine.specs.Counted.{CyclesAre, FindsCycles}
use Rattle.engine.specs.declared.Cycles.{Cycles}
use Rattle.engine.specs.Held.{Beyond}
use Rattle.engine.proofs.Area.{room_kept}
use Rattle.engine.proofs.Checking.{checked_pyramid}
use Rattle.operations.specs.Cycles.{Labelled}
use Rattle.engine.proofs.Beside.{beside_table, beside_past}
use Rattle.engine.proofs.Labelled.{labelled_ready, labelled_beyond}
use Rattle.engine.proofs.Ready.{beyond_refl}
use Rattle.pyramid.specs.Steps.{stored, Judged, Stood, Stacked}
use Rattle.pyramid.specs.Values.{figures_of}

pub check_fits : {D t h : ℕ} {w : List ℕ} {a : Answer} → a ≡ fitting D t h (length w) → a.number ≡ 0 → Room D w × ((D ≤ t) × (D / 2 ≤ h))
check_fits {D} {t} {h} {w} E fine =
    let f = fits D t h (length w) (sym (ap (λ (b : Answer). b.number) E) ∙ fine) in
    let m = f.count.some in (
      record { even = f.count.even; some = omega arith; small = f.count.small; fits = f.lengths.work },
      (f.lengths.table, f.lengths.history),
    )

-- ---- the numbers

pub counted_same : {s : State} {t past : List ℕ} → Stores s t past → counted s t past ≡ s
counted_same N = state_path refl refl refl refl (sym N.vertices) (sym N.faces)

-- what the check found, compared to the numbers that are stored
module _ (s : State) (t past : List ℕ) where
  still : T (is_pyramid s t past) → T (is_pyramid (counted s t past) t past)
  still q = subst (λ (z : State). T (is_pyramid z t past)) (sym (counted_same (pyramid_built ((pyramid_decided s t past).0 q)).stored)) q

  module _ {c : Cycles} (C : true ≡ is_pyramid (counted s t past) t past) (N : CyclesAre s.darts t past c.vertices c.faces) where
    stored_iff : T (stored s (Some c)) ↔ ((c.vertices ≡ s.vertices) × (c.faces ≡ s.faces))
    stored_iff = and_iff (eqb c.vertices s.vertices) (eqb c.faces s.faces) (eqb_iff c.vertices s.vertices) (λ _. eqb_iff c.faces s.faces)

    found_yes : T (stored s (Some c)) → T (is_pyramid s t past)
    found_yes q =
        let Y = stored_iff.0 q in
        let S : Stores s t past = record { vertices = sym Y.0 ∙ N.vertices; faces = sym Y.1 ∙ N.faces } in
        subst (λ (z : State). T (is_pyramid z t past)) (counted_same S) (subst T C tt)

    yes_found : T (is_pyramid s t past) → T (stored s (Some c))
    yes_found q =
        let S = (pyramid_built ((pyramid_decided s t past).0 q)).stored in
        stored_iff.1 (N.vertices ∙ sym S.vertices, N.faces ∙ sym S.faces)

  -- "a state whose numbers differ from the cycles is no pyramid"
  pub found_decides : (r : Option Cycles) → is_some r ≡ is_pyramid (counted s t past) t past → FindsCycles s.darts t past r
      → stored s r ≡ is_pyramid s t past
  found_decides (Some c) C N = T-ext (stored s (Some c)) (is_pyramid s t past) (found_yes C N) (yes_found C N)
  found_decides None C N = T-ext false (is_pyramid s t past) (λ q. absurd q) (λ q. subst T (sym C) (still q))

pub found_some : (s : State) (r : Option Cycles) → stored s r ≡ true → is_some r ≡ true
found_some s (Some c) e = refl
found_some s None e = e

-- ---- judged

module _ {s : State} {k : ℕ} {t h w : List ℕ} {a : Answer} (E : a ≡ fitting s.darts (length t) (length h) (length w)) where
  pub judged_first : a.number ≢ 0 → Judged s k t h w w a
  judged_first n =
      let m : (fitting s.darts (length t) (length h) (length w)).number ≢ 0 = λ e. n (ap (λ (b : Answer). b.number) E ∙ e) in
      rw E (record {
        answer = sym (judged_unfit s t h w m);
        refused = λ _. sym (first_keeps s.darts (length t) (length h) (length w) m s.darts w);
        checked = λ e. absurd (m e);
      })

  module _ (fine : a.number ≡ 0) {v : List ℕ} (r : Option Cycles) (C : Checked s k t h w v (is_some r))
      (F : FindsCycles s.darts (table_of s t) (past_of s h) r) {b : Bool} (is : b ≡ stored s r) where
    told : (c : Bool) → b ≡ c → (if c then done else no_pyramid) ≡ judged s t h w
    told c e =
        sym (judged_fit s t h w (sym (ap (λ (b : Answer). b.number) E) ∙ fine) c
        (sym (found_decides s (table_of s t) (past_of s h) r C.answer F) ∙ sym is ∙ e))

    pub judged_no : b ≡ false → Judged s k t h w (cleared s.darts v) no_pyramid
    unfolding work_after
    judged_no e = record {
      answer = told false e;
      refused = λ _. cleared_kept s.darts w v C.beyond.rest;
      checked = λ z. absurd (omega arith);
    }

    pub judged_yes : b ≡ true → Judged s k t h w v done
    judged_yes e = record {
      answer = told true e;
      refused = λ n. absurd (n refl);
      checked = λ _. subst (λ (q : Bool). Checked s k t h w v q) (found_some s r (sym is ∙ e)) C;
    }

module _ {s : State} {k : ℕ} {t h w v : List ℕ} {a : Answer} (J : Judged s k t h w v a) (fine : a.number ≡ 0) where
  pub lent_of : Lent s t h w
  lent_of = judged_done s t h w (sym (ap (λ (b : Answer). b.number) J.answer) ∙ fine)

  pub stacked_of : Stacked s v
  stacked_of =
      let C = J.checked fine in
      record { pyramid = rw (C.table refl, C.past refl) (checked_pyramid C refl); area = C.area refl }

  pub room_then : {u : List ℕ} → Beyond s.darts v u → Room s.darts u
  room_then {u} B = room_kept v u B.size ((J.checked fine).area refl).room

  -- the work area has its length still
  lent_still : Lent s t h v
  lent_still =
      let L = lent_of in
      record {
        pyramid = L.pyramid;
        lengths = subst (λ n. Lengths s.darts (length t) (length h) n) (sym (J.checked fine).beyond.size) L.lengths;
      }

  pub stood_of : Stood s k t h v
  stood_of =
      let C = J.checked fine in
      record {
        answer = sym (judged_lent s t h v lent_still);
        refused = λ n. absurd (n refl);
        checked = λ _. record {
          answer = C.answer;
          beyond = beyond_refl s.darts v;
          area = C.area;
          table = C.table;
          past = C.past;
          ready = C.ready;
        };
      }

-- THE FOREST IS NOT ASKED
pub any_kind : {s : State} {k : ℕ} {t h w : List ℕ} → Stood s k t h w → Stood s 2 t h w
any_kind Z =
    let C = Z.checked refl in
    record {
      answer = Z.answer;
      refused = λ n. absurd (n refl);
      checked = λ _. record { answer = C.answer; beyond = C.beyond; area = C.area; table = C.table; past = C.past; ready = λ _ l. absurd (omega arith) };
    }

pub relabelled : {s : State} {k j : ℕ} {t h w v : List ℕ} → Stood s k t h w → j ≤ 1 → Labelled s.darts j w v → Judged s j t h w v done
relabelled {s} Z few L =
    let C = Z.checked refl in
    let o = L.outside in
    let R = labelled_ready (C.area refl) few L in
    record {
      answer = Z.answer;
      refused = λ n. absurd (n refl);
      checked = λ _. record {
        answer = C.answer;
        beyond = labelled_beyond (C.area refl) few L;
        area = λ _. R.area;
        table = λ _. beside_table o ∙ C.table refl;
        past = λ _. beside_past o s.operations ∙ C.past refl;
        ready = λ _ _. R;
      };
    }

-- ---- a state's figures

pub fits_with : {f : Figures} {s : State} → state_with f ≡ s → {w : List ℕ} {t h : ℕ} → Room s.darts w × ((s.darts ≤ t) × (s.darts / 2 ≤ h))
    → Room f.darts w × ((f.darts ≤ t) × (f.darts / 2 ≤ h))
fits_with same {w} {t} {h} = subst (λ (z : State). Room z.darts w × ((z.darts ≤ t) × (z.darts / 2 ≤ h))) (sym same)

-- the check does not look at the stored numbers
checked_figures : {s : State} {k : ℕ} {t h w v : List ℕ} {p : Bool} → Checked (figures_of s) k t h w v p → Checked s k t h w v p
unfolding table_of past_of
checked_figures C = record { answer = C.answer; beyond = C.beyond; area = C.area; table = C.table; past = C.past; ready = C.ready }

pub checked_with : {f : Figures} {s : State} → state_with f ≡ figures_of s
    → {k : ℕ} {t h w v : List ℕ} {p : Bool} → Checked (state_with f) k t h w v p → Checked s k t h w v p
checked_with same {k} {t} {h} {w} {v} {p} C = checked_figures (subst (λ (z : State). Checked z k t h w v p) same C)

pub cycles_with : {f : Figures} (s : State) → state_with f ≡ figures_of s → (t h : List ℕ) (r : Option Cycles)
    → FindsCycles f.darts (table_of (state_with f) t) (past_of (state_with f) h) r → FindsCycles s.darts (table_of s t) (past_of s h) r
unfolding table_of past_of
cycles_with s same t h r = subst (λ (z : State). FindsCycles z.darts (table_of z t) (past_of z h) r) same
