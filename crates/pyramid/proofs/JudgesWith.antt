-- What a call with sheets is judged, in code.
--   with_first   == 1 or 2: nothing is written
--   refused_four == 4: the work area is cleared
--   with_no      == it is no pyramid: 4, and the work area is cleared
--   with_wrong   == the sheets are not right: 4 too
--   with_yes     == it is a pyramid, and its sheets are right
--   plain_judged == where it is done, so is the plain call
--   costed_of, righted_of == a pyramid and its sheets, lent with room
use mathlib.Core.Bool.{Bool, true, false}
use mathlib.Core.List.{List, reverse}
use mathlib.Core.Logic.{◌≢◌}
use mathlib.Core.Path.{◌≡◌, refl, sym, ap, subst, ◌∙◌}
use Prim.Native.Nat.{ℕ, ◌+◌, ◌*◌, ◌/◌}
use native.Mathlib.Decide.{ℕ_discrete}
use native.Mathlib.Omega.{arith}
use lib.Dec.{T}
use lib.ListN.{get_or, length, drop}
use lib.Seq.{get_or-drop}
use Rattle.permutations.specs.Choice.{eqb_other}
use Rattle.darts.specs.Answers.{Answer, done, no_pyramid}
use Rattle.darts.specs.State.{State}
use Rattle.darts.specs.Pyramid.{Pyramid, is_pyramid}
use Rattle.darts.specs.Calls.{fitting, table_of, past_of, cleared, work_after}
use Rattle.darts.proofs.Fitting.{Lengths, first_keeps}
use Rattle.darts.proofs.Fitting as Plain
use Rattle.laws.proofs.calls.Cleared.{cleared_kept}
use Rattle.laws.proofs.calls.Judging.{Lent, judged_lent}
use Rattle.laws.proofs.claims.Decided.{pyramid_decided}
use Rattle.engine.specs.Held.{Beyond}
use Rattle.engine.proofs.Area.{room_kept}
use Rattle.engine.proofs.Ready.{beyond_trans}
use Rattle.forest.specs.Forest.{root}
use Rattle.sheets.specs.Sheets.{Sheets}
use Rattle.sheets.specs.Notes.{merge_in, notes_in, right_in}
use Rattle.yarn.specs.Given.{given}
use Rattle.yarn.specs.Calls.{fitting_of, base_of, judged}
use Rattle.yarn.proofs.sentences.Lengths.{Room as SheetRoom, Fits, room?, fitting_plain, fitting_narrow, fitting_fine}
use Rattle.yarn.proofs.sentences.Judging.{Costed, judged_other, judged_strange, judged_costed, judged_done}
use Rattle.noting.specs.Checks.{NoteChecked, Reloads, Reloaded}
use Rattle.noting.proofs.Deciding.{given_told}
use Rattle.pyramid.specs.Costs.{JudgedWith, Righted}
use Rattle.pyramid.specs.Steps.{Judged}
use Rattle.pyramid.proofs.Sized.{fine_fits, fine_asks}

-- the notes stand in the half of the history's part that a load leaves
notes_kept : (D : ℕ) (v u : List ℕ) → drop (3 * D + D / 2) u ≡ drop (3 * D + D / 2) v → (i : ℕ) → notes_in D u i ≡ notes_in D v i
unfolding notes_in
notes_kept D v u e i =
    let k : ℕ = 3 * D + D / 2 in
    ap merge_in (sym (get_or-drop k u i 0) ∙ ap (λ l. get_or l i 0) e ∙ get_or-drop k v i 0)

-- 1 and 2 write nothing
fitting_keeps : (D : ℕ) (t h w : List ℕ) (S : Sheets) → (fitting_of D t h w S).number ≢ 0 → work_after (fitting_of D t h w S) D w ≡ w
unfolding work_after
fitting_keeps D t h w S n = go (ℕ_discrete (fitting D (length t) (length h) (length w)).number 0) (room? D t h w S)
  where
    go : Dec ((fitting D (length t) (length h) (length w)).number ≡ 0) → Dec (SheetRoom D S) → work_after (fitting_of D t h w S) D w ≡ w
    go (no m) r = rw (fitting_plain D t h w S m) (first_keeps D (length t) (length h) (length w) m D w)
    go (yes e) (no m) = rw (fitting_narrow D t h w S (Plain.fits D (length t) (length h) (length w) e).count m)
    go (yes e) (yes r) =
        let F = Plain.fits D (length t) (length h) (length w) e in
        absurd (n (ap (λ (a : Answer). a.number) (fitting_fine D t h w S (record { count = F.count; lengths = F.lengths; room = r }))))

module _ (s : State) (t h w : List ℕ) (S : Sheets) where
  pub with_first : {a : Answer} → a ≡ fitting_of s.darts t h w S → a.number ≢ 0 → JudgedWith s t h w w S a
  unfolding judged
  with_first {a} E n =
      let m : (fitting_of s.darts t h w S).number ≢ 0 = λ z. n (ap (λ (b : Answer). b.number) E ∙ z) in
      rw E (record {
        answer = rw (eqb_other m);
        refused = λ _. sym (fitting_keeps s.darts t h w S m);
        beyond = λ z. absurd (m z);
        stood = λ z. absurd (m z);
      })

  module _ (fine : (fitting_of s.darts t h w S).number ≡ 0) where
    F : Fits s.darts t h w S
    F = fine_fits s.darts t h w S fine

    pub refused_four : {v : List ℕ} → Beyond s.darts w v → no_pyramid ≡ judged s t h w S → JudgedWith s t h w (cleared s.darts v) S no_pyramid
    unfolding work_after
    refused_four {v} B e = record {
      answer = e;
      refused = λ _. cleared_kept s.darts w v B.rest;
      beyond = λ z. absurd (omega arith);
      stood = λ z. absurd (omega arith);
    }

    pub with_no : {v : List ℕ} → Beyond s.darts w v → is_pyramid s (table_of s t) (past_of s h) ≡ false
        → JudgedWith s t h w (cleared s.darts v) S no_pyramid
    with_no B e =
        refused_four B (sym (judged_other s t h w S F (λ P. subst T e ((pyramid_decided s (table_of s t) (past_of s h)).1 P))))

    module _ {v : List ℕ} {r : Bool} (C : NoteChecked s t h w v r) where
      module _ (yes : r ≡ true) where
        abbrev D : ℕ
        D = s.darts

        abbrev b : List ℕ
        b = base_of s (table_of s t) (past_of s h)

        abbrev hs : List ℕ
        hs = reverse (past_of s h)

        told : right_in D v S (D + s.operations) 0 ≡ given D b hs S
        told = given_told (C.holds yes) S

        pub with_wrong : {x : Bool} → x ≡ right_in D v S (D + s.operations) 0 → x ≡ false → JudgedWith s t h w (cleared D v) S no_pyramid
        with_wrong e f =
            refused_four C.beyond (sym (judged_strange s t h w S F (λ g. subst T (sym told ∙ sym e ∙ f) g)))

        pub reloads : Reloads s t h v
        reloads =
            record {
              room = room_kept w v C.beyond.size (fine_asks s.darts t h w S fine).0;
              long = F.lengths.table;
              enough = F.lengths.history;
              pyramid = subst T (sym yes ∙ C.answer) tt;
              falls = C.falls yes;
              roots = C.roots yes;
            }

        pub with_yes : Pyramid s (table_of s t) (past_of s h) → {x : Bool} → x ≡ right_in D v S (D + s.operations) 0 → x ≡ true
            → {u : List ℕ} → Reloaded s t h v u → JudgedWith s t h w u S done
        with_yes P e k {u} R =
            let B = beyond_trans C.beyond R.beyond in
            let L : Lent s t h u = record { pyramid = P; lengths = subst (λ n. Lengths D (length t) (length h) n) (sym B.size) F.lengths } in
            let H = C.holds yes in
            record {
              answer = sym (judged_costed s t h w S (record {
                lent = record { pyramid = P; lengths = F.lengths };
                room = F.room;
                right = subst T (sym k ∙ e ∙ told) tt;
              }));
              refused = λ n. absurd (n refl);
              beyond = λ _. B;
              stood = λ _. record {
                stood = record {
                  answer = sym (judged_lent s t h u L);
                  refused = λ n. absurd (n refl);
                  checked = λ _. record {
                    answer = sym yes ∙ C.answer;
                    beyond = record { size = refl; rest = refl };
                    area = λ _. R.ready.area;
                    table = λ _. R.table;
                    past = λ _. R.past;
                    ready = λ _ _. R.ready;
                  };
                };
                notes = λ i l. notes_kept D v u R.notes i ∙ H.told.notes i l;
                zones = λ x l. ap (λ f. root f x) R.forest ∙ H.zones x l;
              };
            }

module _ {s : State} {t h w v : List ℕ} {S : Sheets} {a : Answer} (J : JudgedWith s t h w v S a) (fine : a.number ≡ 0) where
  pub costed_of : Costed s t h w S
  costed_of = judged_done s t h w S (sym (ap (λ (b : Answer). b.number) J.answer) ∙ fine)

  pub righted_of : Righted s t h S
  righted_of = let C = costed_of in record { given = C.right; sheet = C.room.sheet; kept = C.room.kept }

  -- WHERE IT IS DONE, SO IS THE PLAIN CALL
  pub plain_judged : Judged s 1 t h w v done
  plain_judged =
      let K = (J.stood fine).stood.checked refl in
      record {
        answer = sym (judged_lent s t h w costed_of.lent);
        refused = λ n. absurd (n refl);
        checked = λ _. record {
          answer = K.answer;
          beyond = J.beyond fine;
          area = K.area;
          table = K.table;
          past = K.past;
          ready = K.ready;
        };
      }
