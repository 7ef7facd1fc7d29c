-- The ways that the check beside the records ends, and the judgement with the records after it.
--   fitting_of_lem == answers 1 and 2 by the lengths of the sheets
--   noted_of, reloads_of, reloaded_of == the same of the state that figures are
--   check_no      == it is no pyramid, or its numbers are wrong: 4, and the work area is cleared
--   check_yes     == it is one with its numbers: notes and links stand in the work area
--   right_asks    == then the records can be looked at
--   accept_asks, accepted == they are right
--   refuse_asks, wronged  == they are not
use mathlib.Core.Bool.{Bool, true, false}
use mathlib.Core.List.{List}
use mathlib.Core.Path.{◌≡◌, refl, sym, ap₂, subst, ◌∙◌}
use Prim.Native.Nat.{ℕ, ◌+◌, ◌≤◌}
use native.Mathlib.Omega.{arith}
use lib.ListN.{length}
use Rattle.std.specs.Prelude.{Option, is_some}
use Rattle.permutations.specs.Choice.{true→T}
use Rattle.laws.proofs.claims.Decided.{pyramid_decided}
use Rattle.darts.specs.Answers.{Answer, done, no_pyramid}
use Rattle.darts.specs.Pyramid.{is_pyramid}
use Rattle.darts.specs.State.{State}
use Rattle.darts.specs.Calls.{table_of, past_of, cleared}
use Rattle.area.specs.Area.{Room}
use Rattle.engine.specs.Counted.{FindsCycles}
use Rattle.engine.specs.declared.Cycles.{Cycles}
use Rattle.sheets.specs.Sheets.{Sheets}
use Rattle.sheets.specs.Notes.{right_in, Linked}
use Rattle.yarn.specs.Calls.{fitting, fitting_of, base_of}
use Rattle.noting.specs.Checks.{NoteChecked, Reloads, Reloaded}
use Rattle.pyramid.specs.Costs.{JudgedWith}
use Rattle.pyramid.specs.Checking.{CheckedWith}
use Rattle.pyramid.specs.Steps.{stored}
use Rattle.pyramid.proofs.Judges.{found_decides, found_some}
use Rattle.pyramid.proofs.JudgesWith.{with_no, with_wrong, reloads, with_yes}
use Rattle.pyramid.proofs.Sized.{fine_fits}
use Rattle.pyramid.specs.Values.{figures_of}

pub fitting_of_lem : (D : ℕ) (t h w : List ℕ) (S : Sheets) {k l : ℕ} → length S.sheet ≡ k → length S.kept ≡ l
    → fitting_of D t h w S ≡ fitting D (length t) (length h) (length w) k l
unfolding fitting_of
fitting_of_lem D t h w S e f = ap₂ (λ (k l : ℕ). fitting D (length t) (length h) (length w) k l) e f

-- ---- the state's figures

-- the check does not look at the stored numbers
module _ {s : State} {t h w : List ℕ} where
  noted_figures : {v : List ℕ} {r : Bool} → NoteChecked (figures_of s) t h w v r → NoteChecked s t h w v r
  unfolding table_of past_of base_of
  noted_figures N = record { answer = N.answer; beyond = N.beyond; falls = N.falls; roots = N.roots; holds = N.holds }

  figures_reload : Reloads s t h w → Reloads (figures_of s) t h w
  unfolding table_of past_of
  figures_reload R = record { room = R.room; long = R.long; enough = R.enough; pyramid = R.pyramid; falls = R.falls; roots = R.roots }

  reloaded_figures : {v : List ℕ} → Reloaded (figures_of s) t h w v → Reloaded s t h w v
  unfolding table_of past_of
  reloaded_figures R = record { ready = R.ready; table = R.table; past = R.past; forest = R.forest; notes = R.notes; beyond = R.beyond }

module _ {p s : State} (same : p ≡ figures_of s) where
  module _ {t h w : List ℕ} where
    pub noted_of : {v : List ℕ} {r : Bool} → NoteChecked p t h w v r → NoteChecked s t h w v r
    noted_of {v} {r} N = noted_figures (subst (λ (z : State). NoteChecked z t h w v r) same N)

    pub reloads_of : Reloads s t h w → Reloads p t h w
    reloads_of R = subst (λ (z : State). Reloads z t h w) (sym same) (figures_reload R)

    pub reloaded_of : {v : List ℕ} → Reloaded p t h w v → Reloaded s t h w v
    reloaded_of {v} R = reloaded_figures (subst (λ (z : State). Reloaded z t h w v) same R)

-- ---- beside the records

module _ (s : State) {t h w v : List ℕ} (r : Option Cycles) (N : NoteChecked s t h w v (is_some r))
    (F : FindsCycles s.darts (table_of s t) (past_of s h) r) {x : Bool} (is : x ≡ stored s r) where
  decides : x ≡ is_pyramid s (table_of s t) (past_of s h)
  decides = is ∙ found_decides s (table_of s t) (past_of s h) r N.answer F

  pub check_no : x ≡ false → CheckedWith s t h w (cleared s.darts v) no_pyramid
  check_no failed = record {
    refused = λ _ S fine. with_no s t h w S fine N.beyond (sym decides ∙ failed);
    noted = λ z. absurd (omega arith);
    pyramid = λ z. absurd (omega arith);
  }

  pub check_yes : x ≡ true → CheckedWith s t h w v done
  check_yes passed = record {
    refused = λ n. absurd (n refl);
    noted = λ _. subst (λ b. NoteChecked s t h w v b) (found_some s r (sym is ∙ passed)) N;
    pyramid = λ _. (pyramid_decided s (table_of s t) (past_of s h)).0 (true→T (sym decides ∙ passed));
  }

-- ---- the records

module _ {s : State} {t h w v : List ℕ} (K : CheckedWith s t h w v done) (C : Sheets) (fine : (fitting_of s.darts t h w C).number ≡ 0) where
  abbrev D : ℕ
  D = s.darts

  pub right_asks : Linked D s.operations v × (D ≤ length C.sheet) × (s.operations ≤ length C.kept)
  right_asks =
      let F = fine_fits D t h w C fine in
      let L = ((K.noted refl).holds refl).linked in
      (L, F.room.sheet, omega (arith, L.few, F.room.kept))

  pub accept_asks : Reloads s t h v
  accept_asks = reloads s t h w C fine (K.noted refl) refl

  pub refuse_asks : Room D v
  refuse_asks = accept_asks.room

  module _ {x : Bool} (told : x ≡ right_in D v C (D + s.operations) 0) {u : List ℕ} where
    pub accepted : x ≡ true → Reloaded s t h v u → JudgedWith s t h w u C done
    accepted right R = with_yes s t h w C fine (K.noted refl) refl (K.pyramid refl) told right R

    pub wronged : x ≡ false → {c : Answer} → (c ≡ no_pyramid) × (u ≡ cleared D v) → JudgedWith s t h w u C c
    wronged wrong (is, clears) = rw (is, clears) (with_wrong s t h w C fine (K.noted refl) refl told wrong)
