-- What calls with sheets are judged, and how they end.
--   LentWith s t h w S == a pyramid lent with room, and given sheets lent with room
--   judged_lent        == of which `judged` is done
--   judged_done        == and where it is done, it is so
--   Refused            == refused with 1, 2 or 4
--   with_lent, with_refused == what a call with sheets then leaves
--   with_plain         == where it is done it leaves what the plain call leaves
--   with_accepted      == where it answers 0 it was lent so
use mathlib.Core.Bool.{Bool, true, false, ◌&&◌}
use mathlib.Core.List.{List, reverse}
use mathlib.Core.Logic.{◌≢◌}
use mathlib.Core.Path.{◌≡◌, sym, ap, ◌∙◌}
use Prim.Native.Nat.{ℕ, ◌*◌, ◌/◌, ◌≤◌}
use native.Mathlib.Decide.{ℕ_discrete}
use native.Mathlib.Omega.{arith}
use lib.Dec.{T, leb, leb→le, le→leb}
use lib.ListN.{length}
use Rattle.permutations.specs.Choice.{pick, T?, T→true, not_T→false, and_intro, and_left, and_right, eqb_same, eqb_other}
use Rattle.darts.specs.Answers.{Answer, done, no_dart_count, too_short, no_pyramid}
use Rattle.darts.specs.State.{State, gives, refuses}
use Rattle.darts.specs.Pyramid.{is_pyramid}
use Rattle.darts.specs.Calls.{fitting as fittingPlain, table_of, past_of, hands_back, on_state}
use Rattle.darts.proofs.Fitting.{Count, Lengths, count_facts, no_count_lem, short, fine}
use Rattle.laws.proofs.claims.Decided.{pyramid_decided}
use Rattle.laws.proofs.calls.Judging.{Lent, Judging, judging, judged_fit, judged_done as plain_done, on_lent}
use Rattle.laws.proofs.calls.Judging as plainly
use Rattle.laws.proofs.chained.Steps.{Step}
use Rattle.sheets.specs.Sheets.{Sheets}
use Rattle.yarn.specs.Given.{given}
use Rattle.yarn.specs.Calls.{Costed, costed, fitting, fitting_of, base_of, judged, carried_to, sheets_after, on_sheets}

module _ (s : State) (t h w : List ℕ) (S : Sheets) where
  abbrev D : ℕ
  D = s.darts

  abbrev table : List ℕ
  table = table_of s t

  abbrev past : List ℕ
  past = past_of s h

  pub record LentWith : Type 0 where
    pub lent : Lent s t h w
    pub sheet : D ≤ length S.sheet
    pub kept : D / 2 ≤ length S.kept
    pub given : T (given D (base_of s table past) (reverse past) S)

  abbrev plain : Answer
  plain = fittingPlain D (length t) (length h) (length w)

  -- "D places", "D/2 places"
  abbrev long : Bool
  long = leb D (length S.sheet)

  abbrev keeps : Bool
  keeps = leb (D / 2) (length S.kept)

  abbrev room : Bool
  room = long && keeps

  abbrev pyramid : Bool
  pyramid = is_pyramid s table past

  abbrev comes : Bool
  comes = given D (base_of s table past) (reverse past) S

  abbrev right : Bool
  right = pyramid && comes

  fits_not : plain.number ≢ 0 → judged s t h w S ≡ plain
  unfolding judged fitting_of fitting
  fits_not n = rw (eqb_other n, eqb_other n)

  fits_short : plain.number ≡ 0 → room ≡ false → judged s t h w S ≡ too_short
  unfolding judged fitting_of fitting
  fits_short e r = rw (eqb_same e, r)

  fits_all : plain.number ≡ 0 → room ≡ true → (b : Bool) → right ≡ b → judged s t h w S ≡ pick b done no_pyramid
  unfolding judged fitting_of fitting
  fits_all e r b k = rw (eqb_same e, r, k)

  fits_zero : Count D → Lengths D (length t) (length h) (length w) → plain.number ≡ 0
  fits_zero C K = ap (λ (a : Answer). a.number) (sym (fine D (length t) (length h) (length w) C K))

  -- GIVEN SHEETS AND A PYRAMID, LENT WITH ROOM, ARE NOT REFUSED WITH 1, 2 OR 4
  pub judged_lent : LentWith → judged s t h w S ≡ done
  judged_lent L =
      let enough : room ≡ true = T→true room (and_intro long keeps (le→leb D (length S.sheet) L.sheet) (le→leb (D / 2) (length S.kept) L.kept)) in
      let is : right ≡ true = T→true right (and_intro pyramid comes ((pyramid_decided s table past).1 L.lent.pyramid) L.given) in
      fits_all (fits_zero (count_facts D L.lent.pyramid.count) L.lent.lengths) enough true is

  -- AND NOTHING ELSE IS SO
  pub judged_done : (judged s t h w S).number ≡ 0 → LentWith
  judged_done e = go (ℕ_discrete plain.number 0) (T? room) (T? right)
    where
      go : Dec (plain.number ≡ 0) → Dec (T room) → Dec (T right) → LentWith
      go (no n) r k = absurd (n (ap (λ (a : Answer). a.number) (sym (fits_not n)) ∙ e))
      go (yes z) (no r) k = absurd (let two : 2 ≡ 0 = rw (fits_short z (not_T→false room r)) at e in omega arith)
      go (yes z) (yes r) (no k) = absurd (let four : 4 ≡ 0 = rw (fits_all z (T→true room r) false (not_T→false right k)) at e in omega arith)
      go (yes z) (yes r) (yes k) =
          let is : pyramid ≡ true = T→true pyramid (and_left pyramid comes k) in
          record {
            lent = plain_done s t h w (ap (λ (a : Answer). a.number) (judged_fit s t h w z true is));
            sheet = leb→le D (length S.sheet) (and_left long keeps r);
            kept = leb→le (D / 2) (length S.kept) (and_right long keeps r);
            given = and_right pyramid comes k;
          }

  -- ---- refused with 1, 2 or 4

  pub data Refused : Type 0 where
    uncounted : judged s t h w S ≡ no_dart_count → Refused
    cramped : judged s t h w S ≡ too_short → Refused
    other : judged s t h w S ≡ no_pyramid → 4 * D ≤ length w → Refused

  pub refused : (judged s t h w S).number ≢ 0 → Refused
  refused n = go (judging s t h w)
    where
      rest : Count D → Lengths D (length t) (length h) (length w) → Dec (T room) → Dec (T right) → Refused
      rest C K (no r) k = cramped (fits_short (fits_zero C K) (not_T→false room r))
      rest C K (yes r) (no k) = other (fits_all (fits_zero C K) (T→true room r) false (not_T→false right k)) K.work
      rest C K (yes r) (yes k) = absurd (n (ap (λ (a : Answer). a.number) (fits_all (fits_zero C K) (T→true room r) true (T→true right k))))

      go : Judging s t h w → Refused
      go (plainly.uncounted m j) =
          let e = no_count_lem D (length t) (length h) (length w) m in
          uncounted (fits_not (rw (← e) (λ z. omega arith)) ∙ sym e)
      go (plainly.cramped C m j) =
          let e = short D (length t) (length h) (length w) C m in
          cramped (fits_not (rw (← e) (λ z. omega arith)) ∙ sym e)
      go (plainly.other C K m j) = rest C K (T? room) (T? right)
      go (plainly.lent L j) = rest (count_facts D L.pyramid.count) L.lengths (T? room) (T? right)

  module _ (f : Step) where
    -- ---- what a call leaves

    pub with_lent : LentWith → on_sheets f s t h w S ≡ costed (hands_back s t h w (f s table past)) (sheets_after s table past S (f s table past))
    unfolding on_sheets
    with_lent L = rw (judged_lent L)

    -- "A refusal changes nothing but the work area.": neither sheet
    pub with_refused : (judged s t h w S).number ≢ 0 → on_sheets f s t h w S ≡ costed (hands_back s t h w (refuses (judged s t h w S))) S
    unfolding on_sheets sheets_after
    with_refused n = rw (eqb_other n)

    -- THE PLAIN CALL'S OWN
    pub with_plain : LentWith → (on_sheets f s t h w S).plain ≡ on_state f s t h w
    with_plain L = ap (λ (c : Costed). c.plain) (with_lent L) ∙ sym (on_lent s t h w f L.lent)

    pub with_sheets : LentWith → {z : State} {u new : List ℕ} → f s table past ≡ gives z u new
        → (on_sheets f s t h w S).sheets ≡ carried_to D (base_of s table past) past new S
    unfolding sheets_after
    with_sheets L e = ap (λ (c : Costed). c.sheets) (with_lent L) ∙ ap (sheets_after s table past S) e

    pub with_accepted : (on_sheets f s t h w S).plain.answer.number ≡ 0 → LentWith
    unfolding hands_back
    with_accepted e = go (ℕ_discrete (judged s t h w S).number 0)
      where
        go : Dec ((judged s t h w S).number ≡ 0) → LentWith
        go (yes z) = judged_done z
        go (no n) = absurd (n (ap (λ (c : Costed). c.plain.answer.number) (sym (with_refused n)) ∙ e))
