-- Places that are not looked at are neither read nor written.
--   Alike s t h S Z  == the sheets S and Z have the same lengths, and are the same wherever they are looked at
--   history_left c    == the history numbers that count after the call c
--   Same D b c d     == the calls c and d left the same answer, state, table, history and work area, and sheets that are alike again
--   judged_alike     == alike sheets are judged alike
--   state_alike      == a call does not tell alike sheets apart; instances for reduce, sweep, undo, unfold
--   Left D b hs S c  == the call c left what was there at every place that is not looked at, neither before it, after the operations hs, nor after it
--   state_left       == so does every call; instances
--   past_left        == such are the places past both counts
use mathlib.Core.Bool.{◌&&◌}
use mathlib.Core.List.{List, reverse, reverse-reverse}
use mathlib.Core.Logic.{◌⊎◌, inl, inr}
use mathlib.Core.Path.{◌≡◌, refl, sym, ap, ◌∙◌, subst}
use Prim.Native.Nat.{ℕ, ◌≤◌, ◌<◌}
use lib.Dec.{T}
use lib.ListN.{length, take, length-reverse}
use lib.Seq.{take_at}
use Rattle.permutations.specs.Choice.{T?, not_T→false}
use Rattle.slices.specs.Over.{over}
use Rattle.darts.specs.Operation.{Kind}
use Rattle.darts.specs.State.{State, Result, gives, refuses, reduce}
use Rattle.darts.specs.Levels.{sweep, undo_level, unfold_to}
use Rattle.darts.specs.Pyramid.{is_pyramid}
use Rattle.darts.specs.Calls.{table_of, past_of, hands_back}
use Rattle.laws.proofs.claims.Decided.{pyramid_decided}
use Rattle.laws.proofs.sentences.Steps.{Keeps, reduce_keeps, sweep_keeps, undo_keeps, unfold_keeps}
use Rattle.sheets.specs.Records.{at}
use Rattle.sheets.specs.Sheets.{Sheets, none}
use Rattle.yarn.specs.Places.{is_place, merges}
use Rattle.yarn.specs.Given.{Looked, given}
use Rattle.yarn.specs.Calls.{Costed, costed, fitting_of, base_of, judged, carried_to, sheets_after, on_sheets, reduce_with, sweep_with, undo_with, unfold_with}
use Rattle.yarn.proofs.sentences.Judging.{outcome, outcome_gives}
use Rattle.yarn.proofs.sentences.Agreeing.{right_agree}
use Rattle.yarn.proofs.sentences.Leaving.{Leaves, merges_past}
use Rattle.yarn.proofs.sentences.Carrying.{Agreed, Led, more_agree, fewer_agree, more_leaves, fewer_leaves}
use Rattle.yarn.proofs.sentences.Moves.{Moves, more, fewer, Moving, pyramid_led, reduce_moves, sweep_moves, undo_moves, unfold_moves}
use Rattle.yarn.proofs.sentences.Judging as J

abbrev pub history_left : Costed → List ℕ
history_left c = take c.plain.state.operations c.plain.history

pub record Same (D : ℕ) (b : List ℕ) (c d : Costed) : Type 0 where
  pub plain : c.plain ≡ d.plain
  pub sheet_length : length c.sheets.sheet ≡ length d.sheets.sheet
  pub kept_length : length c.sheets.kept ≡ length d.sheets.kept
  pub looked : Looked D b (history_left c) c.sheets d.sheets

pub record Left (D : ℕ) (b hs : List ℕ) (S : Sheets) (c : Costed) : Type 0 where
  pub sheet_length : length c.sheets.sheet ≡ length S.sheet
  pub kept_length : length c.sheets.kept ≡ length S.kept
  pub sheet : (x : ℕ) → ¬ ((x < D) × T (is_place D b x)) → at c.sheets.sheet x ≡ at S.sheet x
  pub kept : (i : ℕ) → merges D b hs i ≡ none → merges D b (history_left c) i ≡ none → at c.sheets.kept i ≡ at S.kept i

-- sheets that agree are looked at alike
agreed_looked : {D : ℕ} {b : List ℕ} (past : List ℕ) {S Z : Sheets} → Agreed D b past S Z → Looked D b (reverse past) S Z
agreed_looked past A = record { sheet = A.seen.sheet; kept = λ i l. A.seen.kept i (rw (length-reverse past) at l) }

looked_agreed : {D : ℕ} {b : List ℕ} (past : List ℕ) {S Z : Sheets} → length S.sheet ≡ length Z.sheet → length S.kept ≡ length Z.kept
    → Looked D b (reverse past) S Z → Agreed D b past S Z
looked_agreed past m n L = record { sheet_length = m; kept_length = n; seen = record { sheet = L.sheet; kept = λ i l. L.kept i (rw (length-reverse past) l) } }

module _ (s : State) (t h w : List ℕ) where
  abbrev D : ℕ
  D = s.darts

  abbrev table : List ℕ
  table = table_of s t

  abbrev past : List ℕ
  past = past_of s h

  -- the base of what is lent
  abbrev b : List ℕ
  b = base_of s table past

  pub record Alike (S Z : Sheets) : Type 0 where
    pub sheet_length : length S.sheet ≡ length Z.sheet
    pub kept_length : length S.kept ≡ length Z.kept
    pub looked : Looked D b (reverse past) S Z

  -- what a call counts as its history, before it
  before : take s.operations h ≡ reverse past
  unfolding past_of
  before = sym (reverse-reverse (take s.operations h))

  -- ---- alike sheets are judged alike

  module _ {S Z : Sheets} (A : Alike S Z) where
    agreed : Agreed D b past S Z
    agreed = looked_agreed past A.sheet_length A.kept_length A.looked

    fitting_alike : fitting_of D t h w S ≡ fitting_of D t h w Z
    unfolding fitting_of
    fitting_alike = rw (A.sheet_length, A.kept_length)

    told_alike : (is_pyramid s table past && given D b (reverse past) S) ≡ (is_pyramid s table past && given D b (reverse past) Z)
    unfolding given
    told_alike = go (T? (is_pyramid s table past))
      where
        go : Dec (T (is_pyramid s table past)) → (is_pyramid s table past && given D b (reverse past) S) ≡ (is_pyramid s table past && given D b (reverse past) Z)
        go (no n) = rw (not_T→false (is_pyramid s table past) n)
        go (yes k) =
            ap (λ c. is_pyramid s table past && c)
            (rw (length-reverse past) (right_agree (pyramid_led ((pyramid_decided s table past).0 k)) agreed))

    pub judged_alike : judged s t h w S ≡ judged s t h w Z
    unfolding judged
    judged_alike = rw (fitting_alike, told_alike)

  -- ---- what a step does to the sheets

  module _ (step : State → List ℕ → List ℕ → Result) (M : Moving step) (K : Keeps step) where
    -- what counts as the history then
    after : {z : State} {u new : List ℕ} (S : Sheets) → J.Costed s t h w S → step s table past ≡ gives z u new
        → take z.operations (over (reverse new) h) ≡ reverse new
    unfolding over
    after {z} {u} {new} S C e = take_at (reverse new) _ z.operations (length-reverse new ∙ (K.fitted C.lent.pyramid e).history)

    moved_agree : {new : List ℕ} {S Z : Sheets} → Agreed D b past S Z → J.Costed s t h w S → Moves s table past new
        → Agreed D b new (carried_to D b past new S) (carried_to D b past new Z)
    moved_agree {S = S} {Z = Z} A C (more added e L) =
        subst (λ n. Agreed D b n (carried_to D b past n S) (carried_to D b past n Z)) (sym e)
        (more_agree D b past added (subst (Led D b) e L) A)
    moved_agree {new} {S} {Z} A C (fewer taken e) =
        subst (λ p. Agreed D b new (carried_to D b p new S) (carried_to D b p new Z)) (sym e)
        (fewer_agree D b new taken (subst (Led D b) e (pyramid_led C.lent.pyramid)) (subst (λ p. Agreed D b p S Z) e A))

    ended_alike : {S Z : Sheets} → Alike S Z → (r : Result) → outcome s t h w S step ≡ r
        → Same D b (costed (hands_back s t h w r) (sheets_after s table past S r)) (costed (hands_back s t h w r) (sheets_after s table past Z r))
    unfolding hands_back sheets_after
    ended_alike A (refuses a) e = record {
      plain = refl;
      sheet_length = A.sheet_length;
      kept_length = A.kept_length;
      looked = rw before A.looked;
    }
    ended_alike {S} {Z} A (gives z u new) e =
        let (C, f) = outcome_gives s t h w S step e in
        let R = moved_agree (agreed A) C (M.moves C.lent.pyramid f) in
        record {
          plain = refl;
          sheet_length = R.sheet_length;
          kept_length = R.kept_length;
          looked = rw (after S C f) (agreed_looked new R);
        }

    -- A CALL DOES NOT TELL SHEETS APART THAT ARE ALIKE WHERE THEY ARE LOOKED AT
    pub state_alike : {S Z : Sheets} → Alike S Z → Same D b (on_sheets step s t h w S) (on_sheets step s t h w Z)
    unfolding on_sheets
    state_alike {S} {Z} A = rw (← judged_alike A) (ended_alike A (outcome s t h w S step) refl)

    -- ---- and what stands elsewhere

    moved_left : {new : List ℕ} (S : Sheets) → J.Costed s t h w S → Moves s table past new
        → Leaves (is_place D b) (merges D b (reverse past)) D S (carried_to D b past new S) ⊎ Leaves (is_place D b) (merges D b (reverse new)) D S (carried_to D b past new S)
    moved_left S C (more added e L) =
        inr (subst (λ n. Leaves (is_place D b) (merges D b (reverse n)) D S (carried_to D b past n S)) (sym e) (more_leaves D b past added (subst (Led D b) e L) S))
    moved_left {new} S C (fewer taken e) =
        inl (subst (λ p. Leaves (is_place D b) (merges D b (reverse p)) D S (carried_to D b p new S)) (sym e)
        (fewer_leaves D b new taken (subst (Led D b) e (pyramid_led C.lent.pyramid)) S))

    ended_left : (S : Sheets) (r : Result) → outcome s t h w S step ≡ r → Left D b (reverse past) S (costed (hands_back s t h w r) (sheets_after s table past S r))
    unfolding hands_back sheets_after
    ended_left S (refuses a) e = record { sheet_length = refl; kept_length = refl; sheet = λ x n. refl; kept = λ i k l. refl }
    ended_left S (gives z u new) e = let (C, f) = outcome_gives s t h w S step e in go C f (moved_left S C (M.moves C.lent.pyramid f))
      where
        go : J.Costed s t h w S → step s table past ≡ gives z u new
            → Leaves (is_place D b) (merges D b (reverse past)) D S (carried_to D b past new S) ⊎ Leaves (is_place D b) (merges D b (reverse new)) D S (carried_to D b past new S)
            → Left D b (reverse past) S (costed (hands_back s t h w (gives z u new)) (sheets_after s table past S (gives z u new)))
        go C f (inl L) = record { sheet_length = L.sheet_length; kept_length = L.kept_length; sheet = L.sheet; kept = λ i k l. L.kept i k }
        go C f (inr L) = record {
          sheet_length = L.sheet_length;
          kept_length = L.kept_length;
          sheet = L.sheet;
          kept = λ i k l. L.kept i (rw (after S C f) at l);
        }

    -- AND AT EVERY PLACE THAT IS NOT LOOKED AT IT LEAVES WHAT WAS THERE
    pub state_left : (S : Sheets) → Left D b (reverse past) S (on_sheets step s t h w S)
    unfolding on_sheets
    state_left S = ended_left S (outcome s t h w S step) refl

-- "nor are places past the count": past both counts nothing is looked at
pub past_left : {D : ℕ} {b hs : List ℕ} {S : Sheets} {c : Costed} → Left D b hs S c → (i : ℕ) → length hs ≤ i → length (history_left c) ≤ i
    → at c.sheets.kept i ≡ at S.kept i
past_left {D} {b} {hs} {S} {c} L i m n = L.kept i (merges_past D b hs i m) (merges_past D b (history_left c) i n)

-- ---- the four calls

module _ (s : State) (t h w : List ℕ) where
  abbrev base : List ℕ
  base = base_of s (table_of s t) (past_of s h)

  pub reduce_alike : (k : Kind) (es : List ℕ) {S Z : Sheets} → Alike s t h w S Z → Same s.darts base (reduce_with k es s t h w S) (reduce_with k es s t h w Z)
  unfolding reduce_with
  reduce_alike k es = state_alike s t h w (reduce k es) (reduce_moves k es) (reduce_keeps k es)

  pub sweep_alike : {S Z : Sheets} → Alike s t h w S Z → Same s.darts base (sweep_with s t h w S) (sweep_with s t h w Z)
  unfolding sweep_with
  sweep_alike = state_alike s t h w sweep sweep_moves sweep_keeps

  pub undo_alike : {S Z : Sheets} → Alike s t h w S Z → Same s.darts base (undo_with s t h w S) (undo_with s t h w Z)
  unfolding undo_with
  undo_alike = state_alike s t h w undo_level undo_moves undo_keeps

  pub unfold_alike : (k : ℕ) {S Z : Sheets} → Alike s t h w S Z → Same s.darts base (unfold_with k s t h w S) (unfold_with k s t h w Z)
  unfolding unfold_with
  unfold_alike k = state_alike s t h w (unfold_to k) (unfold_moves k) (unfold_keeps k)

  pub reduce_left : (k : Kind) (es : List ℕ) (S : Sheets) → Left s.darts base (reverse (past_of s h)) S (reduce_with k es s t h w S)
  unfolding reduce_with
  reduce_left k es = state_left s t h w (reduce k es) (reduce_moves k es) (reduce_keeps k es)

  pub sweep_left : (S : Sheets) → Left s.darts base (reverse (past_of s h)) S (sweep_with s t h w S)
  unfolding sweep_with
  sweep_left = state_left s t h w sweep sweep_moves sweep_keeps

  pub undo_left : (S : Sheets) → Left s.darts base (reverse (past_of s h)) S (undo_with s t h w S)
  unfolding undo_with
  undo_left = state_left s t h w undo_level undo_moves undo_keeps

  pub unfold_left : (k : ℕ) (S : Sheets) → Left s.darts base (reverse (past_of s h)) S (unfold_with k s t h w S)
  unfolding unfold_with
  unfold_left k = state_left s t h w (unfold_to k) (unfold_moves k) (unfold_keeps k)
