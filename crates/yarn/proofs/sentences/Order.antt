-- "Order: 1, 2, then 3 or 4", and the sheets in it: 2 and 4 cover them too.
--   First D t h w S a  == where D is no count of darts, or something lent is too short for it, a is 1 or 2, whatever else is wrong
--   Judges s t h w S a == the same for a state; and with room, a is 4 where it is no pyramid, or the sheets are not given
--   firsts             == each sheet that is too short is a fault by itself
--   state_judges       == every call on a state that is lent both sheets is judged so; instances for reduce, sweep, undo, unfold
use mathlib.Core.List.{List, reverse}
use mathlib.Core.Logic.{◌≢◌}
use mathlib.Core.Path.{◌≡◌, ◌∙◌}
use Prim.Native.Nat.{ℕ, ◌/◌, ◌<◌}
use native.Mathlib.Omega.{arith}
use lib.ListN.{length}
use Rattle.darts.specs.Answers.{Answer, answered}
use Rattle.darts.specs.Operation.{Kind}
use Rattle.darts.specs.State.{State, Result, reduce}
use Rattle.darts.specs.Levels.{sweep, undo_level, unfold_to}
use Rattle.darts.specs.Pyramid.{Pyramid}
use Rattle.darts.specs.Calls.{table_of, past_of}
use Rattle.darts.proofs.Fitting.{Count, Lengths, count_facts}
use Rattle.laws.proofs.calls.Judging.{Lent}
use Rattle.laws.proofs.sentences.Order.{Answers, answers}
use Rattle.sheets.specs.Sheets.{Sheets}
use Rattle.yarn.specs.Given.{Given}
use Rattle.yarn.specs.Calls.{base_of, judged, on_sheets, reduce_with, sweep_with, undo_with, unfold_with}
use Rattle.yarn.proofs.sentences.Lengths.{Room, Fits}
use Rattle.yarn.proofs.sentences.Judging.{right_given, judged_one, judged_two, judged_narrow, judged_other, judged_strange, on_judged}

-- 1, "D is odd, 0 or over 65,536". 2, "a lent slice is too short": "D places", "a second sheet of D/2 places"
pub record First (D : ℕ) (t h w : List ℕ) (S : Sheets) (a : Answer) : Type 0 where
  pub one : ¬ (Count D) → Answers a 1 0
  pub two : Count D → ¬ (Lengths D (length t) (length h) (length w)) → Answers a 2 0
  pub two_sheets : Count D → ¬ (Room D S) → Answers a 2 0
  pub short_sheet : Count D → length S.sheet < D → Answers a 2 0
  pub short_kept : Count D → length S.kept < D / 2 → Answers a 2 0

-- 4, "afterwards 4 also covers sheets that no accepted start and these operations give"
pub record Judges (s : State) (t h w : List ℕ) (S : Sheets) (a : Answer) : Type 0 where
  pub first : First s.darts t h w S a
  pub four : Fits s.darts t h w S → ¬ (Pyramid s (table_of s t) (past_of s h)) → Answers a 4 0
  pub four_sheets : Lent s t h w → Room s.darts S → ¬ (Given s.darts (base_of s (table_of s t) (past_of s h)) (reverse (past_of s h)) S) → Answers a 4 0

-- each sheet that is too short is a fault by itself
pub firsts : {D : ℕ} {t h w : List ℕ} {S : Sheets} {a : Answer} → (¬ (Count D) → Answers a 1 0) → (Count D → ¬ (Lengths D (length t) (length h) (length w)) → Answers a 2 0)
    → (Count D → ¬ (Room D S) → Answers a 2 0) → First D t h w S a
firsts one two thin = record {
  one = one;
  two = two;
  two_sheets = thin;
  short_sheet = λ c l. thin c (λ R. omega (arith, R.sheet));
  short_kept = λ c l. thin c (λ R. omega (arith, R.kept));
}

module _ (s : State) (t h w : List ℕ) (S : Sheets) where
  pub state_judges : (step : State → List ℕ → List ℕ → Result) → Judges s t h w S (on_sheets step s t h w S).plain.answer
  state_judges step = record {
    first = firsts (λ n. so (judged_one s t h w S n) (λ z. omega arith)) (λ c n. so (judged_two s t h w S c n) (λ z. omega arith))
        (λ c n. so (judged_narrow s t h w S c n) (λ z. omega arith));
    four = λ F n. so (judged_other s t h w S F n) (λ z. omega arith);
    four_sheets = λ L R n. so (judged_strange s t h w S (lent_fits L R) (λ k. n ((right_given s t h w S L R).0 k))) (λ z. omega arith);
  }
    where
      lent_fits : Lent s t h w → Room s.darts S → Fits s.darts t h w S
      lent_fits L R = record { count = count_facts s.darts L.pyramid.count; lengths = L.lengths; room = R }

      so : {n : ℕ} → judged s t h w S ≡ answered n 0 → n ≢ 0 → Answers (on_sheets step s t h w S).plain.answer n 0
      so e n = answers (on_judged s t h w S step (rw e n) ∙ e)

  pub reduce_judges : (k : Kind) (es : List ℕ) → Judges s t h w S (reduce_with k es s t h w S).plain.answer
  unfolding reduce_with
  reduce_judges k es = state_judges (reduce k es)

  pub sweep_judges : Judges s t h w S (sweep_with s t h w S).plain.answer
  unfolding sweep_with
  sweep_judges = state_judges sweep

  pub undo_judges : Judges s t h w S (undo_with s t h w S).plain.answer
  unfolding undo_with
  undo_judges = state_judges undo_level

  pub unfold_judges : (k : ℕ) → Judges s t h w S (unfold_with k s t h w S).plain.answer
  unfolding unfold_with
  unfold_judges k = state_judges (unfold_to k)
