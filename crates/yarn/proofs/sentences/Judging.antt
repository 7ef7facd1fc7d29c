-- How a call on a state is judged that is lent both sheets, and how it ends.
--   Right s t h S     == the sheets are given by a start and these operations, as they are lent
--   Costed s t h w S  == a pyramid and its sheets, lent with room
--   Judging s t h w S == what `judged` answers, and why: 1, 2, 2 for a sheet, 4, 4 for the sheets, or done
--   judging           == one of them it is
--   judged_one, judged_two, judged_narrow, judged_other, judged_strange == each answer by its reason
--   right_given       == for a pyramid lent with room, Right is what the words say
--   judged_costed, judged_done == it is done of a pyramid and its sheets, and of nothing else
--   outcome           == what a call on a state ends with, whatever its step
--   outcome_gives     == it gives only what its step gives from a pyramid with its sheets
--   on_judged         == its answer is what it is judged, where that is not 0
use mathlib.Core.Bool.{Bool, true, false, ◌&&◌}
use mathlib.Core.List.{List, reverse}
use mathlib.Core.Logic.{◌≢◌, ◌↔◌}
use mathlib.Core.Path.{◌≡◌, refl, ◌∙◌}
use Prim.Native.Nat.{ℕ}
use native.Mathlib.Omega.{arith}
use lib.Dec.{T, eqb}
use lib.ListN.{length}
use Rattle.permutations.specs.Choice.{T?, T→true, not_T→false, true→T, eqb_other, eqb_iff}
use Rattle.std.proofs.Common.{if◌then◌else◌}
use Rattle.darts.specs.Answers.{Answer, done, no_dart_count, too_short, no_pyramid}
use Rattle.darts.specs.State.{State, Result, gives, refuses}
use Rattle.darts.specs.Pyramid.{Pyramid, dart_count, is_pyramid}
use Rattle.darts.specs.Calls.{table_of, past_of, hands_back}
use Rattle.darts.proofs.Fitting.{Count, Lengths, count_facts, count_test}
use Rattle.laws.proofs.claims.Decided.{pyramid_decided}
use Rattle.laws.proofs.runs.Results.{refuses≢gives}
use Rattle.laws.proofs.calls.Judging.{Lent}
use Rattle.laws.proofs.tests.Room.{pyramid_room}
use Rattle.sheets.specs.Sheets.{Sheets}
use Rattle.yarn.specs.Given.{Given, given}
use Rattle.yarn.specs.Calls.{fitting_of, base_of, judged, on_sheets}
use Rattle.yarn.proofs.Decided.{pyramid_decided as sheets-decided}
use Rattle.yarn.proofs.sentences.Lengths.{Room, Fits, room?, lengths?, fitting_one, fitting_two, fitting_narrow, fitting_fine}

-- sheets that an accepted start and these operations give
abbrev pub Right : State → List ℕ → List ℕ → Sheets → Type 0
Right s t h S = T (given s.darts (base_of s (table_of s t) (past_of s h)) (reverse (past_of s h)) S)

pub record Costed (s : State) (t h w : List ℕ) (S : Sheets) : Type 0 where
  pub lent : Lent s t h w
  pub room : Room s.darts S
  pub right : Right s t h S

pub data Judging (s : State) (t h w : List ℕ) (S : Sheets) : Type 0 where
  uncounted : ¬ (Count s.darts) → judged s t h w S ≡ no_dart_count → Judging s t h w S
  cramped : Count s.darts → ¬ (Lengths s.darts (length t) (length h) (length w)) → judged s t h w S ≡ too_short → Judging s t h w S
  narrow : Count s.darts → ¬ (Room s.darts S) → judged s t h w S ≡ too_short → Judging s t h w S
  other : Fits s.darts t h w S → ¬ (Pyramid s (table_of s t) (past_of s h)) → judged s t h w S ≡ no_pyramid → Judging s t h w S
  strange : Fits s.darts t h w S → ¬ (Right s t h S) → judged s t h w S ≡ no_pyramid → Judging s t h w S
  lent : Costed s t h w S → judged s t h w S ≡ done → Judging s t h w S

module _ (s : State) (t h w : List ℕ) (S : Sheets) where
  abbrev D : ℕ
  D = s.darts

  -- the decision
  abbrev told : Bool
  told = given D (base_of s (table_of s t) (past_of s h)) (reverse (past_of s h)) S

  unfit : {a : Answer} → fitting_of D t h w S ≡ a → a.number ≢ 0 → judged s t h w S ≡ a
  unfolding judged
  unfit e n = rw (e, eqb_other n)

  judged_fit : Fits D t h w S
      → judged s t h w S ≡ (if is_pyramid s (table_of s t) (past_of s h) && told then done else no_pyramid)
  unfolding judged
  judged_fit F = rw (fitting_fine D t h w S F)

  pub judged_one : ¬ (Count D) → judged s t h w S ≡ no_dart_count
  judged_one n = unfit (fitting_one D t h w S n) (λ z. omega arith)

  pub judged_two : Count D → ¬ (Lengths D (length t) (length h) (length w)) → judged s t h w S ≡ too_short
  judged_two c n = unfit (fitting_two D t h w S c n) (λ z. omega arith)

  pub judged_narrow : Count D → ¬ (Room D S) → judged s t h w S ≡ too_short
  judged_narrow c n = unfit (fitting_narrow D t h w S c n) (λ z. omega arith)

  pub judged_other : Fits D t h w S → ¬ (Pyramid s (table_of s t) (past_of s h)) → judged s t h w S ≡ no_pyramid
  judged_other F n = judged_fit F ∙ rw (not_T→false (is_pyramid s (table_of s t) (past_of s h)) (λ k. n ((pyramid_decided s (table_of s t) (past_of s h)).0 k)))

  pub judged_strange : Fits D t h w S → ¬ (Right s t h S) → judged s t h w S ≡ no_pyramid
  judged_strange F n = judged_fit F ∙ rw (not_T→false told n) (either (is_pyramid s (table_of s t) (past_of s h)))
    where
      either : (b : Bool) → (if b && false then done else no_pyramid) ≡ no_pyramid
      either true = refl
      either false = refl

  -- the decision says what the words say
  pub right_given : Lent s t h w → Room D S → Right s t h S ↔ Given D (base_of s (table_of s t) (past_of s h)) (reverse (past_of s h)) S
  right_given L R =
      let few = pyramid_room L.pyramid in
      let wide = R.kept in
      sheets-decided L.pyramid S R.sheet (omega arith)

  pub judged_costed : Costed s t h w S → judged s t h w S ≡ done
  judged_costed C =
      let P = C.lent.pyramid in
      judged_fit (record { count = count_facts D P.count; lengths = C.lent.lengths; room = C.room })
      ∙ rw (T→true (is_pyramid s (table_of s t) (past_of s h)) ((pyramid_decided s (table_of s t) (past_of s h)).1 P), T→true told C.right)

  -- WHAT A CALL ON A STATE IS JUDGED
  pub judging : Judging s t h w S
  judging = go (T? (dart_count D)) (lengths? D t h w S) (room? D t h w S)
    where
      right : Fits D t h w S → Lent s t h w → Dec (Right s t h S) → Judging s t h w S
      right F L (yes k) = let C : Costed s t h w S = record { lent = L; room = F.room; right = k } in lent C (judged_costed C)
      right F L (no n) = strange F n (judged_strange F n)

      built : Fits D t h w S → Dec (T (is_pyramid s (table_of s t) (past_of s h))) → Judging s t h w S
      built F (yes k) = right F (record { pyramid = (pyramid_decided s (table_of s t) (past_of s h)).0 k; lengths = F.lengths }) (T? told)
      built F (no n) =
          let m : ¬ (Pyramid s (table_of s t) (past_of s h)) = λ P. n ((pyramid_decided s (table_of s t) (past_of s h)).1 P) in
          other F m (judged_other F m)

      go : Dec (T (dart_count D)) → Dec (Lengths D (length t) (length h) (length w)) → Dec (Room D S) → Judging s t h w S
      go (no n) l r = let c : ¬ (Count D) = λ k. n (count_test D k) in uncounted c (judged_one c)
      go (yes c) (no n) r = cramped (count_facts D c) n (judged_two (count_facts D c) n)
      go (yes c) (yes l) (no n) = narrow (count_facts D c) n (judged_narrow (count_facts D c) n)
      go (yes c) (yes l) (yes r) =
          built (record { count = count_facts D c; lengths = l; room = r }) (T? (is_pyramid s (table_of s t) (past_of s h)))

  pub judged_done : (judged s t h w S).number ≡ 0 → Costed s t h w S
  judged_done z = go judging
    where
      go : Judging s t h w S → Costed s t h w S
      go (uncounted _ a) = absurd (let k : 1 ≡ 0 = rw a at z in omega arith)
      go (cramped _ _ a) = absurd (let k : 2 ≡ 0 = rw a at z in omega arith)
      go (narrow _ _ a) = absurd (let k : 2 ≡ 0 = rw a at z in omega arith)
      go (other _ _ a) = absurd (let k : 4 ≡ 0 = rw a at z in omega arith)
      go (strange _ _ a) = absurd (let k : 4 ≡ 0 = rw a at z in omega arith)
      go (lent C _) = C

  module _ (step : State → List ℕ → List ℕ → Result) where
    abbrev pub outcome : Result
    outcome = if eqb (judged s t h w S).number 0 then step s (table_of s t) (past_of s h) else refuses (judged s t h w S)

    pub on_judged : (judged s t h w S).number ≢ 0 → (on_sheets step s t h w S).plain.answer ≡ judged s t h w S
    unfolding hands_back on_sheets
    on_judged n = rw (eqb_other n)

    -- where the call gives something, it is what the step gives from a pyramid with its sheets
    pub outcome_gives : {z : State} {u new : List ℕ} → outcome ≡ gives z u new → Costed s t h w S × (step s (table_of s t) (past_of s h) ≡ gives z u new)
    outcome_gives {z} {u} {new} e = go (eqb (judged s t h w S).number 0) refl
      where
        go : (c : Bool) → eqb (judged s t h w S).number 0 ≡ c → Costed s t h w S × (step s (table_of s t) (past_of s h) ≡ gives z u new)
        go true k = (judged_done ((eqb_iff (judged s t h w S).number 0).0 (true→T k)), rw k at e)
        go false k = absurd (refuses≢gives (rw k at e))
