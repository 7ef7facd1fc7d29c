-- The ways that a call is judged, and how a call on a state ends.
--   Judging s t h w == what `judged` answers, and why: 1, 2, 4, or done of a pyramid that is lent with room
--   judging         == one of them it is
--   Lent s t h w    == a pyramid, lent with room
--   fits_zero       == with a count of darts and room neither 1 nor 2 is given
--   judged_unfit    == where 1 or 2 is given, that is the answer
--   judged_fit      == where they are not, the decision whether it is a pyramid tells
--   judged_lent     == of which `judged` is done
--   judged_done     == and where it is done, it is one
--   on_refused      == a call that is judged 1, 2 or 4 refuses so
--   on_judged       == its answer is then that one
--   on_lent         == on a pyramid lent with room a call is what its step gives
--   on_refuses, on_gives == its answer is then the step's, or done
use mathlib.Core.Bool.{Bool, true, false}
use mathlib.Core.List.{List}
use mathlib.Core.Logic.{◌≢◌}
use mathlib.Core.Path.{◌≡◌, sym, ap, ◌∙◌}
use Prim.Native.Nat.{ℕ}
use native.Mathlib.Omega.{arith}
use lib.Dec.{T}
use lib.ListN.{length}
use Rattle.permutations.specs.Choice.{T?, T→true, not_T→false, eqb_same, eqb_other}
use Rattle.std.proofs.Common.{if◌then◌else◌}
use Rattle.darts.specs.Answers.{Answer, done, no_dart_count, too_short, no_pyramid}
use Rattle.darts.specs.State.{State, Result, refuses}
use Rattle.darts.specs.Pyramid.{Pyramid, dart_count, is_pyramid}
use Rattle.darts.specs.Calls.{After, room, fitting, table_of, past_of, judged, hands_back, on_state}
use Rattle.laws.proofs.runs.Results.{Given}
use Rattle.laws.proofs.claims.Decided.{pyramid_decided}
use Rattle.darts.proofs.Fitting.{Count, Lengths, count_facts, count_test, room_facts, room_test, no_count_lem, short, fine}

pub record Lent (s : State) (t h w : List ℕ) : Type 0 where
  pub pyramid : Pyramid s (table_of s t) (past_of s h)
  pub lengths : Lengths s.darts (length t) (length h) (length w)

pub data Judging (s : State) (t h w : List ℕ) : Type 0 where
  uncounted : ¬ (Count s.darts) → judged s t h w ≡ no_dart_count → Judging s t h w
  cramped : Count s.darts → ¬ (Lengths s.darts (length t) (length h) (length w)) → judged s t h w ≡ too_short → Judging s t h w
  other : Count s.darts → Lengths s.darts (length t) (length h) (length w) → ¬ (Pyramid s (table_of s t) (past_of s h))
      → judged s t h w ≡ no_pyramid → Judging s t h w
  lent : Lent s t h w → judged s t h w ≡ done → Judging s t h w

module _ (s : State) (t h w : List ℕ) where
  abbrev D : ℕ
  D = s.darts

  pub judged_unfit : (fitting D (length t) (length h) (length w)).number ≢ 0 → judged s t h w ≡ fitting D (length t) (length h) (length w)
  unfolding judged
  judged_unfit n = rw (eqb_other n)

  pub judged_fit : (fitting D (length t) (length h) (length w)).number ≡ 0 → (b : Bool) → is_pyramid s (table_of s t) (past_of s h) ≡ b
      → judged s t h w ≡ (if b then done else no_pyramid)
  unfolding judged
  judged_fit e b p = rw (eqb_same e, p)

  pub fits_zero : Count D → Lengths D (length t) (length h) (length w) → (fitting D (length t) (length h) (length w)).number ≡ 0
  fits_zero C L = ap (λ (a : Answer). a.number) (sym (fine D (length t) (length h) (length w) C L))

  -- WHAT A CALL ON A STATE IS JUDGED
  pub judging : Judging s t h w
  judging = go (T? (dart_count D)) (T? (room (length t) (length h) (length w) D)) (T? (is_pyramid s (table_of s t) (past_of s h)))
    where
      go : Dec (T (dart_count D)) → Dec (T (room (length t) (length h) (length w) D)) → Dec (T (is_pyramid s (table_of s t) (past_of s h))) → Judging s t h w
      go (no n) r p =
          let c : ¬ (Count D) = λ k. n (count_test D k) in
          let e = no_count_lem D (length t) (length h) (length w) c in
          uncounted c (judged_unfit (rw (← e) (λ z. omega arith)) ∙ sym e)
      go (yes c) (no n) p =
          let C = count_facts D c in
          let l : ¬ (Lengths D (length t) (length h) (length w)) = λ k. n (room_test (length t) (length h) (length w) D k) in
          let e = short D (length t) (length h) (length w) C l in
          cramped C l (judged_unfit (rw (← e) (λ z. omega arith)) ∙ sym e)
      go (yes c) (yes r) p = fits (count_facts D c) (room_facts (length t) (length h) (length w) D r) p
        where
          fits : Count D → Lengths D (length t) (length h) (length w) → Dec (T (is_pyramid s (table_of s t) (past_of s h))) → Judging s t h w
          fits C L (no n) =
              other C L (λ P. n ((pyramid_decided s (table_of s t) (past_of s h)).1 P))
              (judged_fit (fits_zero C L) false (not_T→false _ n))
          fits C L (yes y) =
              lent (record { pyramid = (pyramid_decided s (table_of s t) (past_of s h)).0 y; lengths = L })
              (judged_fit (fits_zero C L) true (T→true _ y))

  pub judged_lent : Lent s t h w → judged s t h w ≡ done
  judged_lent L =
      judged_fit (fits_zero (count_facts D L.pyramid.count) L.lengths) true
      (T→true _ ((pyramid_decided s (table_of s t) (past_of s h)).1 L.pyramid))

  pub judged_done : (judged s t h w).number ≡ 0 → Lent s t h w
  judged_done e = go judging
    where
      go : Judging s t h w → Lent s t h w
      go (uncounted _ a) = absurd (let z : 1 ≡ 0 = rw a at e in omega arith)
      go (cramped _ _ a) = absurd (let z : 2 ≡ 0 = rw a at e in omega arith)
      go (other _ _ _ a) = absurd (let z : 4 ≡ 0 = rw a at e in omega arith)
      go (lent L _) = L

  module _ (step : State → List ℕ → List ℕ → Result) where
    pub on_refused : (judged s t h w).number ≢ 0 → on_state step s t h w ≡ hands_back s t h w (refuses (judged s t h w))
    unfolding on_state
    on_refused n = rw (eqb_other n)

    pub on_judged : (judged s t h w).number ≢ 0 → (on_state step s t h w).answer ≡ judged s t h w
    unfolding hands_back
    on_judged n = ap (λ (a : After). a.answer) (on_refused n)

    pub on_lent : Lent s t h w → on_state step s t h w ≡ hands_back s t h w (step s (table_of s t) (past_of s h))
    unfolding on_state
    on_lent L = rw (judged_lent L)

    pub on_refuses : Lent s t h w → {a : Answer} → step s (table_of s t) (past_of s h) ≡ refuses a → (on_state step s t h w).answer ≡ a
    unfolding hands_back
    on_refuses L e = ap (λ (r : After). r.answer) (on_lent L ∙ ap (hands_back s t h w) e)

    pub on_gives : Lent s t h w → Given (step s (table_of s t) (past_of s h)) → (on_state step s t h w).answer ≡ done
    unfolding hands_back
    on_gives L G = ap (λ (r : After). r.answer) (on_lent L ∙ ap (hands_back s t h w) G.given)
