-- How a call ends: what holds of each way to end holds of the call.
--   work_by              == the work area is left as it was, or cleared
--   start_by             == start: nothing is written, or only the work area is cleared
--   judged_by            == a call on a state: 1 or 2, or 4 lent with room, or done of a pyramid lent with room
--   outcome step s t h w == what a call on a state hands back, whatever its step
--   outcome_by           == 1 or 2, or another refusal, lent with room, or what the step gives from a pyramid lent with room
use mathlib.Core.Bool.{Bool, true, false}
use mathlib.Core.List.{List}
use mathlib.Core.Path.{◌≡◌, refl}
use Prim.Native.Nat.{ℕ}
use native.Mathlib.Decide.{ℕ_discrete}
use lib.Dec.{eqb}
use lib.ListN.{length, take}
use Rattle.permutations.specs.Choice.{eqb_same, eqb_other}
use Rattle.std.proofs.Common.{if◌then◌else◌}
use Rattle.darts.specs.Answers.{Answer, done, no_dart_count, too_short, no_permutation, no_pyramid}
use Rattle.darts.specs.Map.{Verdict, permutes, culprits, permutation_test}
use Rattle.darts.specs.State.{State, zeros, base_state, Result, gives, refuses}
use Rattle.darts.specs.Calls.{After, leaves, fitting, table_of, past_of, cleared, work_after, judged, begins, start}
use Rattle.darts.proofs.Fitting.{Lengths, fits}
use Rattle.laws.proofs.calls.Judging.{Judging, uncounted, cramped, other, lent, Lent, judging}

pub work_by : (P : List ℕ → Type 0) (a : Answer) (D : ℕ) (w : List ℕ) → P w → P (cleared D w) → P (work_after a D w)
unfolding work_after
work_by P a D w kept wiped = go (eqb a.number 1) (eqb a.number 2)
  where
    go : (one two : Bool) → P (if one then w else if two then w else cleared D w)
    go true two = kept
    go false true = kept
    go false false = wiped

pub start_by : (P : After → Type 0) (D : ℕ) (t h w : List ℕ) → ((a : Answer) → P (leaves a zeros t h w))
    → (Lengths D (length t) (length h) (length w) → (a : Answer) (z : State) → P (leaves a z t h (cleared D w))) → P (start D t h w)
unfolding start begins
start_by P D t h w none wiped = go (ℕ_discrete a.number 0)
  where
    a : Answer
    a = fitting D (length t) (length h) (length w)

    said_by : Lengths D (length t) (length h) (length w) → (v : Verdict) → P (begins D t h w v)
    said_by l permutes = wiped l done (base_state D (take D t))
    said_by l (culprits d c) = wiped l (no_permutation d c) zeros

    go : Dec (a.number ≡ 0) → P (start D t h w)
    go (no n) = rw (eqb_other n) (none a)
    go (yes e) = rw (eqb_same e) (said_by (fits D (length t) (length h) (length w) e).lengths (permutation_test D t))

-- ---- a call on a state

abbrev pub outcome : (State → List ℕ → List ℕ → Result) → State → List ℕ → List ℕ → List ℕ → Result
outcome step s t h w = if eqb (judged s t h w).number 0 then step s (table_of s t) (past_of s h) else refuses (judged s t h w)

module _ (s : State) (t h w : List ℕ) where
  pub judged_by : (P : Answer → Type 0) → P no_dart_count → P too_short → (Lengths s.darts (length t) (length h) (length w) → P no_pyramid)
      → (Lent s t h w → P done) → P (judged s t h w)
  judged_by P one two four fine = go (judging s t h w)
    where
      go : Judging s t h w → P (judged s t h w)
      go (uncounted n e) = rw e one
      go (cramped c n e) = rw e two
      go (other c l n e) = rw e (four l)
      go (lent L e) = rw e (fine L)

  pub outcome_by : (step : State → List ℕ → List ℕ → Result) (P : Result → Type 0) → P (refuses no_dart_count) → P (refuses too_short)
      → (Lengths s.darts (length t) (length h) (length w) → (a : Answer) → P (refuses a))
      → (Lent s t h w → (z : State) (u new : List ℕ) → step s (table_of s t) (past_of s h) ≡ gives z u new → P (gives z u new))
      → P (outcome step s t h w)
  outcome_by step P one two refused given = judged_by Q one two (λ l. refused l no_pyramid) (λ L. ends L (step s (table_of s t) (past_of s h)) refl)
    where
      Q : Answer → Type 0
      Q a = P (if eqb a.number 0 then step s (table_of s t) (past_of s h) else refuses a)

      ends : Lent s t h w → (r : Result) → step s (table_of s t) (past_of s h) ≡ r → P r
      ends L (gives z u new) e = given L z u new e
      ends L (refuses a) e = refused L.lengths a
