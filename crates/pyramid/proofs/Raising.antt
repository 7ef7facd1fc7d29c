-- The ways that a level more ends, once a run is over.
--   level_full   == 64 levels are in use
--   level_stops  == the run stopped at an edge
--   level_empty  == it took no edge
--   level_raised == one level more
use mathlib.Core.List.{List, reverse-reverse}
use mathlib.Core.Logic.{◌≢◌}
use mathlib.Core.Path.{◌≡◌, sym, ap, subst, ◌∙◌}
use Prim.Native.Nat.{ℕ, ◌+◌, ◌*◌, ◌≤◌, ◌<◌}
use native.Mathlib.Omega.{arith}
use borrow.Author.Tests.{eq-eqb, ne_eqb, le-leb, lt-leb}
use lib.ListN.{length, take, length-take, length-reverse}
use Rattle.slices.specs.Part.{part}
use Rattle.std.specs.Prelude.{Result as Answering, Ok, Err}
use Rattle.darts.specs.Answers.{Answer as Answered, done, empty_kernel, too_many_levels}
use Rattle.darts.specs.Cases.{refusal_of}
use Rattle.darts.specs.Kernel.{Run}
use Rattle.darts.specs.State.{State as Stated, raised, levelled, refuses}
use Rattle.darts.specs.Calls.{After, leaves, hands_back, work_after, past_of, cleared}
use Rattle.darts.specs.declared.Refusal.{Refusal}
use Rattle.slices.specs.Over.{over}
use Rattle.area.specs.Area.{table_in, past_in}
use Rattle.engine.specs.Runs.{ran_in}
use Rattle.engine.proofs.Parts.{past_length}
use Rattle.pyramid.specs.Steps.{Halts, Raised, climbs}
use Rattle.pyramid.specs.Values.{figures_of, left, unsettled, Hands}
use Rattle.pyramid.proofs.Started.{HandsBare, hands_bare}
use Rattle.pyramid.specs.declared.Outcome.{Outcome}

-- a refusal that is neither 1 nor 2 clears the work area
pub refused_clears : (s : Stated) (t h w : List ℕ) (a : Answered) → a.number ≢ 1 → a.number ≢ 2
    → hands_back s t h w (refuses a) ≡ leaves a s t h (cleared s.darts w)
unfolding hands_back work_after
refused_clears s t h w a n1 n2 = rw (ne_eqb a.number 1 n1, ne_eqb a.number 2 n2)

module _ (s : Stated) (t h w : List ℕ) where
  abbrev D : ℕ
  D = s.darts

  abbrev past : List ℕ
  past = past_of s h

  -- it leaves the state as it was given
  refused_ends : (o : Outcome) {a : Answered} → HandsBare o a (figures_of s) → a.number ≢ 1 → a.number ≢ 2
      → unsettled (left o t h (cleared D w)) ≡ unsettled (hands_back s t h w (refuses a))
  refused_ends o {a} G n1 n2 = hands_bare o s G t h (cleared D w) ∙ ap (λ (x : After). unsettled x) (sym (refused_clears s t h w a n1 n2))

  pub level_full : 64 ≤ s.levels → (r : Run) (o : Outcome) → HandsBare o too_many_levels (figures_of s)
      → unsettled (left o t h (cleared D w)) ≡ unsettled (hands_back s t h w (climbs s past r))
  level_full full r o G = rw (le-leb 64 s.levels full) (refused_ends o G (λ z. omega arith) (λ z. omega arith))

  module _ (free : s.levels < 64) where
    pub level_stops : {r : Answering ℕ Refusal} {a : Refusal} → Halts s r w (length t) (length h) → r ≡ Err a
        → (o : Outcome) → HandsBare o (refusal_of a) (figures_of s)
        → unsettled (left o t h (cleared D w)) ≡ unsettled (hands_back s t h w (climbs s past (ran_in D w r)))
    unfolding levelled
    level_stops {r} {a} H is o G =
        let e = (subst (λ (q : Answering ℕ Refusal). Halts s q w (length t) (length h)) is H).refusal in
        rw (is, lt-leb 64 s.levels free) (refused_ends o G (λ z. omega arith) (λ z. omega arith))

    module _ {r : Answering ℕ Refusal} {m : ℕ} (given : Halts s r w (length t) (length h)) (is : r ≡ Ok m) where
      H : Halts s (Ok m) w (length t) (length h)
      H = subst (λ (q : Answering ℕ Refusal). Halts s q w (length t) (length h)) is given

      past_count : length past ≡ s.operations
      unfolding past_of
      past_count =
          let b = H.before in
          let l = H.history in
          length-reverse (take s.operations h) ∙ length-take s.operations h ∙ omega arith

      new_count : length (past_in D m w) ≡ m
      new_count = let a = H.after in let f = H.room.fits in past_length D m w (omega arith)

      pub level_empty : (o : Outcome) → m ≡ s.operations → HandsBare o empty_kernel (figures_of s)
          → unsettled (left o t h (cleared D w)) ≡ unsettled (hands_back s t h w (climbs s past (ran_in D w r)))
      unfolding levelled
      level_empty o e G =
          rw (is, lt-leb 64 s.levels free, eq-eqb (length (past_in D m w)) (length past) (new_count ∙ e ∙ sym past_count))
          (refused_ends o G (λ z. omega arith) (λ z. omega arith))

      -- the level that is more
      abbrev z : Stated
      z = raised s (table_in D w) (past_in D m w)

      raises : m ≢ s.operations
          → leaves done z (over (table_in D w) t) (over (part (3 * D) (3 * D + m) w) h) (cleared D w) ≡ hands_back s t h w (climbs s past (ran_in D w r))
      unfolding levelled hands_back
      raises n =
          sym (rw (
            is,
            lt-leb 64 s.levels free,
            ne_eqb (length (past_in D m w)) (length past) (λ e. n (sym new_count ∙ e ∙ past_count)),
            reverse-reverse (part (3 * D) (3 * D + m) w),
          ))

      pub level_raised : (o : Outcome) {y : Stated} → m ≢ s.operations → Raised s m y → Hands o done y
          → unsettled (left o (over (table_in D w) t) (over (part (3 * D) (3 * D + m) w) h) (cleared D w))
          ≡ unsettled (hands_back s t h w (climbs s past (ran_in D w r)))
      level_raised o {y} n up G =
          let same : figures_of y ≡ figures_of z = up (table_in D w) (past_in D m w) new_count in
          hands_bare o z (record { answer = G.answer; state = ap (λ (x : Stated). figures_of x) G.state ∙ same }) _ _ (cleared D w)
          ∙ ap (λ (x : After). unsettled x) (raises n)
