-- "Order: 1, 2, then 3 or 4": the answers of a call before it looks at what it was asked for.
--   Answers a n p    == the answer a has number n and place p
--   First D t h w a  == where D is no count of darts, or slices of these lengths are too short for it, a is 1 or 2, whatever else is wrong
--   Judges s t h w a == the same for a state; and with room, a is 4 where it is no pyramid
--   lends            == a pyramid lent with room, in words of lists
--   state_judges     == every call on a state is judged so; instances for reduce, sweep, undo, unfold
--   start_first, counts_judges, write_judges == the same for start, counts and the writer
use mathlib.Core.List.{List, reverse}
use mathlib.Core.Logic.{◌≢◌}
use mathlib.Core.Path.{◌≡◌, refl, ap, ◌∙◌}
use Prim.Native.Nat.{ℕ, ◌*◌, ◌/◌, ◌<◌}
use native.Mathlib.Omega.{arith}
use lib.ListN.{length, take}
use Rattle.darts.specs.Answers.{Answer, answered}
use Rattle.darts.specs.Operation.{Kind}
use Rattle.darts.specs.State.{State, Result, reduce}
use Rattle.darts.specs.Levels.{sweep, undo_level, unfold_to}
use Rattle.darts.specs.Pyramid.{Pyramid}
use Rattle.darts.specs.Calls.{table_of, past_of, judged, on_state, start, reduce_by, sweep_by, undo_by, unfold_by, counts, write}
use Rattle.darts.proofs.Fitting.{Count, Lengths, count_facts}
use Rattle.laws.proofs.calls.Judging.{Lent, Judging, uncounted, cramped, other, lent, judging, judged_lent, on_judged}
use Rattle.laws.proofs.calls.Outcomes.{Starting, no_count, no_room, no_base, base, starting, Writing, refused, tight, written, writing}

pub record Answers (a : Answer) (n p : ℕ) : Type 0 where
  pub number : a.number ≡ n
  pub place : a.place ≡ p

pub answers : {a : Answer} {n p : ℕ} → a ≡ answered n p → Answers a n p
answers e = record { number = ap (λ (x : Answer). x.number) e; place = ap (λ (x : Answer). x.place) e }

-- 1, "D is odd, 0 or over 65,536". 2, "a lent slice is too short": "Each call on this page is lent the table with at least D numbers, the history with
-- D/2 and the work area with 4D; less is answer 2."
pub record First (D t h w : ℕ) (a : Answer) : Type 0 where
  pub one : ¬ (Count D) → Answers a 1 0
  pub two : Count D → ¬ (Lengths D t h w) → Answers a 2 0
  pub short_table : Count D → t < D → Answers a 2 0
  pub short_history : Count D → h < D / 2 → Answers a 2 0
  pub short_work : Count D → w < 4 * D → Answers a 2 0

-- 4, "the state, or what a file holds, is no pyramid"
pub record Judges (s : State) (t h w : List ℕ) (a : Answer) : Type 0 where
  pub first : First s.darts (length t) (length h) (length w) a
  pub four : Count s.darts → Lengths s.darts (length t) (length h) (length w)
      → ¬ (Pyramid s (take s.darts t) (reverse (take s.operations h))) → Answers a 4 0

-- each slice that is too short is a fault by itself
firsts : {D t h w : ℕ} {a : Answer} → (¬ (Count D) → Answers a 1 0) → (Count D → ¬ (Lengths D t h w) → Answers a 2 0) → First D t h w a
firsts one two = record {
  one = one;
  two = two;
  short_table = λ c l. two c (λ L. omega (arith, L.table));
  short_history = λ c l. two c (λ L. omega (arith, L.history));
  short_work = λ c l. two c (λ L. omega (arith, L.work));
}

-- ---- start

pub start_first : (D : ℕ) (t h w : List ℕ) → First D (length t) (length h) (length w) (start D t h w).answer
start_first D t h w = firsts (λ n. one n (starting D t h w)) (λ c n. two c n (starting D t h w))
  where
    one : ¬ (Count D) → Starting D t h w → Answers (start D t h w).answer 1 0
    one n (no_count c e) = answers (rw e)
    one n (no_room c l e) = absurd (n c)
    one n (no_base c l b e) = absurd (n c)
    one n (base c l b e) = absurd (n c)

    two : Count D → ¬ (Lengths D (length t) (length h) (length w)) → Starting D t h w → Answers (start D t h w).answer 2 0
    two c n (no_count k e) = absurd (k c)
    two c n (no_room k l e) = answers (rw e)
    two c n (no_base k l b e) = absurd (n l)
    two c n (base k l b e) = absurd (n l)

-- ---- a call on a state

module _ (s : State) (t h w : List ℕ) where
  -- the pyramid that is lent: the table's first D numbers, and the history's numbers up to the count, the last one first
  pub lends : Pyramid s (take s.darts t) (reverse (take s.operations h)) → Lengths s.darts (length t) (length h) (length w) → Lent s t h w
  unfolding table_of past_of
  lends P l = record { pyramid = P; lengths = l }

  -- a call that answers what it is judged, where that is not 0
  judges : (a : Answer) → ((judged s t h w).number ≢ 0 → a ≡ judged s t h w) → Judges s t h w a
  unfolding table_of past_of
  judges a same = record { first = firsts (λ n. one n (judging s t h w)) (λ c n. two c n (judging s t h w)); four = λ c l n. four c l n (judging s t h w) }
    where
      one : ¬ (Count s.darts) → Judging s t h w → Answers a 1 0
      one n (uncounted c e) = answers (same (rw e (λ z. omega arith)) ∙ e)
      one n (cramped c l e) = absurd (n c)
      one n (other c l p e) = absurd (n c)
      one n (lent l e) = absurd (n (count_facts s.darts l.pyramid.count))

      two : Count s.darts → ¬ (Lengths s.darts (length t) (length h) (length w)) → Judging s t h w → Answers a 2 0
      two c n (uncounted k e) = absurd (k c)
      two c n (cramped k l e) = answers (same (rw e (λ z. omega arith)) ∙ e)
      two c n (other k l p e) = absurd (n l)
      two c n (lent l e) = absurd (n l.lengths)

      four : Count s.darts → Lengths s.darts (length t) (length h) (length w)
          → ¬ (Pyramid s (take s.darts t) (reverse (take s.operations h))) → Judging s t h w → Answers a 4 0
      four c l n (uncounted k e) = absurd (k c)
      four c l n (cramped k m e) = absurd (m l)
      four c l n (other k m p e) = answers (same (rw e (λ z. omega arith)) ∙ e)
      four c l n (lent m e) = absurd (n m.pyramid)

  pub state_judges : (step : State → List ℕ → List ℕ → Result) → Judges s t h w (on_state step s t h w).answer
  state_judges step = judges (on_state step s t h w).answer (on_judged s t h w step)

  pub reduce_judges : (k : Kind) (es : List ℕ) → Judges s t h w (reduce_by k es s t h w).answer
  unfolding reduce_by
  reduce_judges k es = state_judges (reduce k es)

  pub sweep_judges : Judges s t h w (sweep_by s t h w).answer
  unfolding sweep_by
  sweep_judges = state_judges sweep

  pub undo_judges : Judges s t h w (undo_by s t h w).answer
  unfolding undo_by
  undo_judges = state_judges undo_level

  pub unfold_judges : (k : ℕ) → Judges s t h w (unfold_by k s t h w).answer
  unfolding unfold_by
  unfold_judges k = state_judges (unfold_to k)

  pub counts_judges : Judges s t h w (counts s t h w).answer
  unfolding counts
  counts_judges = judges (judged s t h w) (λ n. refl)

  -- "The writer judges its output's length after 4."
  pub write_judges : (o : List ℕ) → Judges s t h w (write s t h w o).answer
  write_judges o = judges (write s t h w o).answer (λ n. go n (writing s t h w o))
    where
      go : (judged s t h w).number ≢ 0 → Writing s t h w o → (write s t h w o).answer ≡ judged s t h w
      go n (refused m e) = rw e
      go n (tight l b e) = absurd (n (rw (judged_lent s t h w l)))
      go n (written l b e) = absurd (n (rw (judged_lent s t h w l)))
