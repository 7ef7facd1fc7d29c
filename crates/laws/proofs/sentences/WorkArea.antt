-- The work area after a call (document 01, "Answer numbers").
--   Zeroed D w v    == w has 4D numbers; in v the first 4D are zero, and the others are those of w
--   cleared_zeroed  == a cleared work area is
--   Area n D w v    == an answer of number n leaves v of the work area w: w itself where n is 1 or 2, zeroed otherwise
--   state_area      == every call on a state leaves such a work area; instances for reduce, sweep, undo, unfold
--   start_area, counts_area, write_area == the same for start and counts, and with its exception for the writer
use mathlib.Core.List.{List}
use mathlib.Core.Logic.{◌≢◌, ◌⊎◌, inl, inr}
use mathlib.Core.Path.{◌≡◌, refl, ap, ◌∙◌}
use Prim.Native.Nat.{ℕ, ◌*◌, ◌≤◌}
use native.Mathlib.Omega.{arith}
use lib.ListN.{length, take, drop, replicate}
use Rattle.permutations.specs.Choice.{eqb_other}
use Rattle.darts.specs.Answers.{Answer}
use Rattle.darts.specs.Operation.{Kind}
use Rattle.darts.specs.State.{State, Result, gives, refuses, reduce}
use Rattle.darts.specs.Levels.{sweep, undo_level, unfold_to}
use Rattle.darts.specs.Calls.{cleared, work_after, judged, hands_back, on_state, start, reduce_by, sweep_by, undo_by, unfold_by, counts, write}
use Rattle.darts.proofs.Fitting.{Count, Lengths, count_facts}
use Rattle.laws.proofs.calls.Cleared.{cleared_zero, cleared_rest}
use Rattle.laws.proofs.calls.Judging.{Lent, Judging, uncounted, cramped, other, lent, judging, on_judged}
use Rattle.laws.proofs.calls.Outcomes.{Starting, no_count, no_room, no_base, base, starting, Writing, refused, tight, written, writing}

pub record Zeroed (D : ℕ) (w v : List ℕ) : Type 0 where
  pub room : 4 * D ≤ length w
  pub zero : take (4 * D) v ≡ replicate (4 * D) 0
  pub rest : drop (4 * D) v ≡ drop (4 * D) w

-- "After every call except those answered 1 or 2 the work area's first 4D numbers are zero; 1 and 2 write nothing at all"
pub record Area (n D : ℕ) (w v : List ℕ) : Type 0 where
  pub kept : (n ≡ 1) ⊎ (n ≡ 2) → v ≡ w
  pub zeroed : n ≢ 1 → n ≢ 2 → Zeroed D w v

pub cleared_zeroed : (D : ℕ) (w : List ℕ) → 4 * D ≤ length w → Zeroed D w (cleared D w)
cleared_zeroed D w h = record { room = h; zero = cleared_zero D w; rest = cleared_rest D w }

after_area : (a : Answer) (D : ℕ) (w : List ℕ) → (a.number ≢ 1 → a.number ≢ 2 → 4 * D ≤ length w) → Area a.number D w (work_after a D w)
unfolding work_after
after_area a D w room = record { kept = kept; zeroed = λ n m. rw (eqb_other n, eqb_other m) (cleared_zeroed D w (room n m)) }
  where
    kept : (a.number ≡ 1) ⊎ (a.number ≡ 2) → work_after a D w ≡ w
    kept (inl e) = rw e
    kept (inr e) = rw e

kept_area : (D : ℕ) (w : List ℕ) (n : ℕ) → (n ≡ 1) ⊎ (n ≡ 2) → Area n D w w
kept_area D w n (inl e) = record { kept = λ _. refl; zeroed = λ one two. absurd (one e) }
kept_area D w n (inr e) = record { kept = λ _. refl; zeroed = λ one two. absurd (two e) }

done_area : (D : ℕ) (w : List ℕ) (n : ℕ) → n ≢ 1 → n ≢ 2 → 4 * D ≤ length w → Area n D w (cleared D w)
done_area D w n one two room = record { kept = kept; zeroed = λ _ _. cleared_zeroed D w room }
  where
    kept : (n ≡ 1) ⊎ (n ≡ 2) → cleared D w ≡ w
    kept (inl e) = absurd (one e)
    kept (inr e) = absurd (two e)

-- ---- calls on a state

module _ (s : State) (t h w : List ℕ) where
  -- a call that is judged neither 1 nor 2 was lent 4D numbers
  judged_room : (judged s t h w).number ≢ 1 → (judged s t h w).number ≢ 2 → 4 * s.darts ≤ length w
  judged_room one two = go (judging s t h w)
    where
      go : Judging s t h w → 4 * s.darts ≤ length w
      go (uncounted c e) = absurd (one (rw e))
      go (cramped c l e) = absurd (two (rw e))
      go (other c l p e) = l.work
      go (lent l e) = l.lengths.work

  ends_area : (r : Result) → ((hands_back s t h w r).answer.number ≢ 1 → (hands_back s t h w r).answer.number ≢ 2 → 4 * s.darts ≤ length w)
      → Area (hands_back s t h w r).answer.number s.darts w (hands_back s t h w r).work
  unfolding hands_back
  ends_area (gives z u new) room = done_area s.darts w 0 (λ e. omega arith) (λ e. omega arith) (room (λ e. omega arith) (λ e. omega arith))
  ends_area (refuses a) room = after_area a s.darts w room

  module _ (step : State → List ℕ → List ℕ → Result) where
    -- where 1 or 2 is judged, the call answers so
    lent_room : (on_state step s t h w).answer.number ≢ 1 → (on_state step s t h w).answer.number ≢ 2 → 4 * s.darts ≤ length w
    lent_room one two = judged_room (λ e. one (same (rw e (λ z. omega arith)) ∙ e)) (λ e. two (same (rw e (λ z. omega arith)) ∙ e))
      where
        same : (judged s t h w).number ≢ 0 → (on_state step s t h w).answer.number ≡ (judged s t h w).number
        same n = ap (λ (a : Answer). a.number) (on_judged s t h w step n)

    pub state_area : Area (on_state step s t h w).answer.number s.darts w (on_state step s t h w).work
    unfolding on_state
    state_area = ends_area _ lent_room

  pub reduce_area : (k : Kind) (es : List ℕ) → Area (reduce_by k es s t h w).answer.number s.darts w (reduce_by k es s t h w).work
  unfolding reduce_by
  reduce_area k es = state_area (reduce k es)

  pub sweep_area : Area (sweep_by s t h w).answer.number s.darts w (sweep_by s t h w).work
  unfolding sweep_by
  sweep_area = state_area sweep

  pub undo_area : Area (undo_by s t h w).answer.number s.darts w (undo_by s t h w).work
  unfolding undo_by
  undo_area = state_area undo_level

  pub unfold_area : (k : ℕ) → Area (unfold_by k s t h w).answer.number s.darts w (unfold_by k s t h w).work
  unfolding unfold_by
  unfold_area k = state_area (unfold_to k)

  pub counts_area : Area (counts s t h w).answer.number s.darts w (counts s t h w).work
  unfolding counts
  counts_area = after_area (judged s t h w) s.darts w judged_room

-- ---- start

pub start_area : (D : ℕ) (t h w : List ℕ) → Area (start D t h w).answer.number D w (start D t h w).work
start_area D t h w = go (starting D t h w)
  where
    go : Starting D t h w → Area (start D t h w).answer.number D w (start D t h w).work
    go (no_count c e) = rw e (kept_area D w 1 (inl refl))
    go (no_room c l e) = rw e (kept_area D w 2 (inr refl))
    go (no_base c l b e) = rw e (done_area D w 3 (λ e. omega arith) (λ e. omega arith) l.work)
    go (base c l b e) = rw e (done_area D w 0 (λ e. omega arith) (λ e. omega arith) l.work)

-- ---- write

-- "1 and 2 write nothing at all, save that the writer's refusal of its output's length leaves those 4D numbers zero too"
pub record WriterArea (s : State) (t h w v : List ℕ) : Type 0 where
  pub uncounted : ¬ (Count s.darts) → v ≡ w
  pub cramped : ¬ (Lengths s.darts (length t) (length h) (length w)) → v ≡ w
  pub zeroed : Count s.darts → Lengths s.darts (length t) (length h) (length w) → Zeroed s.darts w v

module _ (s : State) (t h w o : List ℕ) where
  refused_area : (judged s t h w).number ≢ 0 → WriterArea s t h w (work_after (judged s t h w) s.darts w)
  refused_area n = go (judging s t h w)
    where
      kept : ((judged s t h w).number ≡ 1) ⊎ ((judged s t h w).number ≡ 2) → work_after (judged s t h w) s.darts w ≡ w
      kept = (after_area (judged s t h w) s.darts w (judged_room s t h w)).kept

      go : Judging s t h w → WriterArea s t h w (work_after (judged s t h w) s.darts w)
      go (uncounted c e) = record { uncounted = λ _. kept (inl (rw e)); cramped = λ _. kept (inl (rw e)); zeroed = λ d. absurd (c d) }
      go (cramped c l e) = record { uncounted = λ _. kept (inr (rw e)); cramped = λ _. kept (inr (rw e)); zeroed = λ d m. absurd (l m) }
      go (other c l p e) = record {
        uncounted = λ d. absurd (d c);
        cramped = λ m. absurd (m l);
        zeroed = λ d m. (after_area (judged s t h w) s.darts w (judged_room s t h w)).zeroed (rw e (λ z. omega arith)) (rw e (λ z. omega arith));
      }
      go (lent l e) = absurd (n (rw e))

  lent_area : Lent s t h w → WriterArea s t h w (cleared s.darts w)
  lent_area l = record {
    uncounted = λ d. absurd (d (count_facts s.darts l.pyramid.count));
    cramped = λ m. absurd (m l.lengths);
    zeroed = λ _ _. cleared_zeroed s.darts w l.lengths.work;
  }

  pub write_area : WriterArea s t h w (write s t h w o).work
  write_area = go (writing s t h w o)
    where
      go : Writing s t h w o → WriterArea s t h w (write s t h w o).work
      go (refused n e) = rw e (refused_area n)
      go (tight l b e) = rw e (lent_area l)
      go (written l b e) = rw e (lent_area l)
