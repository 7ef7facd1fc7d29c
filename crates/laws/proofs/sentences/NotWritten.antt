-- What a call does not write. Each law holds for every input, refused or not.
--   Unwritten s t h w a == a, which a call on s left, has from D on the table, from the larger count on the history, from 4D on the work area as lent
--   reduce_unwritten, sweep_unwritten, undo_unwritten, unfold_unwritten == so it is with the four calls that hand back a state
--   reduce_history, sweep_history == they keep every number that counted
--   undo_history, unfold_history  == they keep the whole history
--   OnlyWork D t h w t' h' w'     == the table and the history are as lent, and so is the work area from 4D on
--   start_only_work, counts_only_work == so it is with the other two
use mathlib.Core.List.{List, ◌++◌, reverse, reverse-append, reverse-reverse}
use mathlib.Core.Path.{◌≡◌, refl, sym, ap, ◌∙◌}
use Prim.Native.Nat.{ℕ, ◌*◌, ◌≤◌, max}
use native.Mathlib.Omega.{arith}
use lib.ListN.{length, take, drop, length-append, length-reverse, length-take}
use lib.Seq.{take-take, take_at, take-append-le, take-append_seam}
use Rattle.darts.specs.Answers.{Answer}
use Rattle.darts.specs.Operation.{Kind}
use Rattle.darts.specs.State.{State, Result, gives, refuses, reduce}
use Rattle.darts.specs.Levels.{sweep, undo_level, unfold_to}
use Rattle.darts.specs.Calls.{After, table_of, past_of, work_after, judged, hands_back, on_state, start, reduce_by, sweep_by, undo_by, unfold_by, counts}
use Rattle.slices.specs.Over.{over}
use Rattle.laws.proofs.calls.Judging.{Lent}
use Rattle.slices.proofs.Over.{over_rest, over_own, drop_more}
use Rattle.laws.proofs.calls.Cleared.{cleared_rest}
use Rattle.laws.proofs.sentences.Steps.{Keeps, Adds, Lessens, pyramid_fitted, reduce_keeps, sweep_keeps, undo_keeps, unfold_keeps, reduce_adds, sweep_adds, undo_lessens, unfold_lessens}
use Rattle.laws.proofs.sentences.Outcome.{work_by, start_by, outcome_by}

-- "Numbers of a lent table past D are neither read nor written, nor those of a history past the larger of the operation counts before and after the
-- call." Of the work area, "the work area's first 4D numbers" are the call's.
pub record Unwritten (s : State) (t h w : List ℕ) (a : After) : Type 0 where
  pub table : drop s.darts a.table ≡ drop s.darts t
  pub history : drop (max s.operations a.state.operations) a.history ≡ drop (max s.operations a.state.operations) h
  pub work : drop (4 * s.darts) a.work ≡ drop (4 * s.darts) w

pub record OnlyWork (D : ℕ) (t h w t' h' w' : List ℕ) : Type 0 where
  pub table : t' ≡ t
  pub history : h' ≡ h
  pub work : drop (4 * D) w' ≡ drop (4 * D) w

work_rest : (a : Answer) (D : ℕ) (w : List ℕ) → drop (4 * D) (work_after a D w) ≡ drop (4 * D) w
work_rest a D w = work_by (λ v. drop (4 * D) v ≡ drop (4 * D) w) a D w refl (cleared_rest D w)

over_past : (new old : List ℕ) (n : ℕ) → length new ≤ n → drop n (over new old) ≡ drop n old
over_past new old n l = drop_more (length new) n (over new old) old l (over_rest new old)

-- ---- the numbers that counted

-- numbers laid over that begin with those of the slice
over_kept : (n : ℕ) (new rest h : List ℕ) → new ≡ take n h ++ rest → length (take n h) ≡ n → take n (over new h) ≡ take n h
unfolding over
over_kept n new rest h e full =
    let fits : n ≤ length new = rw e (simp length-append (omega arith)) in
    take-append-le n new (drop (length new) h) fits ∙ ap (take n) e ∙ take_at (take n h) rest n full

-- numbers laid over with which the slice begins
over_begun : (n : ℕ) (new rest h : List ℕ) → take n h ≡ new ++ rest → over new h ≡ h
over_begun n new rest h e =
    let size = simp (length-take, length-append) at (ap length e) in
    let front : take (length new) h ≡ new = sym (take-take (length new) n h (omega arith)) ∙ ap (take (length new)) e ∙ take-append_seam new rest in
    ap (λ (l : List ℕ). over l h) (sym front) ∙ over_own (length new) h (omega arith)

module _ (s : State) (t h w : List ℕ) where
  -- the past, first to last
  past_forth : reverse (past_of s h) ≡ take s.operations h
  unfolding past_of
  past_forth = reverse-reverse (take s.operations h)

  -- ---- the four that hand back a state

  module _ (step : State → List ℕ → List ℕ → Result) where
    -- WHATEVER THE STEP OF A PYRAMID, IF IT KEEPS ITS NUMBERS
    on_state_unwritten : Keeps step → Unwritten s t h w (on_state step s t h w)
    unfolding on_state hands_back
    on_state_unwritten K =
        outcome_by s t h w step (λ r. Unwritten s t h w (hands_back s t h w r)) (refused _) (refused _) (λ l. refused) given
      where
        refused : (a : Answer) → Unwritten s t h w (hands_back s t h w (refuses a))
        refused a = record { table = refl; history = refl; work = work_rest a s.darts w }

        given : Lent s t h w → (z : State) (u new : List ℕ) → step s (table_of s t) (past_of s h) ≡ gives z u new
            → Unwritten s t h w (hands_back s t h w (gives z u new))
        given L z u new e =
            let F = K.fitted L.pyramid e in
            let size = length-reverse new in
            record {
              table = over_past u t s.darts (omega arith);
              history = over_past (reverse new) h (max s.operations z.operations) (omega arith);
              work = cleared_rest s.darts w;
            }

    on_state_adds : Adds step → take s.operations (on_state step s t h w).history ≡ take s.operations h
    unfolding on_state hands_back
    on_state_adds A = outcome_by s t h w step (λ r. take s.operations (hands_back s t h w r).history ≡ take s.operations h) refl refl (λ l a. refl) given
      where
        given : Lent s t h w → (z : State) (u new : List ℕ) → step s (table_of s t) (past_of s h) ≡ gives z u new
            → take s.operations (over (reverse new) h) ≡ take s.operations h
        given L z u new e =
            let O = A.onto L.pyramid e in
            let count = (pyramid_fitted L.pyramid).history in
            over_kept s.operations (reverse new) (reverse O.more) h
            (ap reverse O.history ∙ reverse-append O.more (past_of s h) ∙ ap (λ (l : List ℕ). l ++ reverse O.more) past_forth)
            (sym (ap length past_forth) ∙ length-reverse (past_of s h) ∙ count)

    on_state_lessens : Lessens step → (on_state step s t h w).history ≡ h
    unfolding on_state hands_back
    on_state_lessens A = outcome_by s t h w step (λ r. (hands_back s t h w r).history ≡ h) refl refl (λ l a. refl) given
      where
        given : Lent s t h w → (z : State) (u new : List ℕ) → step s (table_of s t) (past_of s h) ≡ gives z u new → over (reverse new) h ≡ h
        given L z u new e =
            let O = A.onto L.pyramid e in
            over_begun s.operations (reverse new) (reverse O.more) h
            (sym past_forth ∙ ap reverse O.history ∙ reverse-append O.more new)

  -- "nor those of a history past the larger of the operation counts before and after the call"
  pub reduce_unwritten : (k : Kind) (es : List ℕ) → Unwritten s t h w (reduce_by k es s t h w)
  unfolding reduce_by
  reduce_unwritten k es = on_state_unwritten (reduce k es) (reduce_keeps k es)

  pub sweep_unwritten : Unwritten s t h w (sweep_by s t h w)
  unfolding sweep_by
  sweep_unwritten = on_state_unwritten sweep sweep_keeps

  pub undo_unwritten : Unwritten s t h w (undo_by s t h w)
  unfolding undo_by
  undo_unwritten = on_state_unwritten undo_level undo_keeps

  pub unfold_unwritten : (k : ℕ) → Unwritten s t h w (unfold_by k s t h w)
  unfolding unfold_by
  unfold_unwritten k = on_state_unwritten (unfold_to k) (unfold_keeps k)

  -- what counted stays: a new operation only adds its number
  pub reduce_history : (k : Kind) (es : List ℕ) → take s.operations (reduce_by k es s t h w).history ≡ take s.operations h
  unfolding reduce_by
  reduce_history k es = on_state_adds (reduce k es) (reduce_adds k es)

  pub sweep_history : take s.operations (sweep_by s t h w).history ≡ take s.operations h
  unfolding sweep_by
  sweep_history = on_state_adds sweep sweep_adds

  -- "History past the count is [..] never altered except by a new operation.": undo and unfold make none
  pub undo_history : (undo_by s t h w).history ≡ h
  unfolding undo_by
  undo_history = on_state_lessens undo_level undo_lessens

  pub unfold_history : (k : ℕ) → (unfold_by k s t h w).history ≡ h
  unfolding unfold_by
  unfold_history k = on_state_lessens (unfold_to k) (unfold_lessens k)

-- ---- the calls that write the work area alone

pub start_only_work : (D : ℕ) (t h w : List ℕ) → OnlyWork D t h w (start D t h w).table (start D t h w).history (start D t h w).work
start_only_work D t h w =
    start_by (λ a. OnlyWork D t h w a.table a.history a.work) D t h w (λ a. record { table = refl; history = refl; work = refl })
    (λ l a z. record { table = refl; history = refl; work = cleared_rest D w })

pub counts_only_work : (s : State) (t h w : List ℕ) → OnlyWork s.darts t h w (counts s t h w).table (counts s t h w).history (counts s t h w).work
unfolding counts
counts_only_work s t h w = record { table = refl; history = refl; work = work_rest (judged s t h w) s.darts w }
