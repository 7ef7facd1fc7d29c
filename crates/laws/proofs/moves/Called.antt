-- The stored numbers along the calls on a state.
--   following    == the step of each call keeps the base, and does operations or undoes some
--   called_kept  == the history that a call leaves begins with the past that it was given
--   called_moved == where a call answers 0, the numbers that it was given, moved along the history that it leaves, are the numbers of the cycles
use mathlib.Core.List.{List, reverse}
use mathlib.Core.Path.{◌≡◌, refl, ap}
use Prim.Native.Nat.{ℕ}
use Rattle.darts.specs.State.{State}
use Rattle.darts.specs.Calls.{After, past_of}
use Rattle.darts.specs.Moves.{moved_to}
use Rattle.laws.proofs.chained.OnLent.{Call, by_kernel, by_sweep, by_undo, to_level, called, step_of, called_left}
use Rattle.laws.proofs.sentences.NotWritten.{reduce_history, sweep_history, undo_history, unfold_history}
use Rattle.laws.proofs.moves.Steps.{Following, reduce_follows, sweep_follows, undo_follows, unfold_follows}
use Rattle.laws.proofs.moves.Numbers.{moved_stores}

pub following : (c : Call) → Following (step_of c)
following (by_kernel k) = reduce_follows k.kind k.edges
following by_sweep = sweep_follows
following by_undo = undo_follows
following (to_level k) = unfold_follows k

-- what was done stays in the history, also when it is undone
pub called_kept : (c : Call) (s : State) (t h w : List ℕ) → past_of s (called c s t h w).history ≡ past_of s h
unfolding past_of
called_kept (by_kernel k) s t h w = ap reverse (reduce_history s t h w k.kind k.edges)
called_kept by_sweep s t h w = ap reverse (sweep_history s t h w)
called_kept by_undo s t h w = ap (past_of s) (undo_history s t h w)
called_kept (to_level k) s t h w = ap (past_of s) (unfold_history s t h w k)

module _ (c : Call) (s : State) (t h w : List ℕ) where
  abbrev a : After
  a = called c s t h w

  -- WHERE A CALL ANSWERS 0, THE NUMBERS MOVED ALONG THE HISTORY THAT IT LEAVES ARE THE NUMBERS OF THE CYCLES
  pub called_moved : a.answer.number ≡ 0
      → moved_to s a.state a.history ≡ a.state
  called_moved e =
      let A = called_left c s t h w e in
      let P = A.before.pyramid in
      moved_stores P ((following c).follows P A.gave) a.history (called_kept c s t h w) refl
