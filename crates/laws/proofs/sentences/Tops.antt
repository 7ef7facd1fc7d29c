-- Undo, unfold and counts on a pyramid lent with room.
--   undo_twelve, unfold_twelve == 12, "undo at the base, or k above the top", place "the top level"
--   undo_zero, unfold_zero, counts_zero == done, in every other case
use mathlib.Core.List.{List}
use mathlib.Core.Logic.{◌≢◌}
use mathlib.Core.Path.{◌≡◌, refl}
use Prim.Native.Nat.{ℕ, ◌<◌, ◌≤◌}
use lib.Dec.{ltb, lt→ltb}
use Rattle.permutations.specs.Choice.{T→true, eqb_same, eqb_other}
use Rattle.darts.specs.State.{State}
use Rattle.darts.specs.Levels.{undo_level, unfold_to}
use Rattle.darts.specs.Calls.{table_of, past_of, undo_by, unfold_by, counts}
use Rattle.laws.proofs.runs.Results.{Given}
use Rattle.laws.proofs.file.WriteRead.{unfold_given}
use Rattle.laws.proofs.calls.Judging.{Lent, judged_lent, on_refuses, on_gives}
use Rattle.laws.proofs.sentences.Order.{Answers, answers}

above_base : (s : State) (t past : List ℕ) → s.levels ≢ 0 → Given (undo_level s t past)
unfolding undo_level
above_base s t past n = rw (eqb_other n) (record { state = _; table = _; past = _; given = refl })

module _ (s : State) (t h w : List ℕ) (L : Lent s t h w) where
  -- 12, "undo at the base"
  pub undo_twelve : s.levels ≡ 0 → Answers (undo_by s t h w).answer 12 0
  unfolding undo_by undo_level
  undo_twelve b = answers (on_refuses s t h w undo_level L (rw (eqb_same b)))

  pub undo_zero : s.levels ≢ 0 → Answers (undo_by s t h w).answer 0 0
  unfolding undo_by
  undo_zero n = answers (on_gives s t h w undo_level L (above_base s (table_of s t) (past_of s h) n))

  -- 12, "k above the top", place "the top level"
  pub unfold_twelve : (k : ℕ) → s.levels < k → Answers (unfold_by k s t h w).answer 12 s.levels
  unfolding unfold_by unfold_to
  unfold_twelve k b = answers (on_refuses s t h w (unfold_to k) L (rw (T→true (ltb s.levels k) (lt→ltb s.levels k b))))

  -- "k at or below the top"
  pub unfold_zero : (k : ℕ) → k ≤ s.levels → Answers (unfold_by k s t h w).answer 0 0
  unfolding unfold_by
  unfold_zero k b = answers (on_gives s t h w (unfold_to k) L (unfold_given k s (table_of s t) (past_of s h) b))

  pub counts_zero : Answers (counts s t h w).answer 0 0
  unfolding counts
  counts_zero = answers (judged_lent s t h w L)
