-- "3 carries a second place, D where the value was out of range; every other answer has 0 there" (document 02, request Three): the calls that never
-- answer 3. For start see Start.antt.
--   NoSecond a    == the second place of the answer a is 0
--   judged_second == so it is with the answers 1, 2 and 4 of a call on a state
--   state_second  == and with a call on a state, where it is so with every refusal of its step; instances for reduce, sweep, undo, unfold
--   counts_second, write_second, read_second == the same for counts, write and read
use mathlib.Core.List.{List}
use mathlib.Core.Path.{◌≡◌, refl}
use Prim.Native.Nat.{ℕ}
use lib.Dec.{eqb}
use Rattle.darts.specs.Answers.{Answer}
use Rattle.darts.specs.Operation.{Kind}
use Rattle.darts.specs.State.{State, Result, gives, refuses, reduce}
use Rattle.darts.specs.Levels.{sweep, undo_level, unfold_to}
use Rattle.darts.specs.Read.{Read, means, faulty, read_file}
use Rattle.darts.specs.Calls.{table_of, past_of, judged, hands_back, on_state, reduce_by, sweep_by, undo_by, unfold_by, counts, read_into, read, write}
use Rattle.laws.proofs.runs.Earnest.{Refusing, refusing_if, refusing_reduce, refusing_sweep, refusing_undo, refusing_unfold}
use Rattle.laws.proofs.calls.Judging.{Judging, uncounted, cramped, other, lent, judging}
use Rattle.laws.proofs.calls.Outcomes.{Writing, refused, tight, written, writing}
use Rattle.laws.proofs.file.Seen.{seen_some}
use Rattle.laws.proofs.sentences.FirstLines.{fits}

abbrev pub NoSecond : Answer → Type 0
NoSecond a = a.second ≡ 0

module _ (s : State) (t h w : List ℕ) where
  pub judged_second : (judged s t h w).second ≡ 0
  judged_second = go (judging s t h w)
    where
      go : Judging s t h w → (judged s t h w).second ≡ 0
      go (uncounted c e) = rw e
      go (cramped c l e) = rw e
      go (other c l p e) = rw e
      go (lent l e) = rw e

  -- ---- calls on a state

  ends_second : (r : Result) → Refusing NoSecond r → (hands_back s t h w r).answer.second ≡ 0
  unfolding hands_back
  ends_second (gives z u new) k = refl
  ends_second (refuses a) k = k

  -- "every other answer has 0 there"
  pub state_second : (step : State → List ℕ → List ℕ → Result) → ((s : State) (t past : List ℕ) → Refusing NoSecond (step s t past))
      → (on_state step s t h w).answer.second ≡ 0
  unfolding on_state
  state_second step k =
      ends_second _ (refusing_if NoSecond (eqb (judged s t h w).number 0) _ _ (k s (table_of s t) (past_of s h)) judged_second)

  pub reduce_second : (k : Kind) (es : List ℕ) → (reduce_by k es s t h w).answer.second ≡ 0
  unfolding reduce_by
  reduce_second k es = state_second (reduce k es) (refusing_reduce NoSecond (λ n p h. refl) k es)

  pub sweep_second : (sweep_by s t h w).answer.second ≡ 0
  unfolding sweep_by
  sweep_second = state_second sweep (refusing_sweep NoSecond (λ n p h. refl))

  pub undo_second : (undo_by s t h w).answer.second ≡ 0
  unfolding undo_by
  undo_second = state_second undo_level (refusing_undo NoSecond (λ n p h. refl))

  pub unfold_second : (k : ℕ) → (unfold_by k s t h w).answer.second ≡ 0
  unfolding unfold_by
  unfold_second k = state_second (unfold_to k) (refusing_unfold NoSecond (λ n p h. refl) k)

  -- ---- counts and write

  pub counts_second : (counts s t h w).answer.second ≡ 0
  unfolding counts
  counts_second = judged_second

  pub write_second : (o : List ℕ) → (write s t h w o).answer.second ≡ 0
  write_second o = go (writing s t h w o)
    where
      go : Writing s t h w o → (write s t h w o).answer.second ≡ 0
      go (refused n e) = rw e judged_second
      go (tight l b e) = rw e
      go (written l b e) = rw e

-- ---- read

-- a faulty file is answered 1, 2, 4, 5, 6, 13 or 14
pub read_second : (b t h w : List ℕ) → (read b t h w).answer.second ≡ 0
unfolding read read_into
read_second b t h w = go (read_file (fits t h w) b) refl
  where
    go : (r : Read) → read_file (fits t h w) b ≡ r → (read_into t h w r).answer.second ≡ 0
    go (means s u past) e = refl
    go (faulty D a) e = seen_some (fits t h w) b NoSecond (λ n p h. refl) e
