-- What a refusal leaves: "A refusal changes nothing but the work area."
--   Untouched t h u g == the table u and the history g are t and h, as they were lent
--   Returned s t h a  == a call hands back the state s, and leaves the table t and the history h
--   refused_returns   == every refused call on a state does so; instances for reduce, sweep, undo, unfold
--   start-...         == a refused start hands back a state of zeros, an accepted one a base; table and history stay
--   Noughts c         == four zeros; what refused counts are
--   write_leaves      == the writer never changes table and history
use mathlib.Core.List.{List, []}
use mathlib.Core.Logic.{◌≢◌}
use mathlib.Core.Path.{◌≡◌, refl}
use Prim.Native.Nat.{ℕ}
use native.Mathlib.Omega.{arith}
use lib.IntN.{pos}
use lib.ListN.{replicate, take}
use Rattle.permutations.specs.Choice.{eqb_other}
use Rattle.darts.specs.Counts.{Counts}
use Rattle.darts.specs.Operation.{Kind}
use Rattle.darts.specs.State.{State, storing, Result, gives, refuses, reduce}
use Rattle.darts.specs.Levels.{sweep, undo_level, unfold_to}
use Rattle.darts.specs.Calls.{After, hands_back, on_state, start, reduce_by, sweep_by, undo_by, unfold_by, counts, write}
use Rattle.laws.proofs.calls.Outcomes.{Starting, no_count, no_room, no_base, base, starting, Writing, refused, tight, written, writing}

pub record Untouched (t h u g : List ℕ) : Type 0 where
  pub table : u ≡ t
  pub history : g ≡ h

pub record Returned (s : State) (t h : List ℕ) (a : After) : Type 0 where
  pub state : a.state ≡ s
  pub table : a.table ≡ t
  pub history : a.history ≡ h

-- ---- calls on a state

module _ (s : State) (t h w : List ℕ) where
  ends_returned : (r : Result) → (hands_back s t h w r).answer.number ≢ 0 → Returned s t h (hands_back s t h w r)
  unfolding hands_back
  ends_returned (gives z u new) n = absurd (n refl)
  ends_returned (refuses a) n = record { state = refl; table = refl; history = refl }

  -- "A refused call hands back the state it was given." "A refusal changes nothing but the work area."
  pub refused_returns : (step : State → List ℕ → List ℕ → Result) → (on_state step s t h w).answer.number ≢ 0 → Returned s t h (on_state step s t h w)
  unfolding on_state
  refused_returns step = ends_returned _

  pub reduce_refused : (k : Kind) (es : List ℕ) → (reduce_by k es s t h w).answer.number ≢ 0 → Returned s t h (reduce_by k es s t h w)
  unfolding reduce_by
  reduce_refused k es = refused_returns (reduce k es)

  pub sweep_refused : (sweep_by s t h w).answer.number ≢ 0 → Returned s t h (sweep_by s t h w)
  unfolding sweep_by
  sweep_refused = refused_returns sweep

  pub undo_refused : (undo_by s t h w).answer.number ≢ 0 → Returned s t h (undo_by s t h w)
  unfolding undo_by
  undo_refused = refused_returns undo_level

  pub unfold_refused : (k : ℕ) → (unfold_by k s t h w).answer.number ≢ 0 → Returned s t h (unfold_by k s t h w)
  unfolding unfold_by
  unfold_refused k = refused_returns (unfold_to k)

-- ---- start

module _ (D : ℕ) (t h w : List ℕ) where
  -- "A refused start or read, which was given none, hands back a state of zeros."
  pub start_refused : (start D t h w).answer.number ≢ 0
      → (start D t h w).state ≡ record { darts = 0; operations = 0; levels = 0; ends = replicate 64 0; vertices = 0; faces = 0 }
  start_refused n = go (starting D t h w)
    where
      go : Starting D t h w → (start D t h w).state ≡ record { darts = 0; operations = 0; levels = 0; ends = replicate 64 0; vertices = 0; faces = 0 }
      go (no_count c e) = rw e
      go (no_room c l e) = rw e
      go (no_base c l b e) = rw e
      go (base c l b e) = absurd (n (rw e))

  -- a base of D darts: no operation, no level, and no level end in use
  pub start_accepted : (start D t h w).answer.number ≡ 0
      → (start D t h w).state ≡ storing D 0 0 (replicate 64 0) (take D t) []
  start_accepted z = go (starting D t h w)
    where
      go : Starting D t h w → (start D t h w).state ≡ storing D 0 0 (replicate 64 0) (take D t) []
      go (no_count c e) = absurd (let k : 1 ≡ 0 = rw e at z in omega arith)
      go (no_room c l e) = absurd (let k : 2 ≡ 0 = rw e at z in omega arith)
      go (no_base c l b e) = absurd (let k : 3 ≡ 0 = rw e at z in omega arith)
      go (base c l b e) = rw e

  -- a start writes neither, accepted or refused
  pub start_leaves : Untouched t h (start D t h w).table (start D t h w).history
  start_leaves = go (starting D t h w)
    where
      go : Starting D t h w → Untouched t h (start D t h w).table (start D t h w).history
      go (no_count c e) = rw e (record { table = refl; history = refl })
      go (no_room c l e) = rw e (record { table = refl; history = refl })
      go (no_base c l b e) = rw e (record { table = refl; history = refl })
      go (base c l b e) = rw e (record { table = refl; history = refl })

-- ---- counts

pub record Noughts (c : Counts) : Type 0 where
  pub darts : c.darts ≡ 0
  pub vertices : c.vertices ≡ 0
  pub faces : c.faces ≡ 0
  pub euler : c.euler ≡ pos 0

module _ (s : State) (t h w : List ℕ) where
  -- "Refused counts are four zeros."
  pub counts_refused_lem : (counts s t h w).answer.number ≢ 0 → Noughts (counts s t h w).counts
  unfolding counts
  counts_refused_lem n = rw (eqb_other n) (record { darts = refl; vertices = refl; faces = refl; euler = refl })

  pub counts_leaves : Untouched t h (counts s t h w).table (counts s t h w).history
  unfolding counts
  counts_leaves = record { table = refl; history = refl }

-- ---- write

module _ (s : State) (t h w o : List ℕ) where
  pub write_leaves : Untouched t h (write s t h w o).table (write s t h w o).history
  write_leaves = go (writing s t h w o)
    where
      go : Writing s t h w o → Untouched t h (write s t h w o).table (write s t h w o).history
      go (refused n e) = rw e (record { table = refl; history = refl })
      go (tight l b e) = rw e (record { table = refl; history = refl })
      go (written l b e) = rw e (record { table = refl; history = refl })
