-- A kernel of contractions with the notes of what each merges, and a base with the places of its records.
--   TurnedNoted D m e i w v r == the turn of edge e, the one at place i, after m operations: where its contraction is done, v has its note too
--   RanNoted D n es w v r     == the kernel es of contractions, after n operations: how it went, and the notes of those that it did
--   Placed D t w v r          == r is what the permutation test says of the table t; where it is passed, v labels each dart with the place of its vertex's record
use Rattle.std.specs.Prelude.{List, ◌++◌, reverse, ◌≢◌, ◌≡◌, ℕ, ◌+◌, ◌*◌, ◌/◌, ◌≤◌, ◌<◌, get_or, set, drop, Result, IfOk}
use Rattle.darts.specs.Cases.{answer_of}
use Rattle.darts.specs.declared.Refusal.{Refusal}
use Rattle.darts.specs.Kernel.{run}
use Rattle.darts.specs.Map.{permutes, permutation_test}
use Rattle.darts.specs.Operation.{contraction}
use Rattle.area.specs.Area.{table_in, past_in}
use Rattle.area.specs.Verdicts.{verdict_of}
use Rattle.area.specs.declared.Culprits.{Culprits}
use Rattle.operations.specs.Trees.{rooted}
use Rattle.engine.specs.Held.{Beyond}
use Rattle.engine.specs.Runs.{Turned, Went}
use Rattle.engine.specs.declared.Cycles.{Cycles}
use Rattle.sheets.specs.Notes.{note_of, notes_in}
use Rattle.yarn.specs.Places.{lowest, joins, merge_by, merges_of}

pub record TurnedNoted (D m e i : ℕ) (w v : List ℕ) (r : Result (Unit {0}) Refusal) : Type 0 where
  -- the work area after the turn, before the note
  pub plain : List ℕ
  pub turned : Turned D m 1 e i w plain r
  -- the turn writes nothing past the first half of the history's part
  pub late : drop (3 * D + D / 2) plain ≡ drop (3 * D + D / 2) w
  pub two : (answer_of r).number ≡ 0 → rooted D w (2 * e) ≢ rooted D w (2 * e + 1)
  pub roots : (answer_of r).number ≡ 0 → rooted D plain ≡ joins (rooted D w) e
  pub noted : (answer_of r).number ≡ 0 → v ≡ set plain (3 * D + D / 2 + m) (note_of (merge_by contraction (rooted D w) e))
  pub left : (answer_of r).number ≢ 0 → v ≡ plain

pub record RanNoted (D n : ℕ) (es w v : List ℕ) (r : Result ℕ Refusal) : Type 0 where
  pub went : Went D (run contraction D (table_in D w) (past_in D n w) es) w v r
  -- the history numbers of the kernel's operations, the first one first
  pub fresh : List ℕ
  pub grows : IfOk r (λ m. n ≤ m)
  pub told : IfOk r (λ m. past_in D m v ≡ reverse fresh ++ past_in D n w)
  pub notes : IfOk r (λ m. (i : ℕ) → n + i < m → notes_in D v (n + i) ≡ merges_of (rooted D w) fresh i)

pub record Placed (D : ℕ) (t w v : List ℕ) (r : Result Cycles Culprits) : Type 0 where
  pub verdict : verdict_of r ≡ permutation_test D t
  pub beyond : Beyond D w v
  -- "one record for each vertex of the base, at the place of its lowest dart among D places"
  pub labels : verdict_of r ≡ permutes → (x : ℕ) → x < D → get_or v (2 * D + x) 0 ≡ lowest D t x
