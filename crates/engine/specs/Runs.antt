-- How a run of operations went.
--   ran_in D w r      == the run that r tells of, by how many operations there are then, with the table and the past that the work area holds
--   Went D run w v r == r tells of this run, and v is the work area after it
--   Goes D m k e w v == v holds the map once the operation on edge e is done, the one of count m, and judges the next one
--   Stays D n k w v  == v holds what w holds, and judges as w does
--   Turned D m k e i w v r == the turn of edge e, the one at place i: r is its answer, and where that is done the operation is, else nothing is
use Rattle.std.specs.Prelude.{List, ◌∷◌, ◌≢◌, ◌≡◌, ℕ, ◌+◌, ◌/◌, ◌≤◌, Result, Ok, Err, IfOk}
use Rattle.darts.specs.Cases.{refusal_of, answer_of}
use Rattle.darts.specs.declared.Refusal.{Refusal}
use Rattle.darts.specs.Operation.{kind_of, lead, operate, number}
use Rattle.darts.specs.Kernel.{judge, Run, stands, stops}
use Rattle.area.specs.Area.{table_in, past_in}
use Rattle.operations.specs.Edge.{Says}
use Rattle.engine.specs.Held.{Ready, Beyond}

abbrev pub ran_in : ℕ → List ℕ → Result ℕ Refusal → Run
ran_in D w (Ok m) = stands (table_in D w) (past_in D m w)
ran_in D w (Err r) = stops (refusal_of r)

pub record Went (D : ℕ) (run : Run) (w v : List ℕ) (r : Result ℕ Refusal) : Type 0 where
  pub went : ran_in D v r ≡ run
  pub few : IfOk r (λ m. m ≤ D / 2)
  pub beyond : Beyond D w v

pub record Goes (D m k e : ℕ) (w v : List ℕ) : Type 0 where
  pub ready : Ready D (m + 1) k v
  pub table : table_in D v ≡ operate (kind_of k) D (table_in D w) (past_in D m w) e
  pub past : past_in D (m + 1) v ≡ number (kind_of k) (lead (kind_of k) (table_in D w) e) ∷ past_in D m w

pub record Stays (D n k : ℕ) (w v : List ℕ) : Type 0 where
  pub ready : Ready D n k v
  pub table : table_in D v ≡ table_in D w
  pub past : past_in D n v ≡ past_in D n w
  pub beyond : Beyond D w v

pub record Turned (D m k e i : ℕ) (w v : List ℕ) (r : Result (Unit {0}) Refusal) : Type 0 where
  pub answer : Says (judge (kind_of k) D (table_in D w) (past_in D m w) e) i r
  pub beyond : Beyond D w v
  pub done : (answer_of r).number ≡ 0 → Goes D m k e w v
  pub refused : (answer_of r).number ≢ 0 → Stays D m k w v
