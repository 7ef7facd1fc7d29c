-- Operations undone in the work area.
--   TookBack D n c w v == v is w once the last c of its n operations are undone: its table, its past, and what is kept
use Rattle.std.specs.Prelude.{List, ◌≡◌, ℕ, ◌-◌, drop}
use Rattle.darts.specs.Operation.{undone}
use Rattle.area.specs.Area.{table_in, past_in}
use Rattle.engine.specs.Held.{Area, Beyond}

pub record TookBack (D n c : ℕ) (w v : List ℕ) : Type 0 where
  pub table : table_in D v ≡ undone D c (table_in D w) (past_in D n w)
  pub past : past_in D (n - c) v ≡ drop c (past_in D n w)
  pub area : Area D (n - c) v
  pub beyond : Beyond D w v
