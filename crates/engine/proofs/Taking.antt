-- The work area tells which edges the sweep takes.
use mathlib.Core.List.{List}
use mathlib.Core.Path.{◌≡◌}
use Prim.Native.Nat.{ℕ, ◌+◌, ◌*◌, ◌/◌, ◌<◌}
use native.Mathlib.Omega.{arith}
use lib.Dec.{ltb, lt→ltb}
use Rattle.permutations.specs.Choice.{T→true}
use Rattle.darts.specs.Map.{live}
use Rattle.darts.specs.Operation.{whole_edge}
use Rattle.darts.specs.Levels.{empty_loop, takes}
use Rattle.area.specs.Area.{table_in, past_in}
use Rattle.engine.specs.Held.{Area}
use Rattle.operations.specs.Operate.{takes_in}
use Rattle.engine.proofs.Area.{there_live}
use Rattle.engine.proofs.Parts.{successor_in}

pub takes_in_lem : {D n : ℕ} {w : List ℕ} → Area D n w → (e : ℕ) → e < D / 2 → takes_in D w e ≡ takes (table_in D w) (past_in D n w) e
unfolding takes_in takes empty_loop whole_edge live
takes_in_lem {D} {n} {w} A e h =
    rw (
      there_live A (2 * e) (omega arith),
      T→true (ltb (2 * e) D) (lt→ltb (2 * e) D (omega arith)),
      successor_in D w (2 * e) (omega arith),
      successor_in D w (2 * e + 1) (omega arith),
    )
