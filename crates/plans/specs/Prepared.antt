-- The work area before the first kernel.
--   Bound D n w v    == v is w with each of the first n darts noted before its successor
--   Prepared g D w v == v is w with the base of g, of D darts, and judges contractions
use Rattle.std.specs.Prelude.{List, ◌≡◌, ℕ, ◌*◌, ◌<◌, length, drop}
use Rattle.darts.specs.Map.{successor}
use Rattle.area.specs.Area.{prev, table_in}
use Rattle.grids.specs.Grid.{Grid}
use Rattle.grids.specs.Base.{base_table}
use Rattle.engine.specs.Held.{Ready, Beyond}

pub record Bound (D n : ℕ) (w v : List ℕ) : Type 0 where
  pub size : length v ≡ length w
  pub table : table_in D v ≡ table_in D w
  pub rest : drop (4 * D) v ≡ drop (4 * D) w
  pub notes : (z : ℕ) → z < n → prev D v (successor v z) ≡ z

pub record Prepared (g : Grid) (D : ℕ) (w v : List ℕ) : Type 0 where
  pub ready : Ready D 0 1 v
  pub table : table_in D v ≡ base_table g
  pub beyond : Beyond D w v
