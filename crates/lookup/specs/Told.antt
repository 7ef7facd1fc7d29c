-- The operations that the ends tell.
--   tells κ v         == the end v is by the kind κ
--   Passed D run w v r == r tells of this run, and v is the work area after it, which holds the map there where the run stands
--   Operated D t ends w v r == r says whether the operations that the ends tell may be done on the base t, and v is the work area after them
--   Came D t ends w v r == r says whether the table t and these ends come from a pyramid, and v is the work area after the test
use Rattle.std.specs.Prelude.{Bool, ◌&&◌, List, [], ◌≡◌, ℕ, Result, IfOk, leb}
use Rattle.darts.specs.Kernel.{Run}
use Rattle.darts.specs.OneByOne.{one_by_one}
use Rattle.darts.specs.Operation.{Kind, kind_of}
use Rattle.darts.specs.Tests.{same_kind}
use Rattle.darts.specs.declared.Refusal.{Refusal}
use Rattle.engine.specs.Held.{Area, Beyond}
use Rattle.engine.specs.Runs.{Went}
use Rattle.ends.specs.Ends.{level_of}
use Rattle.ends.specs.Comes.{operations, accepted, comes}

unfoldable pub tells : Kind → ℕ → Bool
tells κ v = leb 1 (level_of v) && same_kind κ (kind_of v)

pub record Passed (D : ℕ) (run : Run) (w v : List ℕ) (r : Result ℕ Refusal) : Type 0 where
  pub ran : Went D run w v r
  pub area : IfOk r (λ m. Area D m v)

pub record Operated (D : ℕ) (t ends w v : List ℕ) (r : Bool) : Type 0 where
  pub answer : r ≡ accepted (one_by_one D t [] (operations ends))
  pub beyond : Beyond D w v

pub record Came (D : ℕ) (t ends w v : List ℕ) (r : Bool) : Type 0 where
  pub answer : r ≡ comes D t ends
  pub beyond : Beyond D w v
