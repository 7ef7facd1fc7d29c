-- "4 if the table and ends come from no pyramid" (document 02, request Four): what it is to come from a pyramid, and its decision.
--   end_in L ks e     == the end of edge e where the kernels ks make the levels from L on; 0 where none has it
--   ends_in s past    == the ends of a pyramid's edges
--   ends_so v w       == the end v is the end w; an edge that survives may have either number
--   Comes D t ends   == some kernels, accepted one after another on the base t, end each edge as the ends say
--   operations ends  == the contractions that the ends tell, and then the removals, by rising number
--   accepted r       == the run r is accepted
--   comes D t ends   == the decision: the base, the levels, and these operations one by one
use Rattle.std.specs.Prelude.{Bool, true, false, ◌&&◌, ◌||◌, List, [], ◌∷◌, ◌++◌, map, ◌≡◌, ℕ, suc, ◌/◌, ◌<◌, T, eqb, get_or, length}
use Rattle.permutations.specs.Live.{has}
use Rattle.std.specs.Prelude.{if◌then◌else◌}
use Rattle.darts.specs.Map.{permutes, permutation_test, passed}
use Rattle.darts.specs.Operation.{contraction, removal, number}
use Rattle.darts.specs.Kernel.{Operation, each, rising, Run, stands, stops}
use Rattle.darts.specs.State.{State, base_state, gives}
use Rattle.darts.specs.Pyramid.{Kernel, dart_count, build, kernels_of}
use Rattle.darts.specs.OneByOne.{one_by_one}
use Rattle.ends.specs.Ends.{level_of, shaped, ending}

-- "for each edge, the level and kind of its end": 2L for an edge removed at level L, 2L+1 for one contracted there
unfoldable pub end_in : ℕ → List Kernel → ℕ → ℕ
end_in L [] e = 0
end_in L (k ∷ ks) e = if has k.edges e then number k.kind L else end_in (suc L) ks e

unfoldable pub ends_in : State → List ℕ → List ℕ
ends_in s past = map (end_in 1 (kernels_of s past)) (rising 0 (s.darts / 2))

-- "level 0 meaning that the edge survives (its kind is not looked at)"
unfoldable pub ends_so : ℕ → ℕ → Bool
ends_so v w = eqb v w || (eqb (level_of v) 0 && eqb (level_of w) 0)

-- the table t has D numbers, and the ends are D/2
pub record Comes (D : ℕ) (t ends : List ℕ) : Type 0 where
  pub count : T (dart_count D)
  pub size : length t ≡ D
  pub permutation : permutation_test D t ≡ permutes
  pub kernels : List Kernel
  -- the pyramid that they give
  pub state : State
  pub table : List ℕ
  pub past : List ℕ
  pub built : build (base_state D t) t [] kernels ≡ gives state table past
  pub told : (e : ℕ) → e < D / 2 → T (ends_so (get_or ends e 0) (end_in 1 kernels e))

-- any order will do, so that the levels need not be built one by one
unfoldable pub operations : List ℕ → List Operation
operations ends = each contraction (ending contraction ends) ++ each removal (ending removal ends)

unfoldable pub accepted : Run → Bool
accepted (stands t past) = true
accepted (stops a) = false

unfoldable pub comes : ℕ → List ℕ → List ℕ → Bool
comes D t ends = passed (permutation_test D t) && (shaped ends && accepted (one_by_one D t [] (operations ends)))
