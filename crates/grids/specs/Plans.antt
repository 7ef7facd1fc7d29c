-- Plans: the base of a plan, the base with its first kernel, and the two calls (document 02, request One). The plan's codes are one a cell.
--   code_at plan c        == the code of cell c
--   one_code g plan e     == both ends of edge e have the same code
--   takes_first g plan    == the first kernel takes an edge
--   first_kernel g plan   == its run on the base
--   OneArea g plan a b   == steps between neighbours of one code lead from cell a to cell b
--   fitting_plan          == answers 15 and 2, or done
--   plan_base, plan_areas  == the calls
use Rattle.std.specs.Prelude.{Bool, ◌&&◌, ◌||◌, not, List, [], reverse, ◌≡◌, ℕ, ◌+◌, ◌*◌, eqb, leb, length, get_or}
use Rattle.slices.specs.Over.{over}
use Rattle.std.specs.Prelude.{if◌then◌else◌}
use Rattle.darts.specs.Answers.{Answer, done, too_short, no_plan_size}
use Rattle.darts.specs.Operation.{contraction}
use Rattle.darts.specs.Kernel.{judge, each, rising, Run, Test, pass}
use Rattle.darts.specs.State.{base_state, Result, gives, refuses, levelled, zeros}
use Rattle.darts.specs.Calls.{After, leaves, room, cleared}
use Rattle.grids.specs.Grid.{Grid, sized, cells, edges, darts_of, Beside}
use Rattle.grids.specs.Base.{cell_of, base_table}

-- "a grid of stitch codes, one byte a cell"
unfoldable pub code_at : List ℕ → ℕ → ℕ
code_at plan c = get_or plan c 0

-- "both ends have the same code"
unfoldable pub one_code : Grid → List ℕ → ℕ → Bool
one_code g plan e = eqb (code_at plan (cell_of g (2 * e))) (code_at plan (cell_of g (2 * e + 1)))

-- "contracted where both ends have the same code, unless 9 or 11 would be given at its turn"
unfoldable pub takes_first : Grid → List ℕ → Test
takes_first g plan t past e =
    let n : ℕ = judge contraction (darts_of g) t past e in
    one_code g plan e && not (eqb n 9 || eqb n 11)

-- "edges by rising number"
unfoldable pub first_kernel : Grid → List ℕ → Run
first_kernel g plan = pass (takes_first g plan) (darts_of g) (base_table g) [] (each contraction (rising 0 (edges g)))

-- "the connected areas of one code"
pub data OneArea (g : Grid) (plan : List ℕ) : ℕ → ℕ → Type 0 where
  itself : (a : ℕ) → OneArea g plan a a
  onward : (a b c : ℕ) → Beside g a b → code_at plan a ≡ code_at plan b → OneArea g plan b c → OneArea g plan a c
  back : (a b c : ℕ) → Beside g b a → code_at plan a ≡ code_at plan b → OneArea g plan b c → OneArea g plan a c

-- "15, plan size outside the limits, or one cell alone; judged first, place 0"; then 2, "a lent slice is too short": the plan too
unfoldable pub fitting_plan : Grid → ℕ → ℕ → ℕ → ℕ → Answer
fitting_plan g plan t h w =
    if not (sized g) then no_plan_size
    else if not (room t h w (darts_of g) && leb (cells g) plan) then too_short
    else done

-- a base, or a base with a level, goes into the lent slices; a refusal is "as a refused start"
unfoldable pub begun : ℕ → List ℕ → List ℕ → List ℕ → Result → After
begun D t h w (gives s u past) = leaves done s (over u t) (over (reverse past) h) (cleared D w)
begun D t h w (refuses a) = leaves a zeros t h (cleared D w)

unfoldable pub on_plan : Grid → Result → List ℕ → List ℕ → List ℕ → List ℕ → After
on_plan g r plan t h w =
    let a : Answer = fitting_plan g (length plan) (length t) (length h) (length w) in
    let b : After = begun (darts_of g) t h w r in
    if eqb a.number 0 then b else leaves a zeros t h w

-- "Build it"
unfoldable pub plan_base : Grid → List ℕ → List ℕ → List ℕ → List ℕ → After
plan_base g plan t h w = on_plan g (gives (base_state (darts_of g) (base_table g)) (base_table g) []) plan t h w

-- "A second call builds the base and at once takes a first kernel". It "answers 5, as a refused start, where its kernel would take no edge."
unfoldable pub plan_areas : Grid → List ℕ → List ℕ → List ℕ → List ℕ → After
plan_areas g plan t h w = on_plan g (levelled (base_state (darts_of g) (base_table g)) [] (first_kernel g plan)) plan t h w
