-- The calls on slices that are longer than asked, with other numbers in them: what each call leaves of every lent slice, as one table under one claim.
--   Row         == one call, or one file read or written, and all that it leaves
--   right r     == the definitions give what the row says
--   lent_table   == the rows
--   lent_worked == all of them are right
use Rattle.std.specs.Prelude.{Bool, true, ◌&&◌, List, [], ◌∷◌, ◌++◌, ◌≡◌, refl, ℕ, eqb, ℤ, pos, replicate, take}
use Prim.Native.String.{String}
use Rattle.permutations.specs.Partner.{partner}
use Rattle.permutations.specs.Cycle.{meets_in}
use Rattle.darts.specs.Answers.{answered}
use Rattle.darts.specs.Map.{successor, face_next, same_vertex, same_face, same_piece, gone, survives, before_in, before, repeats, culprit, test_from, permutation_test}
use Rattle.darts.specs.Operation.{turned, lead, whole_edge, remove, contract, operate, number, kind_of, lead_of, edge_of, put_back, undo_one, undone}
use Rattle.darts.specs.Kernel.{shared, judge, rising, pass_from, pass, run}
use Rattle.darts.specs.State.{raised, levelled, reduce, State, base_state}
use Rattle.darts.specs.Levels.{empty_loop, takes, swept_from, swept, sweep, end_below, lowered, undo_level, undo_levels, unfold_to}
use Rattle.darts.specs.Pyramid.{dart_count, build, kernel_of, cut, kernels_of, same_numbers, same_state, is_exactly, is_pyramid}
use Rattle.darts.specs.Counts.{never_below, lowest, cycles, surviving, counts_of}
use Rattle.darts.specs.Text.{bytes, digits, decimal}
use Rattle.darts.specs.File.{taken, survivors, file_order, place_in, file_number, file_table, kind_word, kernel_line, kernel_lines, pair_lines, file_of}
use Rattle.darts.specs.Scan.{byte_at, word, is_digit, number_on, number_at, field}
use Rattle.darts.specs.Read.{flag_at, opening, kernel_of_kind, kernel_at, kernels_at, pairs_at, end_at, body, from_flag, ends_from, total, file_state, numbers_from, history_from, file_history, closed, opened, read_file}
use Rattle.darts.specs.Calls.{After, Counted, Written, room, fitting, table_of, past_of, cleared, work_after, judged, begins, start, hands_back, on_state, reduce_by, sweep_by, undo_by, unfold_by, counts, read_into, read, write}
use Rattle.slices.specs.Over.{over}
use Rattle.darts.specs.Worked.{Step, by_contracting, by_sweep, by_undo, to_level, stepped, answers, answers_both, counts_are}

pub data Row : Type 0 where
  -- start from D and three slices: the number, the place, the second place, the state's darts, and the slices left
  starts : ℕ → List ℕ → List ℕ → List ℕ → ℕ → ℕ → ℕ → ℕ → List ℕ → List ℕ → List ℕ → Row
  -- a call on a state and three slices: the number, the place, the state and the slices left
  calls : State → List ℕ → List ℕ → List ℕ → Step → ℕ → ℕ → State → List ℕ → List ℕ → List ℕ → Row
  -- counts: the number, the four counts, and the work area left
  counted : State → List ℕ → List ℕ → List ℕ → ℕ → ℕ → ℕ → ℕ → ℤ → List ℕ → Row
  -- a file read into three slices: the number, the place, the state's darts, and the slices left
  reads : String → List ℕ → List ℕ → List ℕ → ℕ → ℕ → ℕ → List ℕ → List ℕ → List ℕ → Row
  -- a state written: the output lent, the number, the place, the work area and the output left
  writes : State → List ℕ → List ℕ → List ℕ → List ℕ → ℕ → ℕ → List ℕ → List ℕ → Row

abbrev slices_are : List ℕ → List ℕ → List ℕ → After → Bool
slices_are t h w a = same_numbers a.table t && (same_numbers a.history h && same_numbers a.work w)

abbrev right : Row → Bool
right (starts D t h w n p s d u g v) =
    let a : After = start D t h w in
    answers_both n p s a.answer && (same_state a.state (base_state d (take d t)) && slices_are u g v a)
right (calls s t h w step n p z u g v) =
    let a : After = stepped step (record { answer = answered 0 0; state = s; table = t; history = h; work = w }) in
    answers n p a.answer && (same_state a.state z && slices_are u g v a)
right (counted s t h w n d v f x k) =
    let c : Counted = counts s t h w in
    counts_are n d v f x c && same_numbers c.work k
right (reads b t h w n p d u g v) =
    let a : After = read (bytes b) t h w in
    answers n p a.answer && (eqb a.state.darts d && slices_are u g v a)
right (writes s t h w o n p k q) =
    let a : Written = write s t h w o in
    answers n p a.answer && (same_numbers a.work k && same_numbers a.output q)

abbrev all_right : List Row → Bool
all_right [] = true
all_right (r ∷ rs) = right r && all_right rs

-- a base of 4 darts: an empty loop, edge 0, and a pending edge, edge 1
abbrev L : List ℕ
L = 1 ∷ 2 ∷ 0 ∷ 3 ∷ []

-- what stands behind the D numbers of the table
abbrev behind : List ℕ → List ℕ
behind t = t ++ (9 ∷ 9 ∷ [])

-- a work area of one number more than 4D, before and after
abbrev sevens : ℕ → List ℕ
sevens n = replicate n 7

abbrev zeroed : List ℕ
zeroed = replicate 16 0 ++ (7 ∷ [])

-- the state after one operation and one level
abbrev one : State
one = record { darts = 4; operations = 1; levels = 1; ends = 1 ∷ replicate 63 0; vertices = 2; faces = 1 }

-- the file of L swept: the loop is its edge 0
abbrev swept_file : String
swept_file = "numbers=0\ndarts=4\nlevels=1\nkernel=remove 1\npair=1 2\npair=2 3\n"

abbrev pub lent_table : List Row
lent_table =
    -- "the table with at least D numbers, the history with D/2 and the work area with 4D"; "the work area's first 4D numbers are zero"
    starts 4 (behind L) (8 ∷ 8 ∷ 8 ∷ []) (sevens 17) 0 0 0 4 (behind L) (8 ∷ 8 ∷ 8 ∷ []) zeroed
    -- 3 clears the work area, 1 and 2 "write nothing at all"; a refused start "hands back a state of zeros"
    ∷ starts 4 (behind (1 ∷ 1 ∷ 0 ∷ 3 ∷ [])) (8 ∷ 8 ∷ 8 ∷ []) (sevens 17) 3 1 0 0 (behind (1 ∷ 1 ∷ 0 ∷ 3 ∷ [])) (8 ∷ 8 ∷ 8 ∷ []) zeroed
    -- a number past D is not looked at: 4 is out of range, though it is less than the table's length
    ∷ starts 4 (behind (1 ∷ 4 ∷ 0 ∷ 3 ∷ [])) (8 ∷ 8 ∷ 8 ∷ []) (sevens 17) 3 1 4 0 (behind (1 ∷ 4 ∷ 0 ∷ 3 ∷ [])) (8 ∷ 8 ∷ 8 ∷ []) zeroed
    ∷ starts 3 (behind L) (8 ∷ 8 ∷ 8 ∷ []) (sevens 17) 1 0 0 0 (behind L) (8 ∷ 8 ∷ 8 ∷ []) (sevens 17)
    ∷ starts 4 (1 ∷ 2 ∷ 0 ∷ []) (8 ∷ 8 ∷ []) (sevens 16) 2 0 0 0 (1 ∷ 2 ∷ 0 ∷ []) (8 ∷ 8 ∷ []) (sevens 16)
    ∷ starts 4 L (8 ∷ []) (sevens 16) 2 0 0 0 L (8 ∷ []) (sevens 16)
    ∷ starts 4 L (8 ∷ 8 ∷ []) (sevens 15) 2 0 0 0 L (8 ∷ 8 ∷ []) (sevens 15)
    -- "Order: 1, 2, then 3"
    ∷ starts 3 (1 ∷ 1 ∷ []) [] [] 1 0 0 0 (1 ∷ 1 ∷ []) [] []
    ∷ starts 4 (1 ∷ 1 ∷ 1 ∷ 1 ∷ []) (8 ∷ []) (sevens 16) 2 0 0 0 (1 ∷ 1 ∷ 1 ∷ 1 ∷ []) (8 ∷ []) (sevens 16)
    -- a new operation alters the history at its own place, and nothing past D
    ∷ calls (base_state 4 L) (behind L) (8 ∷ 8 ∷ 8 ∷ []) (sevens 17) by_sweep 0 0 one (behind (1 ∷ 2 ∷ 2 ∷ 3 ∷ [])) (0 ∷ 8 ∷ 8 ∷ []) zeroed
    -- undo alters none of it: "History past the count is not looked at and never altered except by a new operation."
    ∷ calls one (behind (1 ∷ 2 ∷ 2 ∷ 3 ∷ [])) (0 ∷ 8 ∷ 8 ∷ []) (sevens 17) by_undo 0 0 (base_state 4 L) (behind L) (0 ∷ 8 ∷ 8 ∷ []) zeroed
    ∷ calls one (behind (1 ∷ 2 ∷ 2 ∷ 3 ∷ [])) (0 ∷ 8 ∷ 8 ∷ []) (sevens 17) (to_level 1) 0 0 one (behind (1 ∷ 2 ∷ 2 ∷ 3 ∷ [])) (0 ∷ 8 ∷ 8 ∷ []) zeroed
    -- "A refusal changes nothing but the work area": 12, 8, 5 and 4; and 2, which leaves the work area too, before 4
    ∷ calls one (behind (1 ∷ 2 ∷ 2 ∷ 3 ∷ [])) (0 ∷ 8 ∷ 8 ∷ []) (sevens 17) (to_level 2) 12 1 one (behind (1 ∷ 2 ∷ 2 ∷ 3 ∷ [])) (0 ∷ 8 ∷ 8 ∷ []) zeroed
    ∷ calls one (behind (1 ∷ 2 ∷ 2 ∷ 3 ∷ [])) (0 ∷ 8 ∷ 8 ∷ []) (sevens 17) (by_contracting (0 ∷ [])) 8 0 one (behind (1 ∷ 2 ∷ 2 ∷ 3 ∷ [])) (0 ∷ 8 ∷ 8 ∷ []) zeroed
    ∷ calls one (behind (1 ∷ 2 ∷ 2 ∷ 3 ∷ [])) (0 ∷ 8 ∷ 8 ∷ []) (sevens 17) by_sweep 5 0 one (behind (1 ∷ 2 ∷ 2 ∷ 3 ∷ [])) (0 ∷ 8 ∷ 8 ∷ []) zeroed
    ∷ calls one (behind L) (0 ∷ 8 ∷ 8 ∷ []) (sevens 17) by_undo 4 0 one (behind L) (0 ∷ 8 ∷ 8 ∷ []) zeroed
    ∷ calls one (behind L) (0 ∷ []) (sevens 17) by_undo 2 0 one (behind L) (0 ∷ []) (sevens 17)
    -- "Refused counts are four zeros."
    ∷ counted one (behind (1 ∷ 2 ∷ 2 ∷ 3 ∷ [])) (0 ∷ 8 ∷ 8 ∷ []) (sevens 17) 0 2 2 1 (pos 2) zeroed
    ∷ counted one (behind L) (0 ∷ 8 ∷ 8 ∷ []) (sevens 17) 4 0 0 0 (pos 0) zeroed
    ∷ counted one (behind L) (0 ∷ []) (sevens 17) 2 0 0 0 (pos 0) (sevens 17)
    -- "The reader writes table and history only when it accepts"; it "follows the same sentence for its D", and before D is known it writes nothing
    ∷ reads swept_file (sevens 5) (8 ∷ 8 ∷ 8 ∷ []) (sevens 17) 0 0 4 (1 ∷ 2 ∷ 2 ∷ 3 ∷ 7 ∷ []) (0 ∷ 8 ∷ 8 ∷ []) zeroed
    ∷ reads "numbers=0\ndarts=4\nlevels=x" (sevens 5) (8 ∷ 8 ∷ []) (sevens 17) 13 25 0 (sevens 5) (8 ∷ 8 ∷ []) zeroed
    ∷ reads "numbers=0\ndarts=4\nlevels=0\npair=1 1\npair=2 3\n" (sevens 5) (8 ∷ 8 ∷ []) (sevens 17) 4 0 0 (sevens 5) (8 ∷ 8 ∷ []) zeroed
    ∷ reads "numbers=0\ndarts=4x" (sevens 5) (8 ∷ 8 ∷ []) (sevens 17) 13 17 0 (sevens 5) (8 ∷ 8 ∷ []) (sevens 17)
    ∷ reads "numbers=7\ndarts=4\n" (sevens 5) (8 ∷ 8 ∷ []) (sevens 17) 14 8 0 (sevens 5) (8 ∷ 8 ∷ []) (sevens 17)
    ∷ reads "numbers=0\ndarts=5\n" [] [] [] 1 0 0 [] [] []
    ∷ reads "numbers=0\ndarts=4\n" (sevens 5) (8 ∷ []) (sevens 17) 2 0 0 (sevens 5) (8 ∷ []) (sevens 17)
    -- "an accepted write alters only its own bytes of the output"; "for the writer's output, the bytes needed", and then the work area is zero too
    ∷ writes one (behind (1 ∷ 2 ∷ 2 ∷ 3 ∷ [])) (0 ∷ 8 ∷ 8 ∷ []) (sevens 17) (sevens 63) 0 61 zeroed (bytes swept_file ++ sevens 2)
    ∷ writes one (behind (1 ∷ 2 ∷ 2 ∷ 3 ∷ [])) (0 ∷ 8 ∷ 8 ∷ []) (sevens 17) (sevens 61) 0 61 zeroed (bytes swept_file)
    ∷ writes one (behind (1 ∷ 2 ∷ 2 ∷ 3 ∷ [])) (0 ∷ 8 ∷ 8 ∷ []) (sevens 17) (sevens 60) 2 61 zeroed (sevens 60)
    ∷ writes one (behind L) (0 ∷ 8 ∷ 8 ∷ []) (sevens 17) (sevens 1) 4 0 zeroed (sevens 1)
    ∷ writes one (behind (1 ∷ 2 ∷ 2 ∷ 3 ∷ [])) (0 ∷ []) (sevens 17) (sevens 64) 2 0 (sevens 17) (sevens 64)
    ∷ []

pub lent_worked : all_right lent_table ≡ true
unfolding partner meets_in successor face_next same_vertex same_face same_piece gone survives before_in before repeats culprit test_from permutation_test turned lead whole_edge remove contract operate number kind_of lead_of edge_of put_back undo_one undone shared judge pass_from pass run raised levelled reduce empty_loop takes rising swept_from swept sweep end_below lowered undo_level undo_levels unfold_to dart_count build kernel_of cut kernels_of same_numbers same_state is_exactly is_pyramid never_below lowest cycles surviving counts_of digits decimal taken survivors file_order place_in file_number file_table kind_word kernel_line kernel_lines pair_lines file_of byte_at word is_digit number_on number_at field flag_at opening kernel_of_kind kernel_at kernels_at pairs_at end_at body from_flag ends_from total file_state numbers_from history_from file_history closed opened read_file room fitting table_of past_of over cleared work_after judged begins start hands_back on_state reduce_by sweep_by undo_by unfold_by counts read_into read write
lent_worked = refl
