-- A state whose numbers of vertices and faces differ from its cycles (document 02, request Six), worked by hand on document 01's examples, as one table under
-- one claim.
--   Row            == a state with wrong numbers, and what every call answers
--   right r        == the definitions give what the row says
--   numbers_table   == the rows
--   numbers_worked == all of them are right
use Rattle.std.specs.Prelude.{Bool, true, ◌&&◌, List, [], ◌∷◌, ◌++◌, ◌≡◌, refl, ℕ, pos, length, replicate}
use Rattle.permutations.specs.Partner.{partner}
use Rattle.permutations.specs.Cycle.{meets_in}
use Rattle.darts.specs.Answers.{done}
use Rattle.darts.specs.Map.{successor, face_next, same_vertex, same_face, gone, survives, before_in, before, repeats, culprit, test_from, permutation_test}
use Rattle.darts.specs.Operation.{turned, lead, whole_edge, remove, contract, operate, number, kind_of, lead_of, edge_of, put_back, undo_one, undone}
use Rattle.darts.specs.Kernel.{shared, judge, rising, pass_from, pass, run}
use Rattle.darts.specs.State.{State, base_state, raised, levelled, reduce}
use Rattle.darts.specs.Levels.{empty_loop, takes, swept_from, swept, sweep, end_below, lowered, undo_level, undo_levels, unfold_to}
use Rattle.darts.specs.Pyramid.{dart_count, build, kernel_of, cut, kernels_of, same_numbers, same_state, is_exactly, is_pyramid}
use Rattle.darts.specs.Counts.{never_below, lowest, cycles, surviving, counts_of}
use Rattle.darts.specs.Text.{digits, decimal}
use Rattle.darts.specs.File.{taken, survivors, file_order, place_in, file_number, file_table, kind_word, kernel_line, kernel_lines, pair_lines, file_of}
use Rattle.darts.specs.Scan.{byte_at, word, is_digit, number_on, number_at, field}
use Rattle.darts.specs.Read.{flag_at, opening, kernel_of_kind, kernel_at, kernels_at, pairs_at, end_at, body, from_flag, ends_from, total, file_state, numbers_from, history_from, file_history, closed, opened, read_file}
use Rattle.darts.specs.Calls.{After, Counted, Written, leaves, room, fitting, table_of, past_of, cleared, work_after, judged, begins, start, hands_back, on_state, reduce_by, sweep_by, undo_by, unfold_by, counts, read_into, read, write}
use Rattle.slices.specs.Over.{over}
use Rattle.darts.specs.Worked.{Step, started, stepped, steps, by_contracting, by_removing, by_sweep, by_undo, to_level, answers, counts_are, T, K5, K7, torus}

pub data Row : Type 0 where
  -- start, some steps, then these vertices and faces stored in the state: no call takes it for a pyramid
  wrong : List ℕ → List Step → ℕ → ℕ → Row
  -- a state whose numbers are wrong too, and slices of these lengths: every call answers this number before it looks at them
  earlier : State → ℕ → ℕ → ℕ → ℕ → Row

abbrev misnumbered : ℕ → ℕ → State → State
misnumbered v f s = record { darts = s.darts; operations = s.operations; levels = s.levels; ends = s.ends; vertices = v; faces = f }

-- what a call leaves, with other numbers stored in its state, and rubbish in the work area
abbrev misstored : ℕ → ℕ → After → After
misstored v f a = leaves a.answer (misnumbered v f a.state) a.table a.history (replicate (length a.work) 9)

-- ---- what a row says

-- the number is answered; state, table and history are as they were given, and the work area is w
abbrev refused_with : ℕ → List ℕ → After → After → Bool
refused_with n w a b =
    answers n 0 b.answer
    && (same_state b.state a.state
    && (same_numbers b.table a.table && (same_numbers b.history a.history && same_numbers b.work w)))

-- "Refused counts are four zeros."
abbrev counts_refused : ℕ → List ℕ → After → Bool
counts_refused n w a =
    let c : Counted = counts a.state a.table a.history a.work in
    counts_are n 0 0 0 (pos 0) c && same_numbers c.work w

abbrev write_refused : ℕ → List ℕ → After → Bool
write_refused n w a =
    let v : Written = write a.state a.table a.history a.work (replicate 3 9) in
    answers n 0 v.answer && (same_numbers v.work w && same_numbers v.output (replicate 3 9))

-- each of the calls on a state; none looks at its kernel, its level or its output before
abbrev all_refused : ℕ → List ℕ → After → Bool
all_refused n w a =
    refused_with n w a (stepped (by_contracting (3 ∷ [])) a)
    && (refused_with n w a (stepped (by_removing []) a)
    && (refused_with n w a (stepped by_sweep a)
    && (refused_with n w a (stepped by_undo a)
    && (refused_with n w a (stepped (to_level 0) a)
    && (refused_with n w a (stepped (to_level 9) a)
    && (counts_refused n w a && write_refused n w a))))))

abbrev right : Row → Bool
right (wrong t ss v f) =
    let a : After = misstored v f (steps ss (started t)) in
    all_refused 4 (replicate (length a.work) 0) a
right (earlier s t h w n) = all_refused n (replicate w 9) (leaves done s (replicate t 9) (replicate h 9) (replicate w 9))

abbrev all_right : List Row → Bool
all_right [] = true
all_right (r ∷ rs) = right r && all_right rs

-- ---- the rows

-- D darts at the base, with numbers that no cycles give
abbrev base : ℕ → State
base D = misnumbered 5 1 (base_state D [])

abbrev pub numbers_table : List Row
numbers_table =
    -- "a state whose numbers differ from the cycles is no pyramid": one vertex too many, one face too many, a face for a vertex, each for the other
    wrong T [] 5 2
    ∷ wrong T [] 4 3
    ∷ wrong T [] 5 1
    ∷ wrong T [] 2 4
    ∷ wrong T [] 0 0
    ∷ wrong torus [] 2 0
    -- the numbers of another level: kept though vertices went, and though a face went; or not given back by undo
    ∷ wrong T K5 4 2
    ∷ wrong T K5 2 3
    ∷ wrong T K7 4 2
    ∷ wrong T K7 2 2
    ∷ wrong T K7 3 1
    ∷ wrong T (K7 ++ (by_undo ∷ [])) 2 1
    -- "the order is unchanged": 1, 2, and only then 4
    ∷ earlier (base 7) 8 4 32 1
    ∷ earlier (base 0) 0 0 0 1
    ∷ earlier (base 8) 7 4 32 2
    ∷ earlier (base 8) 8 3 32 2
    ∷ earlier (base 8) 8 4 31 2
    ∷ []

pub numbers_worked : all_right numbers_table ≡ true
unfolding partner meets_in successor face_next same_vertex same_face gone survives before_in before repeats culprit test_from permutation_test turned lead whole_edge remove contract operate number kind_of lead_of edge_of put_back undo_one undone shared judge pass_from pass run raised levelled reduce empty_loop takes rising swept_from swept sweep end_below lowered undo_level undo_levels unfold_to dart_count build kernel_of cut kernels_of same_numbers same_state is_exactly is_pyramid never_below lowest cycles surviving counts_of digits decimal taken survivors file_order place_in file_number file_table kind_word kernel_line kernel_lines pair_lines file_of byte_at word is_digit number_on number_at field flag_at opening kernel_of_kind kernel_at kernels_at pairs_at end_at body from_flag ends_from total file_state numbers_from history_from file_history closed opened read_file room fitting table_of past_of over cleared work_after judged begins start hands_back on_state reduce_by sweep_by undo_by unfold_by counts read_into read write
numbers_worked = refl
