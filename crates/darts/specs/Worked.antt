-- K1 to K12 of document 01, "Worked by hand", its expected slips, and the numbers that a state stores, as one table of calls under one claim.
--   Step          == a call that a row makes on the way
--   Row           == one worked example: what is called, and what it leaves
--   right r       == the definitions give what the row says
--   table         == the rows of K1 to K12, and of the slips
--   worked        == all of them are right
use Rattle.std.proofs.Math.Bool.{Bool, true, false}
use Rattle.std.specs.Prelude.{◌&&◌, ◌||◌, ◌≡◌, refl, eqb, pos, negsuc, take, replicate}
use Rattle.std.specs.Bool.{beq}
use mathlib.Core.List.{List, [], ◌∷◌, ◌++◌}
use Prim.Native.Nat.{ℕ, ◌+◌, ◌/◌, ◌*◌}
use Prim.Native.String.{String}
use Rattle.std.proofs.Math.IntN.{ℤ}
use Rattle.std.proofs.Math.ListN.{length}
use Rattle.permutations.specs.Partner.{partner}
use Rattle.permutations.specs.Cycle.{meets_in}
use Rattle.darts.specs.Answers.{Answer}
use Rattle.darts.specs.Map.{successor, face_next, same_vertex, same_face, same_piece, gone, survives, before_in, before, repeats, culprit, test_from, permutation_test}
use Rattle.darts.specs.Operation.{contraction, removal, turned, lead, whole_edge, remove, contract, operate, number, kind_of, lead_of, edge_of, put_back, undo_one, undone}
use Rattle.darts.specs.Kernel.{shared, judge, rising, pass_from, pass, run}
use Rattle.std.specs.Prelude.{if◌then◌else◌}
use Rattle.darts.specs.State.{State, zeros, base_state, raised, levelled, reduce}
use Rattle.darts.specs.Levels.{empty_loop, takes, swept_from, swept, sweep, end_below, lowered, undo_level, undo_levels, unfold_to}
use Rattle.darts.specs.Pyramid.{dart_count, build, kernel_of, cut, kernels_of, same_numbers, same_state, is_exactly, is_pyramid}
use Rattle.darts.specs.Counts.{never_below, lowest, cycles, surviving, counts_of}
use Rattle.darts.specs.Text.{bytes, digits, decimal}
use Rattle.darts.specs.File.{taken, survivors, file_order, place_in, file_number, file_table, kind_word, kernel_line, kernel_lines, pair_lines, file_of}
use Rattle.darts.specs.Scan.{byte_at, word, is_digit, number_on, number_at, field}
use Rattle.darts.specs.Read.{flag_at, opening, kernel_of_kind, kernel_at, kernels_at, pairs_at, end_at, body, from_flag, ends_from, total, file_state, numbers_from, history_from, file_history, closed, opened, read_file}
use Rattle.darts.specs.Calls.{After, Counted, Written, room, fitting, table_of, past_of, cleared, work_after, judged, begins, start, hands_back, on_state, reduce_by, sweep_by, undo_by, unfold_by, counts, read_into, read, write}
use Rattle.slices.specs.Over.{over}

pub data Step : Type 0 where
  by_contracting by_removing : List ℕ → Step
  by_sweep by_undo : Step
  to_level : ℕ → Step

pub data Row : Type 0 where
  -- start from a table: the answer's number, place and second place; a refused one hands back zeros
  starts : List ℕ → ℕ → ℕ → ℕ → Row
  -- start, some steps: the last one's number and place; levels, vertices and faces of the state; and the table and history left
  leads : List ℕ → List Step → ℕ → ℕ → ℕ → ℕ → ℕ → List ℕ → List ℕ → Row
  -- start, some steps, counts: surviving darts, vertices, faces, the Euler number; the state stores the two in the middle
  counted : List ℕ → List Step → ℕ → ℕ → ℕ → ℤ → Row
  -- start, some steps, write: the file
  writes : List ℕ → List Step → String → Row
  -- read a file, unfold to a level, counts: the same
  reads : String → ℕ → ℕ → ℕ → ℕ → ℤ → Row
  -- read a file: the answer's number and place; a refused one hands back zeros
  answers_file : String → ℕ → ℕ → Row
  -- two darts of a base, and whether they are in one piece
  pieces : List ℕ → ℕ → ℕ → Bool → Row
  -- an edge of a table: whether it is an empty loop, and whether it has one face on both sides
  sides : List ℕ → ℕ → Bool → Bool → Row

-- slices of the lengths that D darts want, rubbish in the work area
abbrev pub started : List ℕ → After
started t = start (length t) t (replicate (length t / 2) 0) (replicate (4 * length t) 9)

abbrev pub stepped : Step → After → After
stepped (by_contracting es) a = reduce_by contraction es a.state a.table a.history a.work
stepped (by_removing es) a = reduce_by removal es a.state a.table a.history a.work
stepped by_sweep a = sweep_by a.state a.table a.history a.work
stepped by_undo a = undo_by a.state a.table a.history a.work
stepped (to_level k) a = unfold_by k a.state a.table a.history a.work

abbrev pub steps : List Step → After → After
steps [] a = a
steps (s ∷ ss) a = steps ss (stepped s a)

abbrev counting : After → Counted
counting a = counts a.state a.table a.history a.work

abbrev pub answers_both : ℕ → ℕ → ℕ → Answer → Bool
answers_both n p s a = eqb a.number n && (eqb a.place p && eqb a.second s)

-- "every other answer has 0 there"
abbrev pub answers : ℕ → ℕ → Answer → Bool
answers n p = answers_both n p 0

abbrev sameℤ : ℤ → ℤ → Bool
sameℤ (pos m) (pos n) = eqb m n
sameℤ (pos m) (negsuc n) = false
sameℤ (negsuc m) (pos n) = false
sameℤ (negsuc m) (negsuc n) = eqb m n

abbrev pub counts_are : ℕ → ℕ → ℕ → ℕ → ℤ → Counted → Bool
counts_are n d v f x c =
    answers n 0 c.answer && (eqb c.counts.darts d && (eqb c.counts.vertices v
    && (eqb c.counts.faces f && sameℤ c.counts.euler x)))

-- "Store both numbers in the state."
abbrev numbers_are : ℕ → ℕ → State → Bool
numbers_are v f s = eqb s.vertices v && eqb s.faces f

-- the history numbers that count
abbrev history_of : After → List ℕ
history_of a = take a.state.operations a.history

abbrev is_written : String → After → Bool
is_written f a =
    let w : Written = write a.state a.table a.history a.work (replicate 200 0) in
    answers 0 (length (bytes f)) w.answer && same_numbers w.output (over (bytes f) (replicate 200 0))

abbrev pub reading : String → After
reading f = read (bytes f) (replicate 8 9) (replicate 4 9) (replicate 32 9)

abbrev right : Row → Bool
right (starts t n p s) = answers_both n p s (started t).answer && same_state (started t).state (if eqb n 0 then base_state (length t) t else zeros)
right (leads t ss n p l v f u h) =
    let a : After = steps ss (started t) in
    answers n p a.answer
    && (eqb a.state.levels l
    && (numbers_are v f a.state && (same_numbers a.table u && same_numbers (history_of a) h)))
right (counted t ss d v f x) =
    let a : After = steps ss (started t) in
    numbers_are v f a.state && counts_are 0 d v f x (counting a)
right (writes t ss f) = is_written f (steps ss (started t))
right (reads f k d v e x) =
    let a : After = stepped (to_level k) (reading f) in
    numbers_are v e a.state && counts_are 0 d v e x (counting a)
right (answers_file f n p) = answers n p (reading f).answer && (eqb n 0 || same_state (reading f).state zeros)
right (pieces t x y b) = beq (same_piece (length t) t x y) b
right (sides t e l f) = beq (empty_loop t e) l && beq (same_face (length t) t (2 * e) (2 * e + 1)) f

abbrev all_right : List Row → Bool
all_right [] = true
all_right (r ∷ rs) = right r && all_right rs

-- "Base T (D = 8): 5 2 1 4 6 0 3 7, a triangle with one pending edge."
abbrev pub T : List ℕ
T = 5 ∷ 2 ∷ 1 ∷ 4 ∷ 6 ∷ 0 ∷ 3 ∷ 7 ∷ []

abbrev pub K5 : List Step
K5 = by_contracting (0 ∷ 1 ∷ []) ∷ []

abbrev pub K7 : List Step
K7 = K5 ++ (by_removing (2 ∷ []) ∷ [])

abbrev pub K12 : String
K12 = "numbers=0\ndarts=8\nlevels=2\nkernel=contract 2\nkernel=remove 1\npair=4 2\npair=4 5\npair=5 6\npair=6 7\n"

abbrev pub from_one : String
from_one = "numbers=1\ndarts=8\nlevels=2\nkernel=contract 2\nkernel=remove 1\npair=5 3\npair=5 6\npair=6 7\npair=7 8\n"

-- two loops that cross: one vertex and one face
abbrev pub torus : List ℕ
torus = 2 ∷ 3 ∷ 1 ∷ 0 ∷ []

-- two such pairs at one vertex, one after the other
abbrev two_tori : List ℕ
two_tori = 2 ∷ 3 ∷ 1 ∷ 4 ∷ 6 ∷ 7 ∷ 5 ∷ 0 ∷ []

abbrev pub table : List Row
table =
    -- K1
    counted T [] 8 4 2 (pos 2)
    ∷ pieces T 0 7 true
    -- "the Euler number, vertices minus edges plus faces, a signed number that may fall below zero": of two pieces, of three parallel edges, which have
    -- three faces, of two loops that cross, and of two such pairs at one vertex
    ∷ counted (1 ∷ 0 ∷ 2 ∷ 3 ∷ []) [] 4 3 3 (pos 4)
    ∷ counted (2 ∷ 5 ∷ 4 ∷ 1 ∷ 0 ∷ 3 ∷ []) [] 6 2 3 (pos 2)
    ∷ counted torus [] 4 1 1 (pos 0)
    ∷ counted two_tori [] 8 1 1 (negsuc 1)
    ∷ leads torus (by_contracting (0 ∷ []) ∷ []) 9 0 0 1 1 torus []
    ∷ leads two_tori (by_removing (0 ∷ []) ∷ []) 10 0 0 1 1 two_tori []
    -- K2
    ∷ leads T (by_removing (3 ∷ []) ∷ []) 10 0 0 4 2 T []
    -- K3
    ∷ leads T (by_contracting (3 ∷ []) ∷ []) 0 0 1 3 2 (5 ∷ 2 ∷ 1 ∷ 4 ∷ 3 ∷ 0 ∷ 3 ∷ 7 ∷ []) (13 ∷ [])
    -- K4
    ∷ leads T (by_removing (0 ∷ []) ∷ []) 0 0 1 4 1 (5 ∷ 2 ∷ 2 ∷ 4 ∷ 6 ∷ 5 ∷ 3 ∷ 7 ∷ []) (0 ∷ [])
    ∷ leads T (by_removing (0 ∷ []) ∷ by_removing (1 ∷ []) ∷ []) 10 0 1 4 1 (5 ∷ 2 ∷ 2 ∷ 4 ∷ 6 ∷ 5 ∷ 3 ∷ 7 ∷ []) (0 ∷ [])
    -- K5; undo gives the two vertices back
    ∷ leads T K5 0 0 1 2 2 (5 ∷ 2 ∷ 5 ∷ 4 ∷ 6 ∷ 4 ∷ 5 ∷ 7 ∷ []) (1 ∷ 5 ∷ [])
    ∷ counted T K5 4 2 2 (pos 2)
    ∷ leads T (K5 ++ (by_undo ∷ [])) 0 0 0 4 2 T []
    -- K6
    ∷ leads T (by_contracting (1 ∷ 0 ∷ []) ∷ []) 0 0 1 2 2 (5 ∷ 4 ∷ 1 ∷ 4 ∷ 6 ∷ 4 ∷ 5 ∷ 7 ∷ []) (5 ∷ 1 ∷ [])
    -- K7
    ∷ leads T (K5 ++ (by_contracting (2 ∷ []) ∷ [])) 9 0 1 2 2 (5 ∷ 2 ∷ 5 ∷ 4 ∷ 6 ∷ 4 ∷ 5 ∷ 7 ∷ []) (1 ∷ 5 ∷ [])
    ∷ leads T K7 0 0 2 2 1 (5 ∷ 2 ∷ 5 ∷ 4 ∷ 6 ∷ 4 ∷ 6 ∷ 7 ∷ []) (1 ∷ 5 ∷ 10 ∷ [])
    -- back again by undo and unfold: "Every operation and every undo keeps them right"
    ∷ counted T K7 2 2 1 (pos 2)
    ∷ leads T (K7 ++ (by_undo ∷ [])) 0 0 1 2 2 (5 ∷ 2 ∷ 5 ∷ 4 ∷ 6 ∷ 4 ∷ 5 ∷ 7 ∷ []) (1 ∷ 5 ∷ [])
    ∷ leads T (K7 ++ (to_level 0 ∷ [])) 0 0 0 4 2 T []
    ∷ leads T (K7 ++ (to_level 1 ∷ [])) 0 0 1 2 2 (5 ∷ 2 ∷ 5 ∷ 4 ∷ 6 ∷ 4 ∷ 5 ∷ 7 ∷ []) (1 ∷ 5 ∷ [])
    ∷ leads T (K7 ++ (to_level 2 ∷ [])) 0 0 2 2 1 (5 ∷ 2 ∷ 5 ∷ 4 ∷ 6 ∷ 4 ∷ 6 ∷ 7 ∷ []) (1 ∷ 5 ∷ 10 ∷ [])
    -- K8
    ∷ leads T (K7 ++ (by_contracting (3 ∷ []) ∷ [])) 11 0 2 2 1 (5 ∷ 2 ∷ 5 ∷ 4 ∷ 6 ∷ 4 ∷ 6 ∷ 7 ∷ []) (1 ∷ 5 ∷ 10 ∷ [])
    ∷ leads T (K7 ++ (by_removing (3 ∷ []) ∷ [])) 10 0 2 2 1 (5 ∷ 2 ∷ 5 ∷ 4 ∷ 6 ∷ 4 ∷ 6 ∷ 7 ∷ []) (1 ∷ 5 ∷ 10 ∷ [])
    -- K9
    ∷ leads (2 ∷ 4 ∷ 1 ∷ 3 ∷ 0 ∷ 5 ∷ []) (by_removing (0 ∷ []) ∷ []) 0 0 1 3 1 (2 ∷ 4 ∷ 4 ∷ 3 ∷ 2 ∷ 5 ∷ []) (0 ∷ [])
    ∷ leads (2 ∷ 4 ∷ 0 ∷ 3 ∷ 1 ∷ 5 ∷ []) (by_contracting (0 ∷ []) ∷ []) 0 0 1 3 1 (2 ∷ 4 ∷ 4 ∷ 3 ∷ 2 ∷ 5 ∷ []) (1 ∷ [])
    ∷ leads (2 ∷ 4 ∷ 1 ∷ 3 ∷ 0 ∷ 5 ∷ []) (by_removing (0 ∷ []) ∷ by_undo ∷ []) 0 0 0 3 2 (2 ∷ 4 ∷ 1 ∷ 3 ∷ 0 ∷ 5 ∷ []) []
    ∷ leads (2 ∷ 4 ∷ 0 ∷ 3 ∷ 1 ∷ 5 ∷ []) (by_contracting (0 ∷ []) ∷ by_undo ∷ []) 0 0 0 4 1 (2 ∷ 4 ∷ 0 ∷ 3 ∷ 1 ∷ 5 ∷ []) []
    -- K10
    ∷ starts (1 ∷ 1 ∷ []) 3 1 0
    ∷ starts (1 ∷ 0 ∷ []) 0 0 0
    ∷ counted (1 ∷ 0 ∷ []) [] 2 1 2 (pos 2)
    ∷ pieces (1 ∷ 0 ∷ 2 ∷ 3 ∷ []) 0 3 false
    ∷ leads (1 ∷ 0 ∷ []) (by_removing (0 ∷ []) ∷ []) 11 0 0 1 2 (1 ∷ 0 ∷ []) []
    -- K11
    ∷ leads T (by_removing (0 ∷ 0 ∷ []) ∷ []) 8 1 0 4 2 T []
    -- K12
    ∷ writes T K7 K12
    ∷ reads K12 0 8 4 2 (pos 2)
    ∷ reads K12 1 4 2 2 (pos 2)
    ∷ reads K12 2 2 2 1 (pos 2)
    ∷ reads from_one 0 8 4 2 (pos 2)
    ∷ reads from_one 1 4 2 2 (pos 2)
    ∷ reads from_one 2 2 2 1 (pos 2)
    -- "an empty loop (r = q or s = p)", from either side; the sweep of K5 takes edge 2, and no whole piece is taken
    ∷ leads (1 ∷ 2 ∷ 0 ∷ 3 ∷ []) (by_sweep ∷ []) 0 0 1 2 1 (1 ∷ 2 ∷ 2 ∷ 3 ∷ []) (0 ∷ [])
    ∷ leads (2 ∷ 0 ∷ 1 ∷ 3 ∷ []) (by_sweep ∷ []) 0 0 1 2 1 (2 ∷ 0 ∷ 2 ∷ 3 ∷ []) (2 ∷ [])
    ∷ leads T (K5 ++ (by_sweep ∷ [])) 0 0 2 2 1 (5 ∷ 2 ∷ 5 ∷ 4 ∷ 6 ∷ 4 ∷ 6 ∷ 7 ∷ []) (1 ∷ 5 ∷ 10 ∷ [])
    ∷ leads (1 ∷ 0 ∷ []) (by_sweep ∷ []) 5 0 0 1 2 (1 ∷ 0 ∷ []) []
    -- "one pass over the edges by rising number", "at its turn": the last edge too; of two loops, one round the other, the outer one only after the inner
    ∷ leads (0 ∷ 2 ∷ 3 ∷ 1 ∷ []) (by_sweep ∷ []) 0 0 1 2 1 (0 ∷ 1 ∷ 3 ∷ 1 ∷ []) (4 ∷ [])
    ∷ leads (2 ∷ 4 ∷ 3 ∷ 1 ∷ 0 ∷ 5 ∷ []) (by_sweep ∷ []) 0 0 1 2 2 (1 ∷ 4 ∷ 3 ∷ 1 ∷ 0 ∷ 5 ∷ []) (4 ∷ [])
    ∷ leads (1 ∷ 3 ∷ 0 ∷ 4 ∷ 2 ∷ 5 ∷ []) (by_sweep ∷ []) 0 0 1 2 1 (1 ∷ 3 ∷ 3 ∷ 4 ∷ 4 ∷ 5 ∷ []) (0 ∷ 4 ∷ [])
    -- Seven: "an empty loop always has two different faces", from either side, and as a whole piece; a pending edge has one, and so have two loops that cross;
    -- a table that is no permutation is no map, and there it need not be so
    ∷ sides (1 ∷ 2 ∷ 0 ∷ 3 ∷ []) 0 true false
    ∷ sides (2 ∷ 0 ∷ 1 ∷ 3 ∷ []) 0 true false
    ∷ sides (1 ∷ 0 ∷ []) 0 true false
    ∷ sides T 3 false true
    ∷ sides (2 ∷ 3 ∷ 1 ∷ 0 ∷ []) 0 false true
    ∷ sides (1 ∷ 2 ∷ 0 ∷ 1 ∷ []) 0 true true
    -- "Testing for a pending edge from one side only": the even dart of edge 0 is alone at its vertex
    ∷ leads (0 ∷ 2 ∷ 1 ∷ 3 ∷ []) (by_contracting (0 ∷ []) ∷ []) 0 0 1 2 1 (0 ∷ 2 ∷ 2 ∷ 3 ∷ []) (3 ∷ [])
    -- "two parallel edges can each be contracted, not both": judged at its turn, and nothing is left of the kernel
    ∷ leads (2 ∷ 3 ∷ 0 ∷ 1 ∷ []) (by_contracting (0 ∷ []) ∷ []) 0 0 1 1 2 (2 ∷ 3 ∷ 3 ∷ 2 ∷ []) (1 ∷ [])
    ∷ leads (2 ∷ 3 ∷ 0 ∷ 1 ∷ []) (by_contracting (1 ∷ []) ∷ []) 0 0 1 1 2 (1 ∷ 0 ∷ 0 ∷ 1 ∷ []) (5 ∷ [])
    ∷ leads (2 ∷ 3 ∷ 0 ∷ 1 ∷ []) (by_contracting (0 ∷ 1 ∷ []) ∷ []) 9 1 0 2 2 (2 ∷ 3 ∷ 0 ∷ 1 ∷ []) []
    -- 3: "which lower dart already has that successor", "D where the value was out of range"; of two faults the lowest dart's decides
    ∷ starts (0 ∷ 2 ∷ []) 3 1 2
    ∷ starts (2 ∷ 1 ∷ []) 3 0 2
    ∷ starts (2 ∷ 0 ∷ 0 ∷ 9 ∷ []) 3 2 1
    ∷ starts (2 ∷ 9 ∷ 2 ∷ 0 ∷ []) 3 1 4
    ∷ starts (3 ∷ 1 ∷ 3 ∷ 3 ∷ []) 3 2 0
    -- 12: "the top level"
    ∷ leads T (by_undo ∷ []) 12 0 0 4 2 T []
    ∷ leads T (K7 ++ (to_level 3 ∷ [])) 12 2 2 2 1 (5 ∷ 2 ∷ 5 ∷ 4 ∷ 6 ∷ 4 ∷ 6 ∷ 7 ∷ []) (1 ∷ 5 ∷ 10 ∷ [])
    -- 13: "first wrong byte, from 0, or the length if it ends early"; 14: place 8
    ∷ answers_file "numbers=2\n" 14 8
    ∷ answers_file "numbers=" 13 8
    ∷ answers_file "numbers=0\ndarts=08\n" 13 17
    -- "one to five digits": the sixth is the wrong byte, whatever the number is
    ∷ answers_file "numbers=0\ndarts=123456\n" 13 21
    ∷ answers_file "numbers=0\ndarts=8\nlevels=1\nkernel=remove 123456\n" 13 46
    ∷ answers_file "numbers=0\ndarts=2\nlevels=0\npair=0 123456\n" 13 39
    ∷ answers_file "numbers=0\ndarts=2\nlevels=0\npair=0 12345\n" 4 0
    ∷ answers_file "numbers=0\ndarts=2\nlevels=123456\n" 13 30
    ∷ answers_file "numbers=0\ndarts=2\nlevels=12345\n" 6 0
    ∷ answers_file "numbers=0\ndarts=7\n" 1 0
    ∷ answers_file "numbers=0\ndarts=10\nlevels=x" 2 0
    ∷ answers_file "numbers=0\ndarts=8\nlevels=65\nkernel=" 6 0
    ∷ answers_file "numbers=0\ndarts=8\nlevels=64\nx" 13 28
    ∷ answers_file "numbers=0\ndarts=8\nlevels=1\nkernel=remove 0\npair" 5 0
    -- "nothing after the last"
    ∷ answers_file "numbers=0\ndarts=2\nlevels=0\npair=0 1\n\n" 13 36
    -- "0 under F = 1, D under F = 0"
    ∷ answers_file "numbers=1\ndarts=2\nlevels=0\npair=0 2\n" 4 0
    ∷ answers_file "numbers=0\ndarts=2\nlevels=0\npair=1 2\n" 4 0
    ∷ answers_file "numbers=1\ndarts=2\nlevels=0\npair=1 2\n" 0 0
    ∷ []

pub worked : all_right table ≡ true
unfolding partner meets_in successor face_next same_vertex same_face same_piece gone survives before_in before repeats culprit test_from permutation_test turned lead whole_edge remove contract operate number kind_of lead_of edge_of put_back undo_one undone shared judge pass_from pass run raised levelled reduce empty_loop takes rising swept_from swept sweep end_below lowered undo_level undo_levels unfold_to dart_count build kernel_of cut kernels_of same_numbers same_state is_exactly is_pyramid never_below lowest cycles surviving counts_of digits decimal taken survivors file_order place_in file_number file_table kind_word kernel_line kernel_lines pair_lines file_of byte_at word is_digit number_on number_at field flag_at opening kernel_of_kind kernel_at kernels_at pairs_at end_at body from_flag ends_from total file_state numbers_from history_from file_history closed opened read_file room fitting table_of past_of over cleared work_after judged begins start hands_back on_state reduce_by sweep_by undo_by unfold_by counts read_into read write
worked = refl
