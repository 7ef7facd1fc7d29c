-- The laws of the file's calls at K12 of document 01: "the pyramid of K7, as the kernels contract 0, 1 and remove 2, is this file".
--   k7_state, k7_table, k7_numbers == the pyramid of K7, in slices that hold one number more
--   area, output           == the lent work area, and the lent output
--   k12, wrote, read_k12    == the file of K12, what write leaves of K7, and what read leaves of K12
use mathlib.Core.List.{List, [], ◌∷◌, ◌++◌}
use mathlib.Core.Path.{◌≡◌, refl}
use Prim.Native.Nat.{ℕ}
use lib.Dec.{lit≤}
use lib.ListN.{take, replicate}
use Rattle.permutations.specs.Partner.{partner}
use Rattle.permutations.specs.Cycle.{meets_in}
use Rattle.darts.specs.Map.{successor, face_next, same_vertex, same_face, gone, survives, before_in, before, repeats, culprit, test_from, permutation_test}
use Rattle.darts.specs.Operation.{turned, lead, whole_edge, remove, contract, operate, number, kind_of, lead_of, edge_of, put_back, undo_one, undone}
use Rattle.darts.specs.Kernel.{shared, judge, pass_from, pass, run}
use Rattle.darts.specs.State.{State, raised, levelled, reduce}
use Rattle.darts.specs.Counts.{never_below, lowest, cycles, counts_of}
use Rattle.darts.specs.Pyramid.{dart_count, build, kernel_of, cut, kernels_of, same_numbers, same_state, is_exactly, is_pyramid}
use Rattle.darts.specs.Text.{bytes, digits, decimal}
use Rattle.darts.specs.File.{taken, survivors, file_order, place_in, file_number, file_table, kind_word, kernel_line, kernel_lines, pair_lines, file_of}
use Rattle.darts.specs.Scan.{byte_at, word, is_digit, number_on, number_at, field}
use Rattle.darts.specs.Read.{flag_at, opening, kernel_of_kind, kernel_at, kernels_at, pairs_at, end_at, body, from_flag, ends_from, total, file_state, numbers_from, history_from, file_history, closed, opened, read_file}
use Rattle.darts.specs.Calls.{After, Written, room, fitting, table_of, past_of, cleared, work_after, judged, read_into, read, write}
use Rattle.slices.specs.Over.{over}
use Rattle.laws.proofs.chained.File.{ReadAgain, WrittenAgain, write_then_read, read_then_write}

abbrev k7_state : State
k7_state = record { darts = 8; operations = 3; levels = 2; ends = 2 ∷ 3 ∷ replicate 62 0; vertices = 2; faces = 1 }

abbrev k7_table : List ℕ
k7_table = 5 ∷ 2 ∷ 5 ∷ 4 ∷ 6 ∷ 4 ∷ 6 ∷ 7 ∷ 99 ∷ []

abbrev k7_numbers : List ℕ
k7_numbers = 1 ∷ 5 ∷ 10 ∷ 94 ∷ 95 ∷ []

abbrev pub area : List ℕ
area = replicate 33 9

abbrev output : List ℕ
output = replicate 100 0

abbrev pub k12 : List ℕ
k12 = bytes "numbers=0\ndarts=8\nlevels=2\nkernel=contract 2\nkernel=remove 1\npair=4 2\npair=4 5\npair=5 6\npair=6 7\n"

abbrev wrote : Written
wrote = write k7_state k7_table k7_numbers area output

abbrev pub read_k12 : After
read_k12 = read k12 (replicate 9 9) (replicate 5 9) area

-- ---- written, and read again

k12_written : (wrote.answer.number ≡ 0) × ((wrote.answer.place ≡ 97) × (wrote.output ≡ k12 ++ (0 ∷ 0 ∷ 0 ∷ [])))
unfolding partner meets_in successor face_next same_vertex same_face gone survives before_in before repeats culprit test_from permutation_test turned lead whole_edge remove contract operate number kind_of lead_of edge_of put_back undo_one undone shared judge pass_from pass run raised levelled reduce dart_count build kernel_of cut kernels_of same_numbers same_state is_exactly is_pyramid room fitting table_of past_of over cleared work_after judged digits decimal taken survivors file_order place_in file_number file_table kind_word kernel_line kernel_lines pair_lines file_of write never_below lowest cycles counts_of
k12_written = (refl, (refl, refl))

k12_read_again : ReadAgain k7_state k7_table k7_numbers area
    (read (take wrote.answer.place wrote.output) (replicate 8 9) (replicate 4 9) (replicate 32 9))
k12_read_again =
    write_then_read k7_state k7_table k7_numbers area output k12_written.0 (replicate 8 9) (replicate 4 9) (replicate 32 9)
    (record { table = lit≤ tt; history = lit≤ tt; work = lit≤ tt })

-- ---- read, and written again

pub k12_read : (read_k12.answer.number ≡ 0) × ((read_k12.table ≡ 4 ∷ 2 ∷ 4 ∷ 5 ∷ 5 ∷ 6 ∷ 6 ∷ 7 ∷ 9 ∷ []) × (read_k12.history ≡ 1 ∷ 5 ∷ 8 ∷ 9 ∷ 9 ∷ []))
unfolding partner meets_in successor face_next same_vertex same_face gone survives before_in before repeats culprit test_from permutation_test turned lead whole_edge remove contract operate number kind_of lead_of edge_of put_back undo_one undone shared judge pass_from pass run raised levelled reduce dart_count build kernel_of cut kernels_of same_numbers same_state is_exactly is_pyramid room fitting table_of past_of over cleared work_after judged byte_at word is_digit number_on number_at field flag_at opening kernel_of_kind kernel_at kernels_at pairs_at end_at body from_flag ends_from total file_state numbers_from history_from file_history closed opened read_file read_into read kind_word never_below lowest cycles counts_of
k12_read = (refl, (refl, refl))

k12_written_again : WrittenAgain k12 output read_k12 (write read_k12.state read_k12.table read_k12.history read_k12.work output)
unfolding byte_at
k12_written_again = read_then_write k12 (replicate 9 9) (replicate 5 9) area k12_read.0 refl output (lit≤ tt)
