-- The sentences on reading and writing, met by computation: a map of one edge, whose two darts are two vertices, and files like its own.
--   lent_table, lent_history, lent_work == slices one number longer than two darts need
--   zeroed                           == the work area with its first eight numbers zero
--   one_edge, output                 == the file, 36 bytes, and an output
--   ReadRows, WriteRows              == what reads and writes leave
use mathlib.Core.List.{List, [], ◌∷◌, ◌++◌}
use mathlib.Core.Path.{◌≡◌, refl}
use Prim.Native.Nat.{ℕ}
use lib.ListN.{replicate}
use Rattle.permutations.specs.Partner.{partner}
use Rattle.darts.specs.Answers.{Answer, answered}
use Rattle.darts.specs.Map.{successor, face_next, gone, survives, repeats, culprit, test_from, permutation_test}
use Rattle.darts.specs.Operation.{undone}
use Rattle.darts.specs.State.{zeros, base_state}
use Rattle.darts.specs.Counts.{never_below, lowest, cycles, counts_of}
use Rattle.darts.specs.Pyramid.{dart_count, build, cut, kernels_of, same_numbers, same_state, is_exactly, is_pyramid}
use Rattle.darts.specs.Text.{bytes, digits, decimal}
use Rattle.darts.specs.File.{taken, survivors, file_order, place_in, file_number, file_table, kind_word, kernel_lines, pair_lines, file_of}
use Rattle.darts.specs.Scan.{byte_at, word, is_digit, number_on, number_at, field}
use Rattle.darts.specs.Read.{flag_at, opening, kernel_of_kind, kernel_at, kernels_at, pairs_at, end_at, body, from_flag, ends_from, total, file_state, history_from, file_history, closed, opened, read_file}
use Rattle.darts.specs.Calls.{After, Written, leaves, room, fitting, table_of, past_of, cleared, work_after, judged, read_into, read, write}
use Rattle.slices.specs.Over.{over}

abbrev lent_table : List ℕ
lent_table = 9 ∷ 9 ∷ 9 ∷ []

abbrev lent_history : List ℕ
lent_history = 8 ∷ 8 ∷ []

abbrev lent_work : List ℕ
lent_work = replicate 9 7

abbrev zeroed : List ℕ
zeroed = 0 ∷ 0 ∷ 0 ∷ 0 ∷ 0 ∷ 0 ∷ 0 ∷ 0 ∷ 7 ∷ []

abbrev one_edge : List ℕ
one_edge = bytes "numbers=0\ndarts=2\nlevels=0\npair=0 1\n"

abbrev reading : List ℕ → After
reading b = read b lent_table lent_history lent_work

-- a read that was refused before D was known, or with 1 or 2, and one that was refused later
abbrev early : Answer → After
early a = leaves a zeros lent_table lent_history lent_work

abbrev late : Answer → After
late a = leaves a zeros lent_table lent_history zeroed

record ReadRows : Type 0 where
  -- "The reader writes table and history only when it accepts"
  accepted : reading one_edge ≡ leaves (answered 0 0) (base_state 2 (0 ∷ 1 ∷ [])) (0 ∷ 1 ∷ 9 ∷ []) lent_history zeroed
  -- "14: byte nine is neither 0 nor 1, place 8"
  flag : reading (bytes "numbers=2\n") ≡ early (answered 14 8)
  -- "or the length if it ends early"
  no_flag_lem : reading (bytes "numbers=") ≡ early (answered 13 8)
  -- "Values are judged when their line has ended: D (1, then 2)"
  no_count_lem : reading (bytes "numbers=0\ndarts=3\nlevels") ≡ early (answered 1 0)
  no_count_first : read (bytes "numbers=0\ndarts=3\n") [] [] [] ≡ leaves (answered 1 0) zeros [] [] []
  too_short_lem : reading (bytes "numbers=0\ndarts=4\nlevels") ≡ early (answered 2 0)
  unended : reading (bytes "numbers=0\ndarts=3 ") ≡ early (answered 13 17)
  levels_unended : reading (bytes "numbers=0\ndarts=2\nlevels=65,") ≡ late (answered 13 27)
  count_unended : reading (bytes "numbers=0\ndarts=2\nlevels=1\nkernel=remove 0") ≡ late (answered 13 42)
  -- "L over 64 (6), N of 0 (5)"
  many_levels : reading (bytes "numbers=0\ndarts=2\nlevels=65\nk") ≡ late (answered 6 0)
  empty_kernel_lem : reading (bytes "numbers=0\ndarts=2\nlevels=1\nkernel=remove 0\np") ≡ late (answered 5 0)
  -- "first wrong byte, from 0"
  wrong_letter : reading (bytes "numbers=0\ndarts=2\nlevels=0\npaid=0 1\n") ≡ late (answered 13 30)
  wrong_kind : reading (bytes "numbers=0\ndarts=2\nlevels=1\nkernel=delete 1\n") ≡ late (answered 13 34)
  no_number : reading (bytes "numbers=0\ndarts=2\nlevels=0\npair=0 \n") ≡ late (answered 13 34)
  wrong_end : reading (bytes "numbers=0\ndarts=2\nlevels=0\npair=0,1\n") ≡ late (answered 13 33)
  -- "one to five digits, no leading zero but for 0 itself"
  six_digits : reading (bytes "numbers=0\ndarts=123456\n") ≡ early (answered 13 21)
  leading_zero : reading (bytes "numbers=0\ndarts=02\n") ≡ early (answered 13 17)
  -- "nothing after the last"
  on : reading (one_edge ++ bytes "\n") ≡ late (answered 13 36)
  -- "After the last byte: 4, also where a pair holds a number that is no dart (0 under F = 1, D under F = 0)."
  no_permutation_lem : reading (bytes "numbers=0\ndarts=2\nlevels=0\npair=1 1\n") ≡ late (answered 4 0)
  no_dart : reading (bytes "numbers=0\ndarts=2\nlevels=0\npair=0 2\n") ≡ late (answered 4 0)
  no_dart_from_one : reading (bytes "numbers=1\ndarts=2\nlevels=0\npair=0 1\n") ≡ late (answered 4 0)

read_rows : ReadRows
unfolding successor gone survives repeats culprit test_from permutation_test undone dart_count build cut kernels_of same_numbers same_state is_exactly is_pyramid kind_word byte_at word is_digit number_on number_at field flag_at opening kernel_of_kind kernel_at kernels_at pairs_at end_at body from_flag ends_from total file_state history_from file_history closed opened read_file room over cleared read_into read face_next partner never_below lowest cycles counts_of
read_rows = record {
  accepted = refl;
  flag = refl;
  no_flag_lem = refl;
  no_count_lem = refl;
  no_count_first = refl;
  too_short_lem = refl;
  unended = refl;
  levels_unended = refl;
  count_unended = refl;
  many_levels = refl;
  empty_kernel_lem = refl;
  wrong_letter = refl;
  wrong_kind = refl;
  no_number = refl;
  wrong_end = refl;
  six_digits = refl;
  leading_zero = refl;
  on = refl;
  no_permutation_lem = refl;
  no_dart = refl;
  no_dart_from_one = refl;
}

-- ---- written

abbrev writing : List ℕ → Written
writing o = write (base_state 2 (0 ∷ 1 ∷ [])) (0 ∷ 1 ∷ 9 ∷ []) lent_history lent_work o

abbrev filed : Answer → List ℕ → Written
filed a o = record { answer = a; table = 0 ∷ 1 ∷ 9 ∷ []; history = lent_history; work = zeroed; output = o }

record WriteRows : Type 0 where
  -- "The writer judges its output's length after 4."
  no_pyramid_lem : write (base_state 2 (1 ∷ 1 ∷ [])) (1 ∷ 1 ∷ []) (8 ∷ []) (replicate 8 7) [] ≡ record {
    answer = answered 4 0;
    table = 1 ∷ 1 ∷ [];
    history = 8 ∷ [];
    work = replicate 8 0;
    output = [];
  }
  -- "2: .. for the writer's output, the bytes needed"
  short : writing (replicate 35 6) ≡ filed (answered 2 36) (replicate 35 6)
  -- "0: .. for the writer, the bytes written"
  full : writing (replicate 36 6) ≡ filed (answered 0 36) one_edge
  -- "an accepted write alters only its own bytes of the output"
  long : writing (replicate 38 6) ≡ filed (answered 0 36) (one_edge ++ (6 ∷ 6 ∷ []))

write_rows : WriteRows
unfolding successor gone survives repeats culprit test_from permutation_test undone dart_count build cut kernels_of same_numbers same_state is_exactly is_pyramid digits decimal taken survivors file_order place_in file_number file_table kernel_lines pair_lines file_of room fitting table_of past_of over cleared work_after judged write face_next partner never_below lowest cycles counts_of
write_rows = record { no_pyramid_lem = refl; short = refl; full = refl; long = refl }
