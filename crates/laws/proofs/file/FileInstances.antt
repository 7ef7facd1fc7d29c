-- The claims about the file at K12 of document 01: "the pyramid of K7, as the kernels contract 0, 1 and remove 2, is this file".
--   k7_state, k7_table, k7_past == the pyramid of K7; its removal turns round
--   k12                         == the file of K12; k12_ones the same with `numbers=1`
--   k12_table, k12_past         == what K12 reads as
use mathlib.Core.Bool.{Bool}
use mathlib.Core.List.{List, [], ◌∷◌, map}
use mathlib.Core.Path.{◌≡◌, refl, sym, ap, ◌∙◌}
use Prim.Native.Nat.{ℕ, suc}
use native.Mathlib.Omega.{arith}
use lib.Dec.{T}
use lib.ListN.{replicate}
use Rattle.permutations.specs.Partner.{partner}
use Rattle.permutations.specs.Cycle.{meets_in}
use Rattle.darts.specs.Map.{successor, face_next, same_vertex, same_face, gone, survives, before_in, before, repeats, culprit, test_from, permutation_test}
use Rattle.darts.specs.Operation.{contraction, removal, turned, lead, whole_edge, remove, contract, operate, number, kind_of, lead_of, edge_of, put_back, undo_one, undone}
use Rattle.darts.specs.Kernel.{shared, judge, pass_from, pass, run}
use Rattle.darts.specs.State.{State, base_state, gives, raised, levelled, reduce}
use Rattle.darts.specs.Levels.{end_below, lowered, undo_level, undo_levels, unfold_to}
use Rattle.darts.specs.Counts.{never_below, lowest, cycles, counts_of}
use Rattle.darts.specs.Pyramid.{Pyramid, dart_count, build, kernel_of, cut, kernels_of, same_numbers, same_state, is_exactly, is_pyramid}
use Rattle.darts.specs.Text.{bytes, digits, decimal}
use Rattle.darts.specs.File.{taken, survivors, file_order, place_in, file_number, file_table, kind_word, kernel_line, kernel_lines, pair_lines, file_of}
use Rattle.darts.specs.Scan.{byte_at}
use Rattle.darts.specs.Read.{KernelLine, means, read_file}
use Rattle.laws.proofs.claims.Decided.{pyramid_decided}
use Rattle.laws.proofs.file.Lines.{count_line, count_lines}
use Rattle.laws.proofs.file.Texts.{GoodForm, text_of}
use Rattle.laws.proofs.file.Meanings.{SameMeaning, one_meaning}
use Rattle.laws.proofs.file.History.{own_numbers, file_past}
use Rattle.laws.proofs.file.ReadWrite.{read_write}
use Rattle.laws.proofs.file.FlagOne.{flag_one}
use Rattle.laws.proofs.file.WriteRead.{write_read}

abbrev k7_state : State
k7_state = record { darts = 8; operations = 3; levels = 2; ends = 2 ∷ 3 ∷ replicate 62 0; vertices = 2; faces = 1 }

abbrev k7_table : List ℕ
k7_table = 5 ∷ 2 ∷ 5 ∷ 4 ∷ 6 ∷ 4 ∷ 6 ∷ 7 ∷ []

abbrev k7_past : List ℕ
k7_past = 10 ∷ 5 ∷ 1 ∷ []

k7_pyramid : Pyramid k7_state k7_table k7_past
unfolding partner meets_in successor face_next same_vertex same_face gone survives before_in before repeats culprit test_from permutation_test turned lead whole_edge remove contract operate number kind_of lead_of edge_of put_back undo_one undone shared judge pass_from pass run raised levelled reduce dart_count build kernel_of cut kernels_of same_numbers same_state is_exactly is_pyramid never_below lowest cycles counts_of
k7_pyramid = (pyramid_decided k7_state k7_table k7_past).0 tt

abbrev k12 : List ℕ
k12 = bytes "numbers=0\ndarts=8\nlevels=2\nkernel=contract 2\nkernel=remove 1\npair=4 2\npair=4 5\npair=5 6\npair=6 7\n"

abbrev k12_table : List ℕ
k12_table = 4 ∷ 2 ∷ 4 ∷ 5 ∷ 5 ∷ 6 ∷ 6 ∷ 7 ∷ []

abbrev k12_past : List ℕ
k12_past = 8 ∷ 5 ∷ 1 ∷ []

-- ---- written

k12_written : file_of k7_state k7_table k7_past ≡ k12
unfolding partner successor gone survives kind_of lead_of edge_of kernel_of cut kernels_of digits decimal taken survivors file_order place_in file_number file_table kind_word kernel_line kernel_lines pair_lines file_of
k12_written = refl

-- the removal had p = 5: in the file it has 4, and its partner 5
k12_numbers : map (file_number 8 k7_past) (0 ∷ 1 ∷ 2 ∷ 3 ∷ 4 ∷ 5 ∷ 6 ∷ 7 ∷ []) ≡ 0 ∷ 1 ∷ 2 ∷ 3 ∷ 5 ∷ 4 ∷ 6 ∷ 7 ∷ []
unfolding partner gone survives lead_of taken survivors file_order place_in file_number
k12_numbers = refl

-- ---- stated from zero and from one

abbrev k12_ones : List ℕ
k12_ones = bytes "numbers=1\ndarts=8\nlevels=2\nkernel=contract 2\nkernel=remove 1\npair=5 3\npair=5 6\npair=6 7\npair=7 8\n"

abbrev k12_kernels : List KernelLine
k12_kernels = record { kind = contraction; count = 2 } ∷ record { kind = removal; count = 1 } ∷ []

k12_text : text_of 0 8 k12_kernels k12_table ≡ k12
unfolding digits decimal kind_word pair_lines count_line count_lines text_of
k12_text = refl

k12_ones_text : text_of 1 8 k12_kernels (map suc k12_table) ≡ k12_ones
unfolding digits decimal kind_word pair_lines count_line count_lines text_of
k12_ones_text = refl

k12_form : GoodForm 1 8 k12_kernels (map suc k12_table)
k12_form = omega arith

-- ---- read

module _ (room : ℕ → Bool) (fits : T (room 8)) where
  k12_means : means k7_state (file_table 8 k7_table k7_past) (file_past k7_past) ≡ means k7_state k12_table k12_past
  unfolding partner successor gone survives number kind_of lead_of taken survivors file_order place_in file_number file_table own_numbers file_past
  k12_means = refl

  -- the claim, and what it says by computation
  k12_read : read_file room k12 ≡ means k7_state k12_table k12_past
  k12_read = ap (read_file room) (sym k12_written) ∙ (write_read k7_pyramid room fits).reads ∙ k12_means

  -- its own bytes
  k12_again : file_of k7_state k12_table k12_past ≡ k12
  unfolding byte_at
  k12_again = read_write room k12 k12_read refl

  -- "With `numbers=1` the pairs are 5 3, 5 6, 6 7, 7 8 and the output is the same."
  k12_ones_read : read_file room k12_ones ≡ means k7_state k12_table k12_past
  k12_ones_read = ap (read_file room) (sym k12_ones_text) ∙ flag_one room 8 k12_kernels k12_table k12_form ∙ ap (read_file room) k12_text ∙ k12_read

  k12_one_meaning : (room' : ℕ → Bool) {s : State} {t past : List ℕ} → read_file room' k12 ≡ means s t past → SameMeaning k7_state k12_table k12_past s t past
  k12_one_meaning room' e = one_meaning k12 room room' k12_read e

-- ---- the base, unfolded from what is read: T in the file's numbers

k12_base : unfold_to 0 k7_state k12_table k12_past ≡ gives (base_state 8 (4 ∷ 2 ∷ 1 ∷ 5 ∷ 0 ∷ 6 ∷ 3 ∷ 7 ∷ [])) (4 ∷ 2 ∷ 1 ∷ 5 ∷ 0 ∷ 6 ∷ 3 ∷ 7 ∷ []) []
unfolding partner successor gone survives before_in before kind_of lead_of put_back undo_one undone end_below lowered undo_level undo_levels unfold_to face_next never_below lowest cycles counts_of
k12_base = refl
