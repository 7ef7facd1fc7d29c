-- The answers (document 01, "Answer numbers"; document 02, request Three): the number and the two places of each case.
--   Answer        == a number, a place and a second place
--   answered n p  == the answer with number n and place p, the second place 0
use Rattle.std.specs.Prelude.{ℕ}

pub record Answer : Type 0 where
  pub number : ℕ
  pub place : ℕ
  pub second : ℕ

-- "every other answer has 0 there": every one but 3
abbrev pub answered : ℕ → ℕ → Answer
answered n p = record { number = n; place = p; second = 0 }

-- 0, "done", place "0; for the writer, the bytes written"
abbrev pub done : Answer
done = answered 0 0

abbrev pub wrote : ℕ → Answer
wrote n = answered 0 n

-- 1, "D is odd, 0 or over 65,536"
abbrev pub no_dart_count : Answer
no_dart_count = answered 1 0

-- 2, "a lent slice is too short", place "0; for the writer's output, the bytes needed"
abbrev pub too_short : Answer
too_short = answered 2 0

abbrev pub needs : ℕ → Answer
needs n = answered 2 n

-- 3, "start: the table is no permutation", place "lowest dart whose successor is D or more, or repeats a lower dart's".
-- "3 carries a second place, D where the value was out of range", else the "lower dart" that "already has that successor"
abbrev pub no_permutation : ℕ → ℕ → Answer
no_permutation d c = record { number = 3; place = d; second = c }

-- 4, "the state, or what a file holds, is no pyramid"
abbrev pub no_pyramid : Answer
no_pyramid = answered 4 0

-- 5, "the kernel is empty"
abbrev pub empty_kernel : Answer
empty_kernel = answered 5 0

-- 6, "64 levels are in use, or a file states more"
abbrev pub too_many_levels : Answer
too_many_levels = answered 6 0

-- 7, "edge number is D/2 or more", place "place in the kernel, from 0"
abbrev pub no_edge : ℕ → Answer
no_edge i = answered 7 i

-- 8, "the edge is gone already", place "the same"
abbrev pub gone_already : ℕ → Answer
gone_already i = answered 8 i

-- 9, "contraction with one vertex at both ends", place "the same"
abbrev pub one_vertex : ℕ → Answer
one_vertex i = answered 9 i

-- 10, "removal with one face on both sides", place "the same"
abbrev pub one_face : ℕ → Answer
one_face i = answered 10 i

-- 11, "the edge is a whole piece", place "the same"
abbrev pub whole_piece : ℕ → Answer
whole_piece i = answered 11 i

-- 12, "undo at the base, or k above the top", place "the top level"
abbrev pub no_level : ℕ → Answer
no_level top = answered 12 top

-- 13, "the bytes leave the file's form", place "first wrong byte, from 0, or the length if it ends early"
abbrev pub no_file : ℕ → Answer
no_file at = answered 13 at

-- 14, "byte nine is neither 0 nor 1", place 8
abbrev pub no_flag : Answer
no_flag = answered 14 8

-- 15, "plan size outside the limits, or one cell alone", "place 0" (document 02, request One)
abbrev pub no_plan_size : Answer
no_plan_size = answered 15 0

-- 16, "by the start after 3, for metres not from 0 to 100,000 (a NaN is not) or stitches too many, place the first such record" (document 02, request Five)
abbrev pub unfit_record : ℕ → Answer
unfit_record x = answered 16 x
