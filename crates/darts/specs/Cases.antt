-- The answers as the code has them: done, with what a call hands, or a refusal; and the rules' number and places of each.
--   refusal_of r == the answer of the definitions that a refusal is
--   answer_of a  == the answer of a call whose place is 0 where it is done
--   bytes_of a   == the writer's answer: "for the writer, the bytes written"
use Rattle.std.specs.Prelude.{ℕ, Result, Ok, Err}
use Rattle.darts.specs.Answers.{Answer as Answered, done, wrote, no_dart_count, needs, no_permutation, no_pyramid, empty_kernel, too_many_levels}
use Rattle.darts.specs.Answers.{no_edge, gone_already, one_vertex, one_face, whole_piece, no_level, no_file, no_flag, no_plan_size, unfit_record}
use Rattle.darts.specs.declared.Refusal.{Refusal}
use Rattle.darts.specs.declared.Refusal.TheVariants.{NoDartCount, TooShort, NoPermutation, NoPyramid, EmptyKernel, TooManyLevels, NoEdge, GoneAlready}
use Rattle.darts.specs.declared.Refusal.TheVariants.{OneVertex, OneFace, WholePiece, NoLevel, NoFile, NoFlag, NoPlanSize, UnfitRecord}

abbrev pub refusal_of : Refusal → Answered
refusal_of NoDartCount = no_dart_count
refusal_of (TooShort n) = needs n
refusal_of (NoPermutation d c) = no_permutation d c
refusal_of NoPyramid = no_pyramid
refusal_of EmptyKernel = empty_kernel
refusal_of TooManyLevels = too_many_levels
refusal_of (NoEdge i) = no_edge i
refusal_of (GoneAlready i) = gone_already i
refusal_of (OneVertex i) = one_vertex i
refusal_of (OneFace i) = one_face i
refusal_of (WholePiece i) = whole_piece i
refusal_of (NoLevel top) = no_level top
refusal_of (NoFile at) = no_file at
refusal_of NoFlag = no_flag
refusal_of NoPlanSize = no_plan_size
refusal_of (UnfitRecord x) = unfit_record x

abbrev pub answer_of : {T : Type 0} → Result T Refusal → Answered
answer_of (Ok x) = done
answer_of (Err r) = refusal_of r

abbrev pub bytes_of : Result ℕ Refusal → Answered
bytes_of (Ok n) = wrote n
bytes_of (Err r) = refusal_of r
