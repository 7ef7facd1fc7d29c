-- Done or refused, by the number of an answer and by its case.
--   refused_number == a refusal's number is not 0
--   no_second      == "every other answer has 0 there": a refusal that is not of the case `NoPermutation` has the second place 0
--   number_ok      == an answer with the number 0 is done
--   number_err     == one with another number is a refusal
use Rattle.std.proofs.Common.{ℕ, ◌≡◌, ◌≢◌, refl}
use Rattle.std.specs.Prelude.{Result, Ok, Err, IsOk, IsErr}
use Rattle.darts.specs.Cases.{refusal_of, answer_of}
use Rattle.darts.specs.declared.Refusal.{Refusal}
use Rattle.darts.specs.declared.Refusal.TheVariants.{NoDartCount, TooShort, NoPermutation, NoPyramid, EmptyKernel, TooManyLevels, NoEdge, GoneAlready}
use Rattle.darts.specs.declared.Refusal.TheVariants.{OneVertex, OneFace, WholePiece, NoLevel, NoFile, NoFlag, NoPlanSize, UnfitRecord}

pub refused_number : (r : Refusal) → (refusal_of r).number ≢ 0
refused_number NoDartCount e = cc
refused_number (TooShort n) e = cc
refused_number (NoPermutation d c) e = cc
refused_number NoPyramid e = cc
refused_number EmptyKernel e = cc
refused_number TooManyLevels e = cc
refused_number (NoEdge i) e = cc
refused_number (GoneAlready i) e = cc
refused_number (OneVertex i) e = cc
refused_number (OneFace i) e = cc
refused_number (WholePiece i) e = cc
refused_number (NoLevel top) e = cc
refused_number (NoFile at) e = cc
refused_number NoFlag e = cc
refused_number NoPlanSize e = cc
refused_number (UnfitRecord x) e = cc

pub no_second : (r : Refusal) → ((d c : ℕ) → r ≡ NoPermutation d c → ⊥) → 0 ≡ (refusal_of r).second
no_second NoDartCount k = refl
no_second (TooShort n) k = refl
no_second (NoPermutation d c) k = absurd (k d c refl)
no_second NoPyramid k = refl
no_second EmptyKernel k = refl
no_second TooManyLevels k = refl
no_second (NoEdge i) k = refl
no_second (GoneAlready i) k = refl
no_second (OneVertex i) k = refl
no_second (OneFace i) k = refl
no_second (WholePiece i) k = refl
no_second (NoLevel top) k = refl
no_second (NoFile at) k = refl
no_second NoFlag k = refl
no_second NoPlanSize k = refl
no_second (UnfitRecord x) k = refl

pub number_ok : {T : Type 0} (a : Result T Refusal) → (answer_of a).number ≡ 0 → IsOk a
number_ok (Ok x) e = refl
number_ok (Err r) e = absurd (refused_number r e)

pub number_err : {T : Type 0} (a : Result T Refusal) → (answer_of a).number ≢ 0 → IsErr a
number_err (Ok x) e = absurd (e refl)
number_err (Err r) e = refl
