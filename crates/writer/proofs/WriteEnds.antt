-- The ways that a write ends.
--   write_refused_lem == 1, 2 or 4
--   write_done    == the output is too short for the file, or the file is written
use mathlib.Core.Bool.{Bool, true, false}
use mathlib.Core.List.{List}
use mathlib.Core.Logic.{◌≢◌}
use mathlib.Core.Path.{◌≡◌, refl, sym, ◌∙◌}
use Prim.Native.Nat.{ℕ}
use borrow.Author.Tests.{ne_eqb}
use lib.Dec.{ltb}
use lib.ListN.{length}
use Rattle.darts.specs.Answers.{Answer}
use Rattle.darts.specs.State.{State}
use Rattle.darts.specs.File.{file_of}
use Rattle.darts.specs.Calls.{Written as Left, write, table_of, past_of, cleared}
use Rattle.slices.specs.Over.{over}
use Rattle.laws.proofs.calls.Cleared.{cleared_kept}
use Rattle.laws.proofs.calls.Judging.{judged_lent}
use Rattle.area.specs.Area.{table_in, past_in}
use Rattle.engine.specs.Held.{Beyond}
use Rattle.pyramid.specs.Steps.{Judged}
use Rattle.pyramid.proofs.Judges.{lent_of}
use Rattle.std.specs.Prelude.{Result, Ok, Err}
use Rattle.darts.specs.declared.Refusal.{Refusal}
use Rattle.darts.specs.declared.Refusal.TheVariants.{TooShort}
use Rattle.writer.specs.Filed.{filed}
use Rattle.writer.specs.Writing.{FileWritten}

-- what a write leaves
abbrev leaves : List ℕ → List ℕ → Answer → List ℕ → List ℕ → Left
leaves t h b y x = record { answer = b; table = t; history = h; work = y; output = x }

module _ {s : State} {k : ℕ} {t h w v : List ℕ} {a : Answer} (J : Judged s k t h w v a) (o : List ℕ) where
  abbrev file : List ℕ
  file = file_of s (table_of s t) (past_of s h)

  pub write_refused_lem : a.number ≢ 0 → leaves t h a v o ≡ write s t h w o
  unfolding write
  write_refused_lem n = sym (rw (← J.answer, ne_eqb a.number 0 n, J.refused n))

  module _ (fine : a.number ≡ 0) {u x : List ℕ} {r : Result ℕ Refusal} (B : Beyond s.darts v u)
      (F : FileWritten s (table_in s.darts v) (past_in s.darts s.operations v) o x r) where
    kept : cleared s.darts u ≡ cleared s.darts w
    kept = cleared_kept s.darts w u (B.rest ∙ (J.checked fine).beyond.rest)

    written : FileWritten s (table_of s t) (past_of s h) o x r
    written = let C = J.checked fine in rw (C.table refl, C.past refl) at F

    -- the output is too short, or it gets the file
    ended : (b : Bool) → ltb (length o) (length file) ≡ b → filed r t h (cleared s.darts u) x ≡ write s t h w o
    unfolding write
    ended true q =
        let e : r ≡ Err (TooShort (length file)) = rw q at written.answer in
        let y : x ≡ o = rw q at written.output in
        sym (rw (judged_lent s t h w (lent_of J fine), q, kept, y, e))
    ended false q =
        let e : r ≡ Ok (length file) = rw q at written.answer in
        let y : x ≡ over file o = rw q at written.output in
        sym (rw (judged_lent s t h w (lent_of J fine), q, kept, y, e))

    pub write_done : filed r t h (cleared s.darts u) x ≡ write s t h w o
    write_done = ended (ltb (length o) (length file)) refl
