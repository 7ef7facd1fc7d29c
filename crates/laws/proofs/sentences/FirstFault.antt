-- "Bytes are judged from left to right, and the first fault decides.": what follows the first fault does not matter.
--   FirstFault b t h w == the first bytes of b, up to the fault, that tell what a refused read leaves
--   first_fault        == a refused read is told by them
--   wrong_byte_decides == where the bytes leave the file's form, those up to the wrong byte tell it
--   long_file          == with tables for 4,096 darts the first 65,536 bytes of a file tell it
use mathlib.Core.List.{List}
use mathlib.Core.Logic.{◌≢◌}
use mathlib.Core.Path.{◌≡◌, refl, sym, ap, ◌∙◌, subst}
use Prim.Native.Nat.{ℕ, suc, ◌≤◌}
use native.Mathlib.Omega.{arith}
use lib.ListN.{length, take}
use lib.Seq.{take-take}
use Rattle.darts.specs.Answers.{Answer}
use Rattle.darts.specs.Read.{Read, means, faulty, read_file}
use Rattle.darts.specs.Calls.{read_into, read}
use Rattle.darts.proofs.Fitting.{room_facts}
use Rattle.laws.proofs.file.Seen.{Cause, wrong_byte, wrong_flag, no_count_lem, too_short_lem, empty_kernel_lem, many_levels, no_pyramid_lem, Seen, seen, seen_cause}
use Rattle.laws.proofs.sentences.FirstLines.{fits}

-- The cause names the last of these bytes: the wrong byte (13, 14), or the line feed of a value's line (1, 2, 5, 6).
pub record FirstFault (b t h w : List ℕ) : Type 0 where
  pub upto : ℕ
  pub cause : Cause b upto (read b t h w).answer
  pub decides : (c : List ℕ) → take upto c ≡ take upto b → read c t h w ≡ read b t h w

cause_place : {b : List ℕ} {upto : ℕ} {a : Answer} → Cause b upto a → a.number ≡ 13 → upto ≡ suc a.place
cause_place (wrong_byte p e k) n = k ∙ ap (λ a. suc a.place) (sym e)
cause_place (wrong_flag e k) n = let z = ap (λ a. a.number) e in absurd (omega arith)
cause_place (no_count_lem e l) n = let z = ap (λ a. a.number) e in absurd (omega arith)
cause_place (too_short_lem e l) n = let z = ap (λ a. a.number) e in absurd (omega arith)
cause_place (empty_kernel_lem e l) n = let z = ap (λ a. a.number) e in absurd (omega arith)
cause_place (many_levels e l) n = let z = ap (λ a. a.number) e in absurd (omega arith)
cause_place (no_pyramid_lem e) n = let z = ap (λ a. a.number) e in absurd (omega arith)

module _ (b t h w : List ℕ) where
  abbrev S : Seen (fits t h w) b
  S = seen (fits t h w) b

  same_read : (c : List ℕ) → take S.upto c ≡ take S.upto b → read c t h w ≡ read b t h w
  unfolding read
  same_read c s = ap (read_into t h w) (S.same c s)

  fault_cause : (read b t h w).answer.number ≢ 0 → Cause b S.upto (read b t h w).answer
  unfolding read read_into
  fault_cause n = go (read_file (fits t h w) b) refl n
    where
      go : (r : Read) → read_file (fits t h w) b ≡ r → (read_into t h w r).answer.number ≢ 0
          → Cause b S.upto (read_into t h w r).answer
      go (means s u past) e n = absurd (n refl)
      go (faulty D a) e n = seen_cause (fits t h w) b e

  -- "Bytes are judged from left to right, and the first fault decides."
  pub first_fault : (read b t h w).answer.number ≢ 0 → FirstFault b t h w
  first_fault n = record { upto = S.upto; cause = fault_cause n; decides = same_read }

  -- "13: the bytes leave the file's form; first wrong byte, from 0, or the length if it ends early"
  pub wrong_byte_decides : (read b t h w).answer.number ≡ 13 → (c : List ℕ)
      → take (suc (read b t h w).answer.place) c ≡ take (suc (read b t h w).answer.place) b → read c t h w ≡ read b t h w
  wrong_byte_decides e c s =
      let F = first_fault (omega arith) in
      F.decides c (subst (λ n. take n c ≡ take n b) (sym (cause_place F.cause e)) s)

  -- "Program `levels` reads a file on standard input with tables for 4,096 darts.": 65,536 bytes of it are enough
  pub long_file : length t ≤ 4096 → read (take 65536 b) t h w ≡ read b t h w
  long_file small =
      let few = S.few 4096 (λ D r. omega (arith, (room_facts (length t) (length h) (length w) D r).table)) in
      same_read (take 65536 b) (take-take S.upto 65536 b (omega arith))
