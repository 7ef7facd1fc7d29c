-- The file of a pyramid, once its darts are numbered in the work area.
--   ready_lines == what its lines ask of the work area
--   too_short_lem   == an output that is too short stays as it is
--   all_fits    == any other gets the file over its front
use mathlib.Core.List.{List, ◌++◌, reverse-reverse, append_assoc}
use mathlib.Core.Path.{◌≡◌}
use Prim.Native.Nat.{ℕ, ◌≤◌, ◌<◌}
use native.Mathlib.Omega.{arith}
use lib.Dec.{T}
use lib.ListN.{length, take}
use borrow.Author.Tests.{lt-ltb, le-ltb}
use Rattle.darts.specs.Tests.{rises}
use Rattle.darts.specs.State.{State}
use Rattle.darts.specs.Pyramid.{cut, kernels_of}
use Rattle.darts.specs.Text.{bytes, decimal}
use Rattle.darts.specs.File.{line_feed, kernel_lines, pair_lines, file_table, file_of}
use Rattle.laws.proofs.tests.Passes.{pyramid_shaped}
use Rattle.area.specs.Area.{table_in, past_in}
use Rattle.area.specs.Shape.{history_in}
use Rattle.pyramid.specs.Steps.{Stacked}
use Rattle.std.specs.Prelude.{Ok, Err}
use Rattle.darts.specs.declared.Refusal.TheVariants.{TooShort}
use Rattle.writer.specs.Fields.{Fitted, field_line}
use Rattle.writer.specs.Numbering.{Dense, Numbered}
use Rattle.writer.specs.Writing.{head_lines, file_in, FileWritten}
use Rattle.writer.proofs.Fitted.{fitted_over}

-- two fields and what follows them
two_fields : (a b c d e f rest : List ℕ) → ((a ++ (b ++ c)) ++ (d ++ (e ++ f))) ++ rest ≡ a ++ (b ++ (c ++ (d ++ (e ++ (f ++ rest)))))
two_fields a b c d e f rest = simp append_assoc

module _ (s : State) {w v : List ℕ} (N : Numbered s.darts s.operations w v) where
  abbrev D : ℕ
  D = s.darts

  abbrev past : List ℕ
  past = past_in D s.operations w

  abbrev hs : List ℕ
  hs = history_in D s.operations w

  pub ready_lines : Stacked s w
      → Dense D v × (((s.operations ≤ D) × (s.levels ≤ 64)) × T (rises 0 (take s.levels s.ends) (history_in D s.operations v)))
  ready_lines S =
      let shape = pyramid_shaped S.pyramid in
      let few : s.operations ≤ D = omega (arith, S.area.few) in
      (N.dense, ((few, shape.layered.most), rw N.history (rw (reverse-reverse hs) at shape.rising)))

  abbrev file : List ℕ
  file = file_of s (table_in D w) past

  -- THE LINES ARE THOSE OF THE FILE
  same_file : file_in s v ≡ file
  unfolding file_in head_lines field_line file_of kernels_of
  same_file = rw (N.entries, N.history, reverse-reverse hs)
      (two_fields (bytes "numbers=0\ndarts=") (decimal D) line_feed (bytes "levels=") (decimal s.levels) line_feed
      (kernel_lines (cut 0 (take s.levels s.ends) hs) ++ pair_lines (file_table D (table_in D w) past)))

  pub too_short_lem : {o none none' : List ℕ} {r : ℕ} → Fitted none none' 0 r (file_in s v) → length o < r
      → FileWritten s (table_in D w) past o o (Err (TooShort r))
  too_short_lem {o} {r = r} p short =
      let long : r ≡ length file = rw (← same_file) (omega (arith, p.next)) in
      let less = lt-ltb (length o) (length file) (omega arith) in
      record { answer = rw (less, long); output = rw less }

  pub all_fits : {o o' : List ℕ} {r : ℕ} → Fitted o o' 0 r (file_in s v) → length (file_in s v) ≤ length o
      → FileWritten s (table_in D w) past o o' (Ok r)
  all_fits {o} {r = r} p fits =
      let long : r ≡ length file = rw (← same_file) (omega (arith, p.next)) in
      let less = le-ltb (length o) (length file) (rw same_file at fits) in
      record { answer = rw (less, long); output = rw less (rw same_file at (fitted_over p fits)) }
