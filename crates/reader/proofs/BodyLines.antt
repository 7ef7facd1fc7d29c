-- The lines after `levels=L`, read into the work area: the kernels into the history's part, the pairs into the map's.
--   kernels_wrong          == a fault in the kernels' lines
--   pairs_wrong            == a fault in the pairs' lines
--   lines_right            == all lines are found
--   level_wrong, level_right == what the line before them decides
use mathlib.Core.Path.{◌≡◌, refl, sym, ap, ◌∙◌}
use mathlib.Core.Logic.{inr}
use mathlib.Core.List.{List, map, append-nil}
use Prim.Native.Nat.{ℕ, ◌+◌, ◌-◌, ◌*◌, ◌/◌, ◌≤◌}
use native.Mathlib.Omega.{arith}
use lib.ListN.{length, length-map}
use lib.Seq.{take_at, drop-length}
use borrow.Rule.Slice.PartMut.{post_of, drop_put}
use Rattle.std.specs.Prelude.{Result, Ok, Err}
use Rattle.darts.specs.Cases.{refusal_of}
use Rattle.darts.specs.declared.Refusal.{Refusal}
use Rattle.darts.specs.Scan.{Scan, found, fault, after}
use Rattle.darts.specs.Read.{KernelLine, Body, kernels_at, pairs_at, body, from_flag, total, file_state, file_history}
use Rattle.slices.specs.Over.{over}
use Rattle.laws.proofs.runs.Ends.{state_path}
use Rattle.slices.specs.Part.{part, put}
use Rattle.slices.proofs.Part.{part_length, part_put, put_length, put_elsewhere}
use Rattle.area.specs.Area.{Room, table_in}
use Rattle.area.specs.Shape.{state_with, history_in}
use Rattle.area.specs.declared.Figures.{Figures}
use Rattle.slices.proofs.Over.{drop_more}
use Rattle.area.proofs.Parts.{part_inner}
use Rattle.engine.specs.Held.{Beyond}
use Rattle.file_lines.specs.declared.kernels.Levels.{Levels}
use Rattle.file_lines.specs.Lines.{levels_at, body_levels}
use Rattle.file_lines.specs.Kernels.{KernelsRead}
use Rattle.file_lines.specs.Pairs.{last_at, LastRead}
use Rattle.file_lines.proofs.After.{made_fault, made_found}
use Rattle.file_lines.proofs.PairLines.{pairs_count}
use Rattle.file_lines.proofs.KernelLines.{kernels_count, history_length}
use Rattle.file_lines.proofs.LastPairs.{last_end, last_found}
use Rattle.reader.specs.Parsed.{body_of, lines_at, Holds, BodyRead}

body_wrong : {z : Scan Body} {b : List ℕ} {D F : ℕ} {w w' : List ℕ} {a : Refusal} → z ≡ fault (refusal_of a) → Beyond D w w' → BodyRead z b D F w w' (Err a)
body_wrong e beyond = record { wrong = e; right = tt; beyond = beyond }

-- new numbers over no more old ones
over_whole : (new old : List ℕ) → length old ≡ length new → over new old ≡ new
unfolding over
over_whole new old e = rw (← e, drop-length old) (append-nil new)

module _ {D : ℕ} {w : List ℕ} (room : Room D w) (h' : List ℕ) (size : length h' ≡ length (part (3 * D) (4 * D) w)) where
  -- the kernels are read
  abbrev w₁ : List ℕ
  w₁ = put (3 * D) (4 * D) w h'

  abbrev Kernels : List ℕ → ℕ → ℕ → Result (Levels × ℕ) Refusal → Type 0
  Kernels b at L k = KernelsRead b at L D (part (3 * D) (4 * D) w) h' k

  fits : length h' ≡ 4 * D - 3 * D
  fits = size ∙ part_length (3 * D) (4 * D) w room.fits

  beyond₁ : Beyond D w w₁
  beyond₁ =
      record {
        size = put_length (3 * D) (4 * D) w (omega arith) room.fits h' fits;
        rest = drop_put (3 * D) (4 * D) w h' (omega arith) room.fits fits;
      }

  pub kernels_wrong : {b : List ℕ} {at L F : ℕ} {a : Refusal} → Kernels b at L (Err a) → BodyRead (lines_at L D b at) b D F w w₁ (Err a)
  unfolding lines_at
  kernels_wrong {b} {at} {L} {F} {a} K =
      let wrong : kernels_at L b at ≡ fault (refusal_of a) = made_fault _ total (sym K.answer) in
      body_wrong (rw wrong) beyond₁

  module _ (t' : List ℕ) (same : length t' ≡ length (part 0 D w₁)) where
    -- and then the pairs
    abbrev w₂ : List ℕ
    w₂ = put 0 D w₁ t'

    long : D ≤ length w₁
    long = let z = beyond₁.size in let f = room.fits in omega arith

    fits₂ : length t' ≡ D - 0
    fits₂ = same ∙ part_length 0 D w₁ long

    beyond₂ : Beyond D w w₂
    beyond₂ =
        record {
          size = put_length 0 D w₁ (omega arith) long t' fits₂ ∙ beyond₁.size;
          rest = drop_more D (4 * D) w₂ w₁ (omega arith) (drop_put 0 D w₁ t' (omega arith) long fits₂) ∙ beyond₁.rest;
        }

    module _ {b : List ℕ} {at L : ℕ} {l : Levels} {next : ℕ} (K : Kernels b at L (Ok (l, next))) where
      lines_on : (ks : List KernelLine) → kernels_at L b at ≡ found ks next
          → lines_at L D b at ≡ after (last_at D b next) (λ xs next. found (body_of ks xs) next)
      unfolding lines_at
      lines_on ks whole = rw whole (last_end D b next (body_of ks))

      pub pairs_wrong : {F : ℕ} {a : Refusal} → LastRead b next D F (part 0 D w₁) t' (Err a) → BodyRead (lines_at L D b at) b D F w w₂ (Err a)
      pairs_wrong {F} {a} P =
          let ks = made_found (kernels_at L b at) total (sym K.answer) in
          let wrong : last_at D b next ≡ fault (refusal_of a) = made_fault _ (λ _. 0) (sym P.answer) in
          body_wrong (lines_on ks.value ks.whole ∙ rw wrong) beyond₂

      laid_history : {ks : List KernelLine} → kernels_at L b at ≡ found ks next → total ks ≡ l.operations → l.operations ≤ D / 2
          → history_in D l.operations w₂ ≡ file_history ks
      unfolding file_history over
      laid_history {ks} lines count few =
          let n : ℕ = l.operations in
          let start : 3 * D + 0 ≡ 3 * D = omega arith in
          let all : n - 0 ≡ n = omega arith in
          let z = beyond₁.size in
          let long : length (file_history ks) ≡ n = history_length 0 ks ∙ count in
          let inner : part 0 n (part (3 * D) (4 * D) w₁) ≡ part (3 * D + 0) (3 * D + n) w₁ =
          part_inner (3 * D) (4 * D) 0 n w₁ (omega arith) (omega (arith, room.fits)) in
          put_elsewhere 0 D w₁ (omega arith) (omega (arith, room.fits)) t' fits₂ (3 * D) (3 * D + n) (inr (omega arith))
          ∙ rw start at (sym inner)
          ∙ ap (part 0 n) (part_put (3 * D) (4 * D) w (omega arith) room.fits h' fits ∙ K.history ks next lines (omega arith))
          ∙ rw all (take_at (file_history ks) _ n long)

      module _ {F p : ℕ} (P : LastRead b next D F (part 0 D w₁) t' (Ok p)) where
        laid_table : {xs : List ℕ} {last : ℕ} → pairs_at (D / 2) b next ≡ found xs last → table_in D w₂ ≡ map (from_flag F D) xs
        laid_table {xs} {last} lines =
            let darts : List ℕ = map (from_flag F D) xs in
            let count : length xs ≡ D / 2 * 2 = pairs_count b (D / 2) next xs last lines in
            let even = room.even in
            let all : length darts ≡ length xs = length-map xs (from_flag F D) in
            let old : length (part 0 D w₁) ≡ D - 0 = part_length 0 D w₁ long in
            take_at t' (post_of 0 (D - 0) w₁) D (omega (arith, fits₂))
            ∙ P.table xs last lines
            ∙ over_whole darts (part 0 D w₁) (omega arith)

        abbrev file : Figures
        file = record { darts = D; operations = l.operations; levels = L; ends = l.ends }

        pub lines_right : L ≤ 64 → BodyRead (lines_at L D b at) b D F w w₂ (Ok (file, next))
        unfolding file_state
        lines_right few =
            let ks = made_found (kernels_at L b at) total (sym K.answer) in
            let xs = made_found (last_at D b next) (λ _. 0) (sym P.answer) in
            let pairs : pairs_at (D / 2) b next ≡ found xs.value p = last_found D b next xs.whole in
            let count : length ks.value ≡ L = kernels_count b L at ks.value next ks.whole in
            let holds : Holds (state_with file) b F next (lines_at L D b at) w₂ =
            record {
              kernels = ks.value;
              numbers = xs.value;
              next = p;
              body = lines_on ks.value ks.whole ∙ ap (λ (s : Scan (List ℕ)). after s (λ xs next. found (body_of ks.value xs) next)) xs.whole;
              few = few;
              state = λ t past. state_path refl (sym ks.same) (sym count) (K.ends ks.value next ks.whole) refl refl;
              pairs = pairs;
              table = laid_table pairs;
              history = laid_history ks.whole ks.same;
            } in
            record { wrong = tt; right = (refl, holds); beyond = beyond₂ }

module _ (D : ℕ) (b : List ℕ) (at : ℕ) where
  pub level_wrong : {F : ℕ} {w : List ℕ} {a : Refusal} → levels_at b at ≡ fault (refusal_of a) → BodyRead (body D b at) b D F w w (Err a)
  level_wrong e = body_wrong (body_levels D b at ∙ rw e) (record { size = refl; rest = refl })

  pub level_right : {L next : ℕ} → levels_at b at ≡ found L next → body D b at ≡ lines_at L D b next
  unfolding lines_at
  level_right e = body_levels D b at ∙ rw e
