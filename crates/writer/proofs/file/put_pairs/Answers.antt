-- `writer::file::put_pairs` meets its contract: the lines that are written, and then those of the entries that are left, are the lines of all.
--   Pairing D w o₀ o start place i == from o₀ to o the first i lines were written
use mathlib.Core.List.{List, [], ◌∷◌, map}
use mathlib.Core.Path.{◌≡◌, refl, ap, ◌∙◌}
use Prim.Native.Nat.{ℕ, ◌+◌, ◌*◌, ◌/◌, ◌≤◌, ◌<◌}
use native.Mathlib.Omega.{arith}
use lib.ListN.{get_or}
use Rattle.darts.specs.File.{pair_lines}
use Rattle.slices.specs.Part.{part}
use Rattle.area.proofs.Parts.{part_cons, part_none}
use Rattle.writer.specs.Fields.{Fitted}
use Rattle.writer.specs.Numbering.{Dense, renamed, entries_in}
use Rattle.writer.proofs.Lengths.{pair_short}
use Rattle.writer.proofs.Fitted.{toward_all, toward_on, toward_end}
use Rattle.writer.proofs.CutLines.{pairs_on}
use Rattle.writer.proofs.file.put_pairs.Invariants.{Pairing}
use Rattle.writer.proofs.file.put_pairs.Goals as goal

begin : (D : ℕ) (w o : List ℕ) (start : ℕ) → Pairing D w o o start start 0
unfolding entries_in
begin D w o start =
    let all : 2 * D + 2 * 0 ≡ 2 * D = omega arith in
    record { bound = omega arith; near = omega arith; size = refl; toward = rw all (toward_all (pair_lines (entries_in D w)) o start) }

module _ {D : ℕ} {w o₀ o : List ℕ} {start place i : ℕ} (dense : Dense D w) (g : Pairing D w o₀ o start place i) where
  go_on : {o' : List ℕ} {a b next : ℕ} → i < D / 2 → a ≡ renamed D w (get_or w (2 * D + 2 * i) 0) → b ≡ renamed D w (get_or w (2 * D + (2 * i + 1)) 0)
      → Fitted o o' place next (pair_lines (a ∷ b ∷ [])) → Pairing D w o₀ o' start next (i + 1)
  go_on {o'} {a} {b} {next} more e f p =
      let fits = dense.room.fits in
      let short = pair_short a b in
      let second : 2 * D + 2 * i + 1 ≡ 2 * D + (2 * i + 1) = omega arith in
      let third : 2 * D + (2 * i + 1) + 1 ≡ 2 * D + 2 * (i + 1) = omega arith in
      let list : map (renamed D w) (part (2 * D + 2 * i) (3 * D) w) ≡ a ∷ b ∷ map (renamed D w) (part (2 * D + 2 * (i + 1)) (3 * D) w) =
      rw (
        part_cons (2 * D + 2 * i) (3 * D) w (omega arith) (omega arith),
        second,
        part_cons (2 * D + (2 * i + 1)) (3 * D) w (omega arith) (omega arith),
        third,
        ← e,
        ← f,
      ) in
      record {
        bound = omega arith;
        near = omega (arith, p.next, g.near);
        size = p.size ∙ g.size;
        toward = toward_on g.toward (ap pair_lines list ∙ pairs_on a b (map (renamed D w) (part (2 * D + 2 * (i + 1)) (3 * D) w))) p;
      }

  ended : D / 2 ≤ i → Fitted o₀ o start place (pair_lines (entries_in D w))
  unfolding pair_lines
  ended all =
      let even = dense.room.even in
      toward_end g.toward (rw (part_none (2 * D + 2 * i) (3 * D) w (omega arith)))

pub loop-i-init : goal.loop-i-init
loop-i-init c = begin _ _ _ _

pub loop-i-preserved : goal.loop-i-preserved
loop-i-preserved c =
    go_on c.requires.dense c.loop-i.invariant c.loop-i-test.true
    c.entry-a.ensures.0 c.entry-b.ensures.0
    c.put_pair-place.ensures

pub returns : goal.returns
returns c = ended c.requires.dense c.loop-i.invariant c.loop-i-test.false
