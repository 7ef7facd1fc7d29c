-- `file_lines::scan::word` meets its contract: what is looked for from the word's start is what is looked for from its byte i on. A byte of the word is
-- below 256, so a place where it stands is inside the file, and the place after it is a number of the machine.
use mathlib.Core.Path.{sym, ◌∙◌}
use Prim.Native.Nat.{◌<◌}
use native.Mathlib.Omega.{arith}
use lib.ListN.{get_or}
use borrow.Author.Rules.{rules}
use Rattle.std.proofs.lemmas.Bool.{not-false, not-true}
use Rattle.file_lines.proofs.Byte.{byte_same, byte_other, byte_inside}
use Rattle.file_lines.proofs.Word.{word_differs, word_agrees, word_ends}
use Rattle.file_lines.proofs.scan.word.Goals as goal

pub returns-then-ne : goal.returns-then-ne
returns-then-ne c =
    let byte : get_or c.args.w.now c.loop-c.c-index 0 < 256 = search rules in
    let other = byte_other c.byte_at.result byte c.byte_at.ensures (not-true _ (sym c.if-ne.ensures)) in
    sym (c.loop-c.invariant ∙ word_differs c.args.w.now c.args.bytes.now c.loop-c.c-index c.loop-c.place (omega arith) other)

pub overflow_add-place : goal.overflow_add-place
overflow_add-place c =
    let byte : get_or c.args.w.now c.loop-c.c-index 0 < 256 = search rules in
    let same = byte_same c.byte_at.result c.byte_at.ensures (not-false _ (sym c.if-ne.ensures)) in
    let inside = byte_inside c.args.bytes.now c.loop-c.place (omega arith) in
    omega arith

pub loop-c-preserved : goal.loop-c-preserved
loop-c-preserved c =
    let same = byte_same c.byte_at.result c.byte_at.ensures (not-false _ (sym c.if-ne.ensures)) in
    c.loop-c.invariant ∙ word_agrees c.args.w.now c.args.bytes.now c.loop-c.c-index c.loop-c.place (omega arith) same

pub returns : goal.returns
returns c = sym (c.loop-c.invariant ∙ word_ends c.args.w.now _ _ _ (omega arith))
