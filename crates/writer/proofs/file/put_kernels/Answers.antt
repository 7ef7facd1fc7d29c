-- `writer::file::put_kernels` meets its contract: the lines that are written, and then those of the levels that are left, are the lines of all.
--   Cutting ends hs o₀ o start place from i == from o₀ to o the lines of the first i levels were written; they end at the operation count `from`
use mathlib.Core.List.{List, ◌++◌}
use mathlib.Core.Path.{◌≡◌, refl, ◌∙◌}
use Prim.Native.Nat.{ℕ, ◌+◌, ◌-◌, ◌≤◌, ◌<◌}
use native.Mathlib.Nat.{add-zero}
use native.Mathlib.Omega.{arith}
use lib.Dec.{T}
use lib.ListN.{length, get_or, drop, length-drop, drop_of_length-le}
use lib.Seq.{drop-drop, get_or-drop}
use Rattle.std.proofs.lemmas.List.{drop_more}
use Rattle.darts.proofs.Bits.{number_kind}
use Rattle.darts.specs.Kinds.{kind_is}
use Rattle.darts.specs.Operation.{kind_of}
use Rattle.darts.specs.declared.Kind.{Kind}
use Rattle.darts.specs.Tests.{rises}
use Rattle.darts.specs.Pyramid.{cut}
use Rattle.darts.specs.File.{kernel_lines}
use Rattle.laws.proofs.tests.Shape.{rises_iff}
use Rattle.writer.specs.Fields.{Fitted, count_line}
use Rattle.writer.proofs.Lengths.{count_short}
use Rattle.writer.proofs.Fitted.{toward_all, toward_on, toward_end}
use Rattle.writer.proofs.CutLines.{cut_none, cut_on}
use Rattle.writer.proofs.file.put_kernels.Invariants.{Cutting}
use Rattle.writer.proofs.file.put_kernels.Goals as goal

module _ {ends hs o₀ o : List ℕ} {start place from i : ℕ} (g : Cutting ends hs o₀ o start place from i) where
  module _ (more : i < length ends) where
    abbrev end : ℕ
    end = get_or ends i 0

    abbrev later : List ℕ
    later = drop (i + 1) ends

    level : (from < end) × ((end - from ≤ length (drop from hs)) × T (rises end later (drop (end - from) (drop from hs))))
    level =
        let (above, (inside, (one, rest))) = (rises_iff from end later (drop from hs)).0 (rw (drop_more ends i 0 more) at g.rise) in
        (above, (inside, rest))

    within : (from < end) × (end ≤ length hs)
    within = let (above, (inside, rest)) = level in let n = length-drop from hs in (above, omega arith)

    onward : drop (end - from) (drop from hs) ≡ drop end hs
    onward = let (above, inside) = within in let e : from + (end - from) ≡ end = omega arith in drop-drop (end - from) from hs ∙ rw e

    go_on : {o' : List ℕ} (kind : Kind) {next : ℕ} → kind_of (get_or hs from 0) ≡ kind_is kind → Fitted o o' place next (count_line (kind_is kind) (end - from))
        → Cutting ends hs o₀ o' start next end (i + 1)
    go_on {o'} kind {next} e p =
        let (above, (inside, rest)) = level in
        let short = count_short (kind_is kind) (end - from) in
        let first : get_or (drop from hs) 0 0 ≡ get_or hs from 0 = rw (get_or-drop from hs 0 0, add-zero from) in
        let line : kernel_lines (cut from (drop i ends) (drop from hs))
        ≡ count_line (kind_is kind) (end - from) ++ kernel_lines (cut end later (drop end hs)) =
        rw (drop_more ends i 0 more, cut_on from end later (drop from hs) above inside, first, e, onward) in
        record {
          near = omega (arith, p.next, g.near);
          size = p.size ∙ g.size;
          rise = rw onward at rest;
          toward = toward_on g.toward line p;
        }

  ended : length ends ≤ i → Fitted o₀ o start place (kernel_lines (cut 0 ends hs))
  ended all = toward_end g.toward (rw (drop_of_length-le ends all) (cut_none from (drop from hs)))

pub loop-end-init : goal.loop-end-init
loop-end-init c = record { near = omega arith; size = refl; rise = c.requires.t; toward = toward_all _ _ _ }

pub at-requires : goal.at-requires
at-requires c = let w = within c.loop-end.invariant (omega arith) in omega (arith, w)

pub overflow_sub-to : goal.overflow_sub-to
overflow_sub-to c = let w = within c.loop-end.invariant (omega arith) in omega (arith, w)

pub put_kernel-place-requires : goal.put_kernel-place-requires
put_kernel-place-requires c =
    let w = within c.loop-end.invariant (omega arith) in
    (omega (arith, w), omega (arith, c.loop-end.invariant.near))

pub loop-end-preserved : goal.loop-end-preserved
loop-end-preserved c =
    let kind = rw c.at.ensures at (number_kind c.from-kind.result c.at.result c.from-kind.ensures) in
    go_on c.loop-end.invariant (omega arith) c.from-kind.result kind c.put_kernel-place.ensures

pub returns : goal.returns
returns c =
    let g = c.loop-end.invariant in
    record { fitted = ended g (omega arith); upper_bound = omega (arith, g.near) }
