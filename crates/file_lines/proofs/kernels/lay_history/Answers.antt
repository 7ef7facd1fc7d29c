-- `file_lines::kernels::lay_history` meets its contract: after some turns of the loop the numbers of the operations up to i are laid.
--   Laying h₀ h k from to i == h is the history h₀ with the numbers of the operations from `from` to i
use mathlib.Core.Path.{◌≡◌, refl, ◌∙◌}
use mathlib.Core.List.{List, [], ◌∷◌, ◌++◌}
use Prim.Native.Nat.{ℕ, suc, ◌+◌, ◌-◌, ◌*◌, ◌≤◌, ◌<◌}
use native.Mathlib.Omega.{arith}
use lib.ListN.{length, set, length-set}
use borrow.Author.Tests.{le-leb, lt-leb}
use Rattle.darts.specs.Operation.{Kind, number}
use Rattle.darts.specs.Read.{numbers_from}
use Rattle.slices.specs.Laid.{laid}
use Rattle.file_lines.specs.Kernels.{noted}
use Rattle.slices.proofs.Put.{put_none, put_one}
use Rattle.file_lines.proofs.KernelLines.{numbers_on, number_kind}
use Rattle.file_lines.proofs.kernels.lay_history.Invariants.{Laying}
use Rattle.file_lines.proofs.kernels.lay_history.Goals as goal

begin : (h : List ℕ) (k : Kind) (from to : ℕ) → from ≤ to → Laying h h k from to from
unfolding numbers_from
begin h k from to l =
    let none : from - from ≡ 0 = omega arith in
    record { low = omega arith; high = l; size = refl; put = rw none (put_none h from) }

module _ {h₀ h : List ℕ} {k : Kind} {from to i : ℕ} where
  go_on : {v : ℕ} → number k (2 * i) ≡ v → i < to → to ≤ length h₀ → Laying h₀ h k from to i → Laying h₀ (set h i v) k from to (i + 1)
  go_on {v} e more fits g =
      let one : i + 1 - from ≡ suc (i - from) = omega arith in
      let here : from + (i - from) ≡ i = omega arith in
      let on : numbers_from k from (suc (i - from)) ≡ numbers_from k from (i - from) ++ (v ∷ []) =
      numbers_on k from (i - from) ∙ rw (here, e) in
      record {
        low = omega arith;
        high = omega arith;
        size = length-set h i v ∙ g.size;
        put = rw (one, on) (put_one v (omega (arith, g.put.next)) g.put);
      }

ended : {h₀ h : List ℕ} {k : Kind} {from i : ℕ} (n : ℕ) → from + n ≤ i → Laying h₀ h k from (from + n) i → h ≡ laid h₀ from (numbers_from k from n)
ended {h₀} {h} {k} {from} {i} n all g = let whole : i - from ≡ n = omega arith in rw whole at g.put.slice

pub returns-then-room-to : goal.returns-then-room-to
unfolding noted
returns-then-room-to c = rw (lt-leb _ _ c.if-room-to.true)

pub loop-i-init : goal.loop-i-init
loop-i-init c = begin _ _ _ _ (omega arith)

pub loop-i-preserved : goal.loop-i-preserved
loop-i-preserved c =
    go_on (rw c.bit.ensures (number_kind c.args.kind c.loop-i.i)) c.loop-i-test.true (omega arith) c.loop-i.invariant

pub returns : goal.returns
unfolding noted
returns c = rw (le-leb _ _ c.if-room-to.false) (ended _ c.loop-i-test.false c.loop-i.invariant)
