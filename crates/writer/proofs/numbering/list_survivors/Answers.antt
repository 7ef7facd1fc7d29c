-- `writer::numbering::list_survivors` meets its contract: with x turns of the loop done the survivors below x are listed.
--   Gathering D n w₀ w place x == that, with the place after the last one
use mathlib.Core.Bool.{true, false}
use mathlib.Core.List.{List, []}
use mathlib.Core.Path.{◌≡◌, refl, sym, ap, ◌∙◌}
use Prim.Native.Nat.{ℕ, ◌+◌, ◌*◌, ◌≤◌, ◌<◌}
use native.Mathlib.Numerals.{add-one}
use native.Mathlib.Omega.{arith}
use lib.ListN.{length, get_or, set, take}
use lib.Seq.{get_or-take}
use borrow.Author.Tests.{lt-ltb, le-ltb}
use Rattle.darts.specs.Map.{survives, live}
use Rattle.darts.specs.File.{survivors}
use Rattle.area.specs.Area.{prev, there, past_in}
use Rattle.engine.specs.Held.{Area}
use Rattle.engine.proofs.Area.{there_live}
use Rattle.slices.specs.Laid.{laid}
use Rattle.slices.proofs.Laid.{laid_front}
use Rattle.writer.proofs.Survivors.{survivors_yes, survivors_no}
use Rattle.writer.proofs.Fitted.{toward_all, toward_end, fitted_on, fitted_one}
use Rattle.writer.proofs.numbering.list_survivors.Invariants.{Gathering}
use Rattle.writer.proofs.numbering.list_survivors.Goals as goal
use Rattle.writer.proofs.numbering.list_survivors.Goals.{then-at-d, else-at-d}

begin : (D n : ℕ) (w : List ℕ) → Gathering D n w w (2 * D + 2 * n) 0
unfolding survivors
begin D n w = record { size = refl; bound = omega arith; near = omega arith; fitted = toward_end (toward_all [] w (2 * D + 2 * n)) refl }

module _ {D n : ℕ} {w₀ w : List ℕ} {place x : ℕ} (A : Area D n w₀) (g : Gathering D n w₀ w place x) where
  fits : 4 * D ≤ length w₀
  fits = A.room.fits

  few : 2 * n ≤ D
  few = omega (arith, A.few)

  inside : place ≤ length w₀
  inside = let a = g.near in let b = g.bound in let l = fits in let t = few in omega arith

  -- who survives stands where it stood
  read : x < D → get_or w (D + x) 0 ≡ prev D w₀ x
  unfolding prev
  read more =
      let front : take (2 * D) w ≡ take (2 * D) w₀ =
      ap (take (2 * D)) (g.fitted.slice inside)
      ∙ laid_front w₀ (2 * D + 2 * n) (survivors (past_in D n w₀) x) (record { fits = omega (arith, g.fitted.next, inside) }) (2 * D) (omega arith) in
      sym (get_or-take (2 * D) w (D + x) 0 (omega arith)) ∙ ap (λ (z : List ℕ). get_or z (D + x) 0) front ∙ get_or-take (2 * D) w₀ (D + x) 0 (omega arith)

  told : x < D → there D w₀ x ≡ survives (past_in D n w₀) x
  unfolding live
  told more = there_live A x more ∙ rw (lt-ltb x D more)

  module _ (more : x < D) {r : ℕ} (e : r ≡ get_or w (D + x) 0) where
    stays : r < D → survives (past_in D n w₀) x ≡ true
    unfolding there
    stays l = sym (told more) ∙ rw (← read more, ← e, lt-ltb r D l)

    is_gone : D ≤ r → survives (past_in D n w₀) x ≡ false
    unfolding there
    is_gone l = sym (told more) ∙ rw (← read more, ← e, le-ltb r D l)

    one_more : r < D → Gathering D n w₀ (set w place x) (place + 1) (x + 1)
    one_more l =
        let a = g.near in
        let z = g.size in
        let f = fits in
        let t = few in
        record {
          size = (fitted_one w place x (omega arith)).size ∙ g.size;
          bound = omega arith;
          near = omega arith;
          fitted = rw (add-one x, survivors_yes (past_in D n w₀) x (stays l)) (fitted_on g.fitted (fitted_one w place x (omega arith)));
        }

    none_more : D ≤ r → Gathering D n w₀ w place (x + 1)
    none_more l =
        let a = g.near in
        record { size = g.size; bound = omega arith; near = omega arith; fitted = rw (add-one x, survivors_no (past_in D n w₀) x (is_gone l)) g.fitted }

  ended : D ≤ x → w ≡ laid w₀ (2 * D + 2 * n) (survivors (past_in D n w₀) D)
  ended all =
      let e : x ≡ D = omega (arith, g.bound) in
      g.fitted.slice inside ∙ ap (λ (m : ℕ). laid w₀ (2 * D + 2 * n) (survivors (past_in D n w₀) m)) e

pub loop-x-init : goal.loop-x-init
loop-x-init c = begin _ _ _

pub loop-x-preserved : goal.loop-x-preserved
loop-x-preserved c =
    let more = c.loop-x-test.true in
    elim c.if-at-d.branch [
      | then-at-d w ↦ rw (w.work-is, w.place-is) (one_more c.requires c.loop-x.invariant more c.at.ensures w.if-at-d.true)
      | else-at-d w ↦ rw (w.work-is, w.place-is) (none_more c.requires c.loop-x.invariant more c.at.ensures w.if-at-d.false)
    ]

pub shape_of-work : goal.shape_of-work
shape_of-work c = c.loop-x.invariant.size

pub returns : goal.returns
returns c = ended c.requires c.loop-x.invariant (omega arith)
