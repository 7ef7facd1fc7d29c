-- `noting::note::mark` meets its contract: place by place, and each reads only the forest's part.
--   Marking D w₀ w x == the first x places are marked, and nothing past the darts has changed
--   mark_begin, mark_on, mark_end == none is marked, one more, all
use mathlib.Core.List.{List}
use mathlib.Core.Logic.{◌≢◌}
use mathlib.Core.Path.{◌≡◌, refl, sym, ap, ◌∙◌}
use Prim.Native.Nat.{ℕ, ◌+◌, ◌*◌, ◌≤◌, ◌<◌}
use native.Mathlib.Decide.{ℕ_discrete}
use native.Mathlib.Omega.{arith}
use lib.Dec.{eqb}
use lib.ListN.{get_or, set, length-set}
use lib.Seq.{get_or-set_same, get_or-set_other, get_or-drop, drop-set-lt}
use Rattle.permutations.specs.Choice.{pick, eqb_same, eqb_other}
use Rattle.area.specs.Area.{Room}
use Rattle.noting.specs.Links.{Marked}
use Rattle.noting.proofs.note.mark.Invariants.{Marking}
use Rattle.noting.proofs.note.mark.Goals as goal
use Rattle.noting.proofs.note.mark.Goals.{then-at-x, else-at-x}

mark_begin : (D : ℕ) (w : List ℕ) → Marking D w w 0
mark_begin D w = record { size = refl; bound = omega arith; rest = refl; each = λ y h. absurd (omega arith) }

module _ {D : ℕ} {w₀ w : List ℕ} {x : ℕ} (room : Room D w₀) (M : Marking D w₀ w x) (more : x < D) where
  -- what is read is what stood there
  read : get_or w (2 * D + x) 0 ≡ get_or w₀ (2 * D + x) 0
  read =
      let e : 2 * D + x ≡ D + (D + x) = omega arith in
      rw e (sym (get_or-drop D w (D + x) 0) ∙ ap (λ l. get_or l (D + x) 0) M.rest ∙ get_or-drop D w₀ (D + x) 0)

  mark_on : (v : ℕ) → v ≡ pick (eqb (get_or w₀ (2 * D + x) 0) x) 0 D → Marking D w₀ (set w x v) (x + 1)
  mark_on v e = record {
    size = length-set w x v ∙ M.size;
    bound = omega arith;
    rest = drop-set-lt D w x v more ∙ M.rest;
    each = λ y h. go y h (ℕ_discrete y x);
  }
    where
      go : (y : ℕ) → y < x + 1 → Dec (y ≡ x) → get_or (set w x v) y 0 ≡ pick (eqb (get_or w₀ (2 * D + y) 0) y) 0 D
      go y h (yes c) = rw c (get_or-set_same w x v 0 (omega (arith, M.size, room.fits)) ∙ e)
      go y h (no c) = get_or-set_other w x y v 0 c ∙ M.each y (omega arith)

  own : {r : ℕ} → r ≡ get_or w (2 * D + x) 0 → r ≡ x → Marking D w₀ (set w x 0) (x + 1)
  own told e = mark_on 0 (rw (eqb_same (sym read ∙ sym told ∙ e)))

  other : {r : ℕ} → r ≡ get_or w (2 * D + x) 0 → r ≢ x → Marking D w₀ (set w x D) (x + 1)
  other told n = mark_on D (rw (eqb_other (λ c. n (told ∙ read ∙ c))))

mark_end : {D : ℕ} {w₀ w : List ℕ} {x : ℕ} → Marking D w₀ w x → D ≤ x → Marked D w₀ w
mark_end M all = record { size = M.size; rest = M.rest; each = λ y h. M.each y (omega arith) }

pub loop-x-preserved : goal.loop-x-preserved
loop-x-preserved c = elim c.if-at-x.branch [
  | then-at-x w ↦ rw w.work-is (own c.requires c.loop-x.invariant c.loop-x-test.true c.at.ensures w.if-at-x.true)
  | else-at-x w ↦ rw w.work-is (other c.requires c.loop-x.invariant c.loop-x-test.true c.at.ensures w.if-at-x.false)
]
