-- `area::load::mark` meets its contract: what is to be marked from place i on, in the work area as it is, is what was to be marked from the start.
--
--   Marking D n w₀ w i == that, with the bounds
--   mark_large         == a number of no dart: no
--   mark_twice         == an edge that is marked already: no
--   mark_on            == one edge more
--   mark_end           == all are marked: yes
use mathlib.Core.Bool.{true, false}
use mathlib.Core.List.{List}
use mathlib.Core.Logic.{◌≢◌}
use mathlib.Core.Path.{◌≡◌, sym, ◌∙◌}
use Prim.Native.Nat.{ℕ, suc, ◌+◌, ◌-◌, ◌*◌, ◌/◌, ◌≤◌, ◌<◌}
use native.Mathlib.Numerals.{add-one}
use native.Mathlib.Omega.{arith}
use lib.ListN.{get_or, set, length-set}
use borrow.Author.Rules.{rules}
use borrow.Author.Tests.{eq-eqb, ne_eqb, le-leb, lt-leb}
use Rattle.permutations.proofs.PartnerLemmas.{partner_first}
use Rattle.area.specs.Area.{prev, stamp, tried}
use Rattle.area.specs.Load.{marks}
use Rattle.area.proofs.load.mark.Invariants.{Marking}
use Rattle.area.proofs.load.mark.Goals as goal

module _ {D n : ℕ} {w₀ w : List ℕ} {i : ℕ} (m : Marking D n w₀ w i) where
  module _ {h : ℕ} (more : i < n) (here : h ≡ get_or w (3 * D + i) 0) where
    left : n - i ≡ suc (n - (i + 1))
    left = omega arith

    mark_large : 2 * D ≤ h → tried false w ≡ marks D w₀ 0 n
    unfolding marks stamp
    mark_large l = sym (m.same ∙ rw (left, ← here, le-leb (2 * D) h l))

    mark_twice : h < 2 * D → get_or w (D + 2 * (h / 4)) 0 ≢ D + 1 → tried false w ≡ marks D w₀ 0 n
    unfolding marks stamp prev
    mark_twice l o = sym (m.same ∙ rw (left, ← here, lt-leb (2 * D) h l, ne_eqb (get_or w (D + 2 * (h / 4)) 0) (D + 1) o))

    mark_on : h < 2 * D → get_or w (D + 2 * (h / 4)) 0 ≡ D + 1 → {q : ℕ} → q ≡ 2 * (h / 4) + 1
        → Marking D n w₀ (set (set w (D + 2 * (h / 4)) D) (D + q) D) (i + 1)
    unfolding marks stamp prev
    mark_on l o odd =
        record {
          size = simp length-set m.size;
          bound = omega arith;
          same = m.same ∙ rw (left, ← here, lt-leb (2 * D) h l, eq-eqb (get_or w (D + 2 * (h / 4)) 0) (D + 1) o, odd, add-one i);
        }

  mark_end : n ≤ i → tried true w ≡ marks D w₀ 0 n
  unfolding marks
  mark_end l = let e : n - i ≡ 0 = omega arith in sym (m.same ∙ rw e)

pub returns-then-d-h : goal.returns-then-d-h
returns-then-d-h c = mark_large c.loop-i.invariant c.loop-i-test.true c.at-h.ensures c.if-d-h.true

pub returns-then-at-d : goal.returns-then-at-d
returns-then-at-d c =
    let m = c.loop-i.invariant in
    let h = c.at-h.ensures in
    mark_twice m c.loop-i-test.true h c.if-d-h.false (λ e. c.if-at-d.true (c.at.ensures ∙ e))

pub overflow_add-work-in-loop-i : goal.overflow_add-work-in-loop-i
overflow_add-work-in-loop-i c = let q = c.partner-q.ensures ∙ partner_first _ in search rules

pub offset_bounds-work-d-in-loop-i : goal.offset_bounds-work-d-in-loop-i
offset_bounds-work-d-in-loop-i c = let q = c.partner-q.ensures ∙ partner_first _ in search rules

pub bounds-work-d-in-loop-i : goal.bounds-work-d-in-loop-i
bounds-work-d-in-loop-i c = simp length-set (omega (arith, c.partner-q.ensures ∙ partner_first _))

pub loop-i-preserved : goal.loop-i-preserved
loop-i-preserved c =
    let m = c.loop-i.invariant in
    let h = c.at-h.ensures in
    mark_on m c.loop-i-test.true h c.if-d-h.false (sym c.at.ensures ∙ c.if-at-d.false) (c.partner-q.ensures ∙ partner_first _)

pub returns : goal.returns
returns c = mark_end c.loop-i.invariant c.loop-i-test.false
