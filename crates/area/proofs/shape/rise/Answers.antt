-- `area::shape::rise` meets its contract: whether the ends rise is whether those from the i-th on rise from the last end that was passed.
--
--   Rising D n w ends from i == that, with the bounds
--   rise_low, rise_high      == an end that is not above the last one, or is past the operations: no
--   rise_mixed               == two kinds inside a level: no
--   rise_on                  == one level more
--   rise_end                 == all are passed: the last end is to be the number of operations
use mathlib.Core.Bool.{true, false}
use mathlib.Core.List.{List, [], ◌∷◌}
use mathlib.Core.Logic.{by_cases}
use mathlib.Core.Path.{◌≡◌, sym, ◌∙◌}
use Prim.Native.Nat.{ℕ, ◌+◌, ◌-◌, ◌*◌, ◌≤◌, ◌<◌}
use native.Mathlib.Decide.{ℕ_discrete}
use native.Mathlib.Numerals.{add-one}
use native.Mathlib.Omega.{arith}
use lib.Dec.{eqb}
use lib.ListN.{length, get_or, take, drop, length-drop, drop_of_length-le}
use lib.Seq.{drop-cons, drop-drop}
use borrow.Author.Tests.{lt-ltb, le-ltb, le-leb, lt-leb}
use Rattle.permutations.specs.Choice.{eqb_same, eqb_other}
use Rattle.darts.specs.Tests.{one_kind, rises}
use Rattle.slices.specs.Part.{part}
use Rattle.slices.proofs.Part.{part_length}
use Rattle.area.specs.Shape.{history_in}
use Rattle.area.proofs.Parts.{part_inner}
use Rattle.area.proofs.shape.rise.Invariants.{Rising}
use Rattle.area.proofs.shape.rise.Goals as goal

module _ {D n : ℕ} {w ends : List ℕ} {from i : ℕ} (k : Rising D n w ends from i) where
  abbrev past : List ℕ
  past = history_in D n w

  past_length : length past ≡ n
  past_length = part_length (3 * D) (3 * D + n) w k.room ∙ omega arith

  module _ (more : i < length ends) where
    abbrev end : ℕ
    end = get_or ends i 0

    ends_on : drop i ends ≡ end ∷ drop (i + 1) ends
    ends_on = drop-cons ends i 0 more ∙ rw (add-one i)

    rise_low : end ≤ from → false ≡ rises 0 ends past
    unfolding rises
    rise_low low = sym (k.same ∙ rw (ends_on, le-ltb from end low))

    module _ (above : from < end) where
      rise_high : n < end → false ≡ rises 0 ends past
      unfolding rises
      rise_high high =
          let size = past_length in
          let far : length (drop from past) < end - from = simp length-drop (omega arith) in
          sym (k.same ∙ rw (ends_on, lt-ltb from end above, lt-leb (end - from) (length (drop from past)) far))

      module _ (inside : end ≤ n) where
        near : end - from ≤ length (drop from past)
        near = let size = past_length in simp length-drop (omega arith)

        level : take (end - from) (drop from past) ≡ part (3 * D + from) (3 * D + end) w
        level = part_inner (3 * D) (3 * D + n) from end w (omega arith) k.room

        rise_mixed : false ≡ one_kind (part (3 * D + from) (3 * D + end) w) → false ≡ rises 0 ends past
        unfolding rises
        rise_mixed two =
            sym (k.same ∙ rw (ends_on, lt-ltb from end above, le-leb (end - from) (length (drop from past)) near, level, ← two))

        rise_on : true ≡ one_kind (part (3 * D + from) (3 * D + end) w) → Rising D n w ends end (i + 1)
        unfolding rises
        rise_on one =
            let next : from + (end - from) ≡ end = omega arith in
            record {
              room = k.room;
              upto = inside;
              same =
                  k.same
                  ∙ rw (ends_on, lt-ltb from end above, le-leb (end - from) (length (drop from past)) near, level)
                  (rw (← one, drop-drop (end - from) from past, next));
            }

  module _ (done : length ends ≤ i) where
    no_more : drop i ends ≡ []
    no_more = drop_of_length-le ends done

    rise_end : eqb from n ≡ rises 0 ends past
    unfolding rises
    rise_end =
        let size = past_length in
        by_cases (ℕ_discrete from n)
        (λ e. let over : length past ≤ from = omega arith in
        eqb_same e ∙ sym (k.same ∙ rw (no_more, drop_of_length-le past over)))
        (λ m. let under : from < length past = omega arith in
        eqb_other m ∙ sym (k.same ∙ rw (no_more, drop-cons past from 0 under)))

pub returns-then-end-from : goal.returns-then-end-from
returns-then-end-from c = rise_low c.loop-end.invariant c.loop-end-test.true c.if-end-from.true

pub returns-then-state-end : goal.returns-then-state-end
returns-then-state-end c = rise_high c.loop-end.invariant c.loop-end-test.true c.if-end-from.false c.if-state-end.true

pub loop-end-preserved : goal.loop-end-preserved
loop-end-preserved c =
    rise_on c.loop-end.invariant c.loop-end-test.true c.if-end-from.false c.if-state-end.false
    (sym c.if-not-one_kind.false ∙ c.one_kind.ensures)

pub returns-then-not-one_kind : goal.returns-then-not-one_kind
returns-then-not-one_kind c =
    rise_mixed c.loop-end.invariant c.loop-end-test.true c.if-end-from.false c.if-state-end.false
    (sym c.if-not-one_kind.true ∙ c.one_kind.ensures)

pub returns : goal.returns
returns c = rise_end c.loop-end.invariant c.loop-end-test.false
