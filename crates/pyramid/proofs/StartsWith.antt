-- The ways that a start with sheets ends.
--   says_first, says_three, says_unfit, says_done == the definition, by its cases
--   hands_none, hands_base == what is handed back: refused, and done
--   begin_bad   == 3: the table is no permutation
--   begin_fine  == it is one, and its records' places are labelled
--   start_first == 1 or 2: nothing is written
--   start_second == 3
--   unfit_asks  == else the records can be looked at
--   finish_asks == and the work area cleared
--   start_unfit == 16: a record is not fit
--   start_fit   == each is: a base
use mathlib.Core.List.{List, []}
use mathlib.Core.Logic.{◌≢◌}
use mathlib.Core.Path.{◌≡◌, refl, sym, ap, subst, ◌∙◌}
use Prim.Native.Nat.{ℕ, ◌*◌, ◌≤◌, ◌<◌}
use native.Mathlib.Omega.{arith}
use borrow.Author.Tests.{eq-eqb, ne_eqb}
use lib.ListN.{length, take}
use Rattle.std.specs.Prelude.{Ok, Err}
use Rattle.darts.specs.Answers.{Answer, done, no_permutation, unfit_record}
use Rattle.darts.specs.Cases.{refusal_of}
use Rattle.darts.specs.Map.{permutes, culprits, permutation_test}
use Rattle.darts.specs.State.{State, zeros, base_state}
use Rattle.darts.specs.Calls.{After, leaves, begins, cleared}
use Rattle.darts.specs.declared.Refusal.{Refusal}
use Rattle.darts.specs.declared.Refusal.TheVariants.{NoPermutation}
use Rattle.laws.proofs.calls.Cleared.{cleared_kept}
use Rattle.area.specs.Area.{Room}
use Rattle.area.specs.declared.Culprits.{Culprits}
use Rattle.engine.specs.Counted.{CyclesAre}
use Rattle.engine.specs.declared.Cycles.{Cycles}
use Rattle.engine.proofs.Area.{room_kept}
use Rattle.sheets.specs.Sheets.{Sheets}
use Rattle.sheets.specs.Notes.{unfit_in}
use Rattle.yarn.specs.Calls.{costed, fitting_of, first_unfit, begins_with, start_with}
use Rattle.noting.specs.Running.{Placed}
use Rattle.noting.proofs.Placed.{unfit_found, placed_own}
use Rattle.pyramid.specs.Costs.{costs}
use Rattle.pyramid.specs.Checking.{BeganWith}
use Rattle.pyramid.specs.Values.{base_with, left, Hands}
use Rattle.pyramid.specs.declared.Outcome.{Outcome}
use Rattle.pyramid.proofs.Sized.{fine_fits, fine_asks}
use Rattle.pyramid.proofs.Started.{hands, base_numbers}

-- ---- what the definition says

module _ (D : ℕ) (t h w : List ℕ) (S : Sheets) where
  says_first : {a : Answer} → a ≡ fitting_of D t h w S → a.number ≢ 0 → costed (leaves a zeros t h w) S ≡ start_with D t h w S
  unfolding start_with
  says_first {a} E n = rw (← E, ne_eqb a.number 0 n)

  module _ (fine : (fitting_of D t h w S).number ≡ 0) where
    says_three : {d c : ℕ} → culprits d c ≡ permutation_test D t
        → costed (leaves (no_permutation d c) zeros t h (cleared D w)) S ≡ start_with D t h w S
    unfolding start_with begins_with begins
    says_three b = rw (eq-eqb (fitting_of D t h w S).number 0 fine, ← b)

    module _ (base : permutes ≡ permutation_test D t) where
      says_unfit : first_unfit D t S ≢ D
          → costed (leaves (unfit_record (first_unfit D t S)) zeros t h (cleared D w)) S ≡ start_with D t h w S
      unfolding start_with begins_with
      says_unfit n = rw (eq-eqb (fitting_of D t h w S).number 0 fine, ← base, ne_eqb (first_unfit D t S) D n)

      says_done : first_unfit D t S ≡ D → costed (leaves done (base_state D (take D t)) t h (cleared D w)) S ≡ start_with D t h w S
      unfolding start_with begins_with begins
      says_done e = rw (eq-eqb (fitting_of D t h w S).number 0 fine, ← base, eq-eqb (first_unfit D t S) D e)

-- ---- what is handed back

module _ (D : ℕ) (t h w : List ℕ) (S : Sheets) where
  -- a start that leaves a state of zeros
  hands_none : {a : Answer} {v : List ℕ} → costed (leaves a zeros t h v) S ≡ start_with D t h w S → {o : Outcome} → Hands o a zeros
      → costed (left o t h v) S ≡ start_with D t h w S
  hands_none {v = v} E {o} H = ap (λ (b : After). costed b S) (hands o H t h v) ∙ E

  -- the base stores the numbers of its cycles
  hands_base : costed (leaves done (base_state D (take D t)) t h (cleared D w)) S ≡ start_with D t h w S → {x y : ℕ} → CyclesAre D (take D t) [] x y
      → {o : Outcome} → Hands o done (base_with D x y) → costed (left o t h (cleared D w)) S ≡ start_with D t h w S
  hands_base E N {o} H =
      ap (λ (b : After). costed b S)
      (hands o H t h (cleared D w) ∙ ap (λ (z : State). leaves done z t h (cleared D w)) (base_numbers D t h w N)) ∙ E

-- ---- beside the records

-- 3: the table is no permutation
pub begin_bad : {D : ℕ} {t w v : List ℕ} (c : Culprits) → Placed D t w v (Err c) → BeganWith D t w (cleared D v) (Err (NoPermutation c.dart c.beside))
begin_bad {D} {t} {w} {v} c P = record {
  refused = λ h S fine. rw (cleared_kept D w v P.beyond.rest) (says_three D t h w S fine P.verdict);
  placed = tt;
}

pub begin_fine : {D : ℕ} {t w v : List ℕ} (c : Cycles) → Placed D t w v (Ok c) → BeganWith D t w v (Ok c)
begin_fine c P = record { refused = tt; placed = P }

-- ---- the records

pub start_first : (D : ℕ) (t h w : List ℕ) (S : Sheets) {a : Answer} → a ≡ fitting_of D t h w S → a.number ≢ 0
    → {o : Outcome} → Hands o a zeros → costs o t h w S.sheet S.kept ≡ start_with D t h w S
start_first D t h w S E n {o} H = hands_none D t h w S (says_first D t h w S E n) H

module _ {D : ℕ} {t w : List ℕ} (h : List ℕ) (S : Sheets) (fine : (fitting_of D t h w S).number ≡ 0) where
  pub start_second : {v : List ℕ} (a : Refusal) → BeganWith D t w v (Err a) → {o : Outcome} → Hands o (refusal_of a) zeros
      → costs o t h v S.sheet S.kept ≡ start_with D t h w S
  start_second a K {o} H = hands_none D t h w S (K.refused h S fine) H

  module _ {v : List ℕ} (c : Cycles) (K : BeganWith D t w v (Ok c)) where
    pub finish_asks : Room D v
    finish_asks = room_kept w v K.placed.beyond.size (fine_asks D t h w S fine).0

    pub unfit_asks : (3 * D ≤ length v) × (D ≤ length S.sheet)
    unfit_asks = (omega (arith, finish_asks.fits), (fine_fits D t h w S fine).room.sheet)

    found : unfit_in D v (record { sheet = S.sheet; kept = [] }) D 0 ≡ first_unfit D t S
    found = unfit_found D t v (placed_own K.placed refl) S

    -- "16, by the start after 3"
    pub start_unfit : {x : ℕ} → (x < D) × (x ≡ unfit_in D v (record { sheet = S.sheet; kept = [] }) D 0)
        → {o : Outcome} {u : List ℕ} → Hands o (unfit_record x) zeros → u ≡ cleared D v → costs o t h u S.sheet S.kept ≡ start_with D t h w S
    start_unfit {x} (few, is) {o} H clears =
        let e : x ≡ first_unfit D t S = is ∙ found in
        rw (clears, cleared_kept D w v K.placed.beyond.rest)
        (hands_none D t h w S (says_unfit D t h w S fine K.placed.verdict (λ z. omega arith)) (subst (λ (n : ℕ). Hands o (unfit_record n) zeros) e H))

    pub start_fit : CyclesAre D (take D t) [] c.vertices c.faces → D ≡ unfit_in D v (record { sheet = S.sheet; kept = [] }) D 0
        → {o : Outcome} {u : List ℕ} → Hands o done (base_with D c.vertices c.faces) → u ≡ cleared D v
        → costs o t h u S.sheet S.kept ≡ start_with D t h w S
    start_fit N is {o} H clears =
        rw (clears, cleared_kept D w v K.placed.beyond.rest)
        (hands_base D t h w S (says_done D t h w S fine K.placed.verdict (sym (is ∙ found))) N H)
