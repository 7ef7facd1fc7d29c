-- Unfold between the judging and the store, and undo as unfold.
--   plain_unfold    == unfold is not refused by 1 or 2
--   no_level_above  == there is no level k above the top
--   unfold_stepped  == down to level k in the work area is unfold's own step
--   store_fits      == what is stored then fits the lent slices
--   undo_by_unfold  == undo is unfold to the level below
use mathlib.Core.List.{List}
use mathlib.Core.Path.{◌≡◌, refl, sym, ap, ap₂, ◌∙◌}
use mathlib.Core.Bool.{Bool, true, false}
use Prim.Native.Nat.{ℕ, zero, suc, ◌-◌, ◌≤◌, ◌<◌}
use native.Mathlib.Omega.{arith}
use borrow.Author.Tests.{lt-ltb, le-ltb}
use lib.Dec.{eqb, ltb}
use lib.ListN.{length}
use Rattle.permutations.specs.Choice.{pick}
use Rattle.darts.specs.Answers.{Answer, no_level}
use Rattle.std.proofs.Common.{if◌then◌else◌}
use Rattle.darts.specs.State.{State, counted, Result, gives, refuses, and_then}
use Rattle.darts.specs.Levels.{undo_level, undo_levels, unfold_to}
use Rattle.darts.specs.Calls.{table_of, past_of, on_state, undo_by, unfold_by}
use Rattle.laws.proofs.runs.Pyramids.{pyramid_built}
use Rattle.laws.proofs.runs.Undo.{undo_is_unfold}
use Rattle.area.specs.Area.{Room, table_in, past_in}
use Rattle.pyramid.specs.Steps.{state_in, Judged, Unfolded}
use Rattle.pyramid.proofs.Judges.{counted_same, lent_of}
use Rattle.pyramid.proofs.OnState.{Plain}

plain_then : (b : Bool) (a : Answer) (z : State) (t past : List ℕ) (f : State → List ℕ → List ℕ → Result)
    → Plain (refuses a) → Plain (f z t past) → Plain (and_then (if b then refuses a else gives z t past) f)
plain_then true a z t past f p q = p
plain_then false a z t past f p q = q

plain_undos : (n : ℕ) (s : State) (t past : List ℕ) → Plain (undo_levels n s t past)
unfolding undo_levels undo_level
plain_undos zero s t past = tt
plain_undos (suc n) s t past = plain_then (eqb s.levels 0) (no_level 0) _ _ _ (undo_levels n) (λ z. omega arith, λ z. omega arith) (plain_undos n _ _ _)

pub plain_unfold : (k : ℕ) (s : State) (t past : List ℕ) → Plain (unfold_to k s t past)
unfolding unfold_to
plain_unfold k s t past = go (ltb s.levels k) refl
  where
    go : (b : Bool) → ltb s.levels k ≡ b → Plain (unfold_to k s t past)
    go true e = rw e (λ z. omega arith, λ z. omega arith)
    go false e = rw e (plain_undos (s.levels - k) s t past)

pub no_level_above : (k : ℕ) (s : State) (t past : List ℕ) → s.levels < k → unfold_to k s t past ≡ refuses (no_level s.levels)
unfolding unfold_to
no_level_above k s t past h = rw (lt-ltb s.levels k h)

module _ {s : State} {j : ℕ} {t h w v : List ℕ} {a : Answer} (J : Judged s j t h w v a) (fine : a.number ≡ 0) where
  pub unfold_stepped : {k : ℕ} {z : State} {u : List ℕ} → k ≤ s.levels → Unfolded k s z v u
      → unfold_to k s (table_of s t) (past_of s h) ≡ gives (state_in z u) (table_in s.darts u) (past_in s.darts z.operations u)
  unfolding unfold_to
  unfold_stepped {k} {z} {u} l U =
      let C = J.checked fine in
      let n : ℕ = s.levels - k in
      let same : counted s (table_of s t) (past_of s h) ≡ s = counted_same (pyramid_built (lent_of J fine).pyramid).stored in
      rw (le-ltb s.levels k l)
      (ap (λ (y : State). undo_levels n y (table_of s t) (past_of s h)) (sym same)
      ∙ ap₂ (λ (u past : List ℕ). undo_levels n (counted s u past) u past) (sym (C.table refl)) (sym (C.past refl)) ∙ U.step
      ∙ ap (λ (d : ℕ). gives (state_in z u) (table_in d u) (past_in d z.operations u)) U.darts)

  pub store_fits : {k : ℕ} {z : State} {u : List ℕ} → Unfolded k s z v u
      → Room s.darts u × ((z.operations ≤ s.darts) × (s.darts ≤ length t) × (z.operations ≤ length h))
  store_fits U =
      let l = (lent_of J fine).lengths in
      let f = U.stacked.area.few in
      (rw U.darts at U.stacked.area.room, (omega (arith, f, U.darts), l.table, omega (arith, f, U.darts, l.history)))

pub undo_by_unfold : {k : ℕ} (s : State) (t h w : List ℕ) → k ≡ pick (eqb s.levels 0) 1 (s.levels - 1) → unfold_by k s t h w ≡ undo_by s t h w
unfolding unfold_by undo_by on_state
undo_by_unfold s t h w e = rw (e, ← (undo_is_unfold s (table_of s t) (past_of s h)))
