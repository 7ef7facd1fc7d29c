-- The refusals of a step: answers other than 0, with the second place 0.
--   Refusing P r == the result r is no refusal, or P holds of its answer
--   refusing_reduce, refusing_sweep, refusing_undo, refusing_unfold == so it is with the four steps of a pyramid, for every P that holds of those answers
--   Earnest r    == the result r is no refusal with number 0
--   earnest_reduce, earnest_sweep, earnest_undo, earnest_unfold == so it is with the four steps
use mathlib.Core.Bool.{Bool, true, false}
use mathlib.Core.List.{List}
use mathlib.Core.Logic.{◌≢◌}
use Prim.Native.Nat.{ℕ, zero, suc, ◌-◌}
use native.Mathlib.Omega.{arith}
use lib.Dec.{eqb, leb, ltb}
use lib.ListN.{length}
use Rattle.darts.specs.Answers.{Answer, answered}
use Rattle.std.proofs.Common.{if◌then◌else◌}
use Rattle.darts.specs.Operation.{Kind}
use Rattle.darts.specs.Kernel.{Run, stands, stops}
use Rattle.darts.specs.State.{State, Result, gives, refuses, and_then, levelled, reduce}
use Rattle.darts.specs.Levels.{sweep, undo_level, undo_levels, unfold_to}
use Rattle.laws.proofs.runs.Stops.{Stopping, run_stops, swept_stands}

abbrev pub Refusing : (Answer → Type 0) → Result → Type 0
Refusing P (gives z u new) = Unit {0}
Refusing P (refuses a) = P a

pub refusing_if : (P : Answer → Type 0) (b : Bool) (x y : Result) → Refusing P x → Refusing P y → Refusing P (if b then x else y)
refusing_if P true x y h k = h
refusing_if P false x y h k = k

module _ (P : Answer → Type 0) (some : (n p : ℕ) → n ≢ 0 → P (answered n p)) where
  pub refusing_levelled : (s : State) (past : List ℕ) (r : Run) → Stopping P r → Refusing P (levelled s past r)
  unfolding levelled
  refusing_levelled s past (stands t new) h = refusing_if P (eqb (length new) (length past)) _ _ (some 5 0 (λ e. omega arith)) tt
  refusing_levelled s past (stops a) h = h

  pub refusing_reduce : (k : Kind) (es : List ℕ) (s : State) (t past : List ℕ) → Refusing P (reduce k es s t past)
  unfolding reduce
  refusing_reduce k es s t past =
      refusing_if P (leb 64 s.levels) _ _ (some 6 0 (λ e. omega arith))
      (refusing_levelled s past _ (run_stops P (λ m i l h. some m i (λ e. omega arith)) k s.darts t past es))

  pub refusing_sweep : (s : State) (t past : List ℕ) → Refusing P (sweep s t past)
  unfolding sweep
  refusing_sweep s t past =
      refusing_if P (leb 64 s.levels) _ _ (some 6 0 (λ e. omega arith)) (refusing_levelled s past _ (swept_stands P s.darts t past))

  pub refusing_undo : (s : State) (t past : List ℕ) → Refusing P (undo_level s t past)
  unfolding undo_level
  refusing_undo s t past = refusing_if P (eqb s.levels 0) _ _ (some 12 0 (λ e. omega arith)) tt

  refusing_then : (r : Result) (f : State → List ℕ → List ℕ → Result) → Refusing P r → ((s : State) (t past : List ℕ) → Refusing P (f s t past))
      → Refusing P (and_then r f)
  refusing_then (gives s t past) f h k = k s t past
  refusing_then (refuses a) f h k = h

  refusing_undos : (n : ℕ) (s : State) (t past : List ℕ) → Refusing P (undo_levels n s t past)
  unfolding undo_levels
  refusing_undos zero s t past = tt
  refusing_undos (suc n) s t past = refusing_then (undo_level s t past) (undo_levels n) (refusing_undo s t past) (refusing_undos n)

  pub refusing_unfold : (k : ℕ) (s : State) (t past : List ℕ) → Refusing P (unfold_to k s t past)
  unfolding unfold_to
  refusing_unfold k s t past =
      refusing_if P (ltb s.levels k) _ _ (some 12 s.levels (λ e. omega arith)) (refusing_undos (s.levels - k) s t past)

-- ---- a step that refuses does not say 0

abbrev NotDone : Answer → Type 0
NotDone a = a.number ≢ 0

abbrev pub Earnest : Result → Type 0
Earnest = Refusing NotDone

pub earnest_reduce : (k : Kind) (es : List ℕ) (s : State) (t past : List ℕ) → Earnest (reduce k es s t past)
earnest_reduce = refusing_reduce NotDone (λ n p h. h)

pub earnest_sweep : (s : State) (t past : List ℕ) → Earnest (sweep s t past)
earnest_sweep = refusing_sweep NotDone (λ n p h. h)

pub earnest_undo : (s : State) (t past : List ℕ) → Earnest (undo_level s t past)
earnest_undo = refusing_undo NotDone (λ n p h. h)

pub earnest_unfold : (k : ℕ) (s : State) (t past : List ℕ) → Earnest (unfold_to k s t past)
earnest_unfold = refusing_unfold NotDone (λ n p h. h)
