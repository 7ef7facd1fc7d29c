-- From a pyramid's history to the one that a step leaves: operations are added, or the last ones are taken away.
--   Moves s t past new == so it is; and the operations that are added merge records of the base's places
--   Moving step        == so it is with whatever the step gives from a pyramid
--   pyramid_led        == the operations of a pyramid merge records of its base's places
--   reduce_moves, sweep_moves, undo_moves, unfold_moves == the four steps
use mathlib.Core.List.{List, [], ◌++◌, reverse}
use mathlib.Core.Path.{◌≡◌, sym, ap, ◌∙◌, subst, subst₂}
use Prim.Native.Nat.{ℕ, ◌+◌}
use native.Mathlib.Omega.{arith}
use lib.ListN.{length, length-reverse}
use Rattle.darts.specs.Operation.{Kind, removal, undone}
use Rattle.darts.specs.Kernel.{each}
use Rattle.darts.specs.State.{State, Result, gives, reduce}
use Rattle.darts.specs.Levels.{sweep, undo_level, unfold_to}
use Rattle.darts.specs.Pyramid.{Pyramid}
use Rattle.laws.specs.Standing.{Standing}
use Rattle.laws.proofs.runs.Operations.{told_longer, told_dropped}
use Rattle.laws.proofs.runs.Runs.{undone_more}
use Rattle.laws.proofs.runs.Reduces.{reduced}
use Rattle.laws.proofs.runs.Sweeps.{loops}
use Rattle.laws.proofs.runs.Pyramids.{pyramid_built, pyramid_sweep, reduce_pyramid}
use Rattle.laws.proofs.sentences.Steps.{reduce_adds, undo_lessens, unfold_lessens}
use Rattle.yarn.specs.Places.{lowest, is_place, merges}
use Rattle.yarn.specs.Calls.{base_of}
use Rattle.yarn.proofs.Settled.{Inside}
use Rattle.yarn.proofs.Apart.{Apart, base_standing, base_apart, pyramid_inside}
use Rattle.yarn.proofs.Merging.{Merging}
use Rattle.yarn.proofs.Untouched.{base_merging}
use Rattle.yarn.proofs.sentences.Carrying.{Led}

pub data Moves (s : State) (t past new : List ℕ) : Type 0 where
  more : (added : List ℕ) → new ≡ added ++ past → Led s.darts (base_of s t past) new → Moves s t past new
  fewer : (taken : List ℕ) → past ≡ taken ++ new → Moves s t past new

pub record Moving (step : State → List ℕ → List ℕ → Result) : Type 0 where
  pub moves : {s : State} {t past : List ℕ} {z : State} {u new : List ℕ} → Pyramid s t past → step s t past ≡ gives z u new → Moves s t past new

led : {D : ℕ} {b : List ℕ} → Standing D b [] → (past : List ℕ) → Inside D (reverse past) → Apart (lowest D b) (reverse past) → Led D b past
led {D} {b} S past inside apart =
    subst (λ n. Merging (is_place D b) (merges D b (reverse past)) D n) (length-reverse past) (base_merging S (reverse past) inside apart)

pub pyramid_led : {s : State} {t past : List ℕ} → Pyramid s t past → Led s.darts (base_of s t past) past
pyramid_led {past = past} P = led (base_standing P) past (pyramid_inside P) (base_apart P)

module _ {s : State} {t past : List ℕ} {z : State} {u new : List ℕ} (P : Pyramid s t past) (k : Kind) (es : List ℕ) (e : reduce k es s t past ≡ gives z u new) where
  -- the base stays what it was
  base_same : undone s.darts (length new) u new ≡ base_of s t past
  unfolding base_of
  base_same =
      let B = pyramid_built P in
      let R = reduced B.standing B.layered (record { kind = k; edges = es }) e in
      let n : length new ≡ length (each k es) + length past = omega (arith, told_longer R.ran.tells) in
      ap (λ m. undone s.darts m u new) n ∙ undone_more s.darts (length (each k es)) (length past) u new
      ∙ rw (R.ran.back, told_dropped R.ran.tells)

  reduce_more : Moves s t past new
  unfolding base_of
  reduce_more =
      let O = (reduce_adds k es).onto P e in
      let Q = reduce_pyramid P k es e in
      let same : base_of z u new ≡ base_of s t past = rw O.darts base_same in
      more O.more O.history
      (led (base_standing P) new (subst (λ D. Inside D (reverse new)) O.darts (pyramid_inside Q))
      (subst₂ (λ D b. Apart (lowest D b) (reverse new)) O.darts same (base_apart Q)))

pub reduce_moves : (k : Kind) (es : List ℕ) → Moving (reduce k es)
reduce_moves k es = record { moves = λ P e. reduce_more P k es e }

pub sweep_moves : Moving sweep
sweep_moves = record { moves = λ {s} {t} {past} P e. reduce_more P removal (loops s t past) (sym (pyramid_sweep P) ∙ e) }

pub undo_moves : Moving undo_level
undo_moves = record { moves = λ P e. let O = undo_lessens.onto P e in fewer O.more O.history }

pub unfold_moves : (k : ℕ) → Moving (unfold_to k)
unfold_moves k = record { moves = λ P e. let O = (unfold_lessens k).onto P e in fewer O.more O.history }
