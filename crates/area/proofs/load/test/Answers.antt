-- `area::load::test` meets its contract: what is to be linked from a dart on, in the work area as it is, is what was to be linked from the start.
--
--   Linking D n w₀ w x == that
--   link_on            == x is noted, or is gone
--   link_stops         == x cannot be noted
--   link_end           == all are
use mathlib.Core.Bool.{Bool, true, false}
use mathlib.Core.List.{List}
use mathlib.Core.Path.{◌≡◌, refl, sym, ap, ◌∙◌}
use Prim.Native.Nat.{ℕ, suc, ◌+◌, ◌-◌, ◌≤◌, ◌<◌}
use native.Mathlib.Numerals.{add-one}
use native.Mathlib.Omega.{arith}
use Rattle.darts.specs.Map.{permutes, culprits}
use Rattle.area.specs.Verdicts.{said}
use Rattle.area.specs.Load.{beside_in, links}
use Rattle.area.proofs.Noting.{Noted, noted}
use Rattle.area.proofs.load.test.Invariants.{Linking}
use Rattle.area.proofs.load.test.Goals as goal

module _ {D n : ℕ} {w₀ w : List ℕ} {x : ℕ} (k : Linking D n w₀ w x) where
  module _ (more : x < D) {r : Bool} {v : List ℕ} (N : Noted D n w x r v) where
    here : links D n w₀ 0 D ≡ links D n w x (suc (D - (x + 1)))
    here = k.same ∙ ap (links D n w x) (omega arith)

    link_on : r ≡ true → Linking D n w₀ v (x + 1)
    link_on e = record { size = N.size ∙ k.size; same = here ∙ N.on e (D - (x + 1)) ∙ rw (add-one x) refl }

    link_stops : r ≡ false → {b : ℕ} → b ≡ beside_in D v x → said (culprits x b) v ≡ links D n w₀ 0 D
    link_stops e b = rw b (sym (here ∙ N.stop e (D - (x + 1))))

  link_end : D ≤ x → said permutes w ≡ links D n w₀ 0 D
  unfolding links
  link_end l = let e : D - x ≡ 0 = omega arith in sym (k.same ∙ rw e)

pub returns-then-not-note : goal.returns-then-not-note
returns-then-not-note c =
    link_stops c.loop-dart.invariant c.loop-dart-test.true (noted _ _ _ _ c.note.ensures) c.if-not-note.true c.beside-beside.ensures

pub loop-dart-preserved : goal.loop-dart-preserved
loop-dart-preserved c = link_on c.loop-dart.invariant c.loop-dart-test.true (noted _ _ _ _ c.note.ensures) c.if-not-note.false

pub returns : goal.returns
returns c = link_end c.loop-dart.invariant c.loop-dart-test.false
