-- `operations::back::take_back_last` meets its contract: what is left to take back, in the work area as it is, is what was to be taken back from the start.
--
--   Backing D n c w₀ w left == that, with the bounds
--   back_on                 == one operation fits
--   back_not                == one does not: no
--   back_end                == all are taken back: yes
use mathlib.Core.Bool.{Bool, true, false}
use mathlib.Core.List.{List}
use mathlib.Core.Path.{◌≡◌, sym, ◌∙◌}
use Prim.Native.Nat.{ℕ, suc, ◌+◌, ◌-◌, ◌*◌, ◌≤◌, ◌<◌}
use native.Mathlib.Omega.{arith}
use lib.ListN.{length, get_or}
use Rattle.area.specs.Area.{stamp, tried}
use Rattle.area.proofs.Tried.{tried_yes, tried_no}
use Rattle.operations.specs.Back.{fits, taken_back, tried_back, backs}
use Rattle.operations.proofs.Sound.{taken_back_sound}
use Rattle.operations.proofs.back.take_back_last.Invariants.{Backing}
use Rattle.operations.proofs.back.take_back_last.Goals as goal

module _ {D n c : ℕ} {w₀ w : List ℕ} {left : ℕ} (k : Backing D n c w₀ w left) where
  module _ {h : ℕ} (more : n - c < left) (here : h ≡ get_or w (3 * D + (left - 1)) 0) where
    next : left - (n - c) ≡ suc (left - 1 - (n - c))
    next = omega arith

    number_below : h < 2 * D
    number_below = rw here (k.sound.numbers (left - 1) (omega arith))

    back_on : {r : Bool} {v : List ℕ} → r ≡ true → length v ≡ length w → tried r v ≡ tried_back D w h → Backing D n c w₀ v (left - 1)
    unfolding tried_back backs stamp
    back_on fine size done =
        let fit = tried_yes (fits D w h) w (taken_back D w h) (rw fine at done) in
        record {
          sound = rw fit.1 (taken_back_sound k.sound h number_below fit.0);
          size = size ∙ k.size;
          low = omega arith;
          high = omega arith;
          same = k.same ∙ rw (next, ← here, fit.0, ← fit.1);
        }

    back_not : {r : Bool} {v : List ℕ} → r ≡ false → tried r v ≡ tried_back D w h → tried false v ≡ backs D w₀ n c
    unfolding tried_back backs stamp
    back_not bad done =
        let unfit = tried_no (fits D w h) w (taken_back D w h) (rw bad at done) in
        sym (k.same ∙ rw (next, ← here, unfit.0, unfit.1))

  back_end : left ≤ n - c → tried true w ≡ backs D w₀ n c
  unfolding backs
  back_end l = let e : left - (n - c) ≡ 0 = omega arith in sym (k.same ∙ rw e)

pub loop-left-preserved : goal.loop-left-preserved
loop-left-preserved c =
    back_on c.loop-left.invariant c.loop-left-test.true c.at-h.ensures c.if-not-take_back.false
    c.take_back.auto.work c.take_back.ensures

pub returns-then-not-take_back : goal.returns-then-not-take_back
returns-then-not-take_back c =
    back_not c.loop-left.invariant c.loop-left-test.true c.at-h.ensures c.if-not-take_back.true
    c.take_back.ensures

pub returns : goal.returns
returns c = back_end c.loop-left.invariant c.loop-left-test.false
