-- `forest::find` meets its contract: each turn of the loop halves the way, which keeps every root, and goes on from a number that has the root of x.
--
--   halved   == t, with `at` hung under its grandparent
--   climb_on == one turn more
--   arrived  == a number that is its own parent is the root
use mathlib.Core.Path.{◌≡◌, refl, sym, ◌∙◌}
use mathlib.Core.List.{List}
use Prim.Native.Nat.{ℕ}
use native.Mathlib.Omega.{arith}
use lib.ListN.{set, length-set}
use Rattle.forest.specs.Forest.{parent, Falls, root, Found}
use Rattle.forest.specs.Roots.{root_top, root_up}
use Rattle.forest.proofs.Hanging.{halve_falls, halve_roots}
use Rattle.forest.proofs.find.Invariants.{Climbing}
use Rattle.forest.proofs.find.Goals as goal

module _ {t₀ t : List ℕ} {x at up : ℕ} (c : Climbing t₀ t x at up) where
  abbrev over : ℕ
  over = parent t up

  abbrev halved : List ℕ
  halved = set t at over

  halved_falls : Falls halved
  halved_falls = rw c.next (halve_falls c.falls at c.inside)

  halved_roots : (z : ℕ) → root halved z ≡ root t z
  halved_roots = rw c.next (halve_roots c.falls at c.inside)

  climb_on : Climbing t₀ halved x over (parent halved over)
  climb_on =
      record {
        falls = halved_falls;
        roots = λ z. halved_roots z ∙ c.roots z;
        size = length-set t at over ∙ c.size;
        inside = simp length-set (omega arith);
        next = refl;
        up_down = halved_falls.down over;
        over_down = halved_falls.down (parent halved over);
        same = halved_roots over ∙ root_up c.falls up ∙ rw c.next (root_up c.falls at) ∙ c.same ∙ sym (halved_roots x);
      }

  arrived : up ≡ at → Found t₀ t x at
  arrived e =
      record {
        top = sym (root_top t at (sym c.next ∙ e)) ∙ c.same ∙ c.roots x;
        inside = c.inside;
        roots = c.roots;
        falls = c.falls;
        size = c.size;
      }

pub loop-up-preserved : goal.loop-up-preserved
loop-up-preserved c = climb_on c.loop-up.invariant

pub returns : goal.returns
returns c = arrived c.loop-up.invariant c.loop-up-test.false
