-- `forest::link` meets its contract: hanging the higher of two roots under the lower is what `linked` says.
--
--   one_root          == the roots are one: nothing is to be done
--   hung_under_first  == the second root is hung under the first
--   hung_under_second == the first root is hung under the second
use mathlib.Core.Path.{◌≡◌, refl, sym}
use mathlib.Core.Logic.{◌≢◌}
use mathlib.Core.Bool.{true, false}
use mathlib.Core.List.{List}
use Prim.Native.Nat.{ℕ, ◌<◌}
use native.Mathlib.Omega.{arith}
use lib.ListN.{set, length-set}
use borrow.Author.Tests.{eq-eqb, ne_eqb}
use Rattle.forest.specs.Forest.{root, apart, Top, Joined}
use Rattle.forest.specs.Roots.{root_top}
use Rattle.forest.proofs.Joins.{linked_self, join_turned}
use Rattle.forest.proofs.Hanging.{link_falls, link_roots}
use Rattle.forest.proofs.link.Goals as goal

module _ {t : List ℕ} {u v : ℕ} (first : Top t u) (second : Top t v) where
  one_root : u ≡ v → Joined t t u v false
  unfolding apart
  one_root e = record {
    answer = rw (e, eq-eqb (root t v) (root t v) refl);
    roots = λ z. rw e (sym (linked_self (root t v) (root t z)));
    falls = first.falls;
    size = refl;
  }

  hung_under_first : u < v → Joined t (set t v u) u v true
  unfolding apart
  hung_under_first l =
      let two : u ≢ v = omega arith in
      record {
        answer = rw (root_top t u first.own, root_top t v second.own, ne_eqb u v two);
        roots = λ z. rw (root_top t u first.own, root_top t v second.own) (link_roots first.falls u v second.inside l first.own second.own z);
        falls = link_falls first.falls u v second.inside l first.own second.own;
        size = length-set t v u;
      }

hung_under_second : {t : List ℕ} {u v : ℕ} → Top t u → Top t v → v < u → Joined t (set t u v) u v true
hung_under_second first second l = join_turned (hung_under_first second first l)

pub returns-then-u-v : goal.returns-then-u-v
returns-then-u-v c = one_root c.requires.top.0 c.requires.top.1 c.if-u-v.true

pub returns-then-u-v-2 : goal.returns-then-u-v-2
returns-then-u-v-2 c = hung_under_first c.requires.top.0 c.requires.top.1 c.if-u-v-2.true

pub returns-else-u-v-2 : goal.returns-else-u-v-2
returns-else-u-v-2 c = hung_under_second c.requires.top.0 c.requires.top.1 (omega arith)
