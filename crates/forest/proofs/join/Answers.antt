-- `forest::join` meets its contract: two finds keep every root, and what they found are roots.
--
--   Twice t t' x y u v == t' is t after the two finds, and u and v are the roots of x and y
--   turned             == the same, with the second root named first
--   first_top          == a root that was found is one still
--   roots_fit          == both roots fit the slice
--   twice_joined       == joining the two roots joins x and y
use mathlib.Core.Path.{◌≡◌, ap₂, ◌∙◌}
use mathlib.Core.Bool.{Bool, not}
use mathlib.Core.List.{List}
use Prim.Native.Nat.{ℕ, ◌^◌, ◌<◌}
use native.Mathlib.Omega.{arith}
use lib.Dec.{eqb}
use lib.ListN.{length}
use mir.Syntax.{w32}
use mir.Val.{Fits}
use borrow.Author.Rules.{rules}
use Rattle.forest.specs.Forest.{parent, Falls, root, apart, Top, Found, Joined}
use Rattle.forest.specs.Roots.{root_top, root_settled}
use Rattle.forest.proofs.join.Goals as goal

record Twice (t t' : List ℕ) (x y u v : ℕ) : Type 0 where
  falls : Falls t'
  roots : (z : ℕ) → root t' z ≡ root t z
  size : length t' ≡ length t
  first : u ≡ root t x
  second : v ≡ root t y
  first_inside : u < length t'
  second_inside : v < length t'

twice : {t t₁ t₂ : List ℕ} {x y u v : ℕ} → Found t t₁ x u → Found t₁ t₂ y v → Twice t t₂ x y u v
twice {t} {t₁} {t₂} {x} {y} f g =
    record {
      falls = g.falls;
      roots = λ z. g.roots z ∙ f.roots z;
      size = g.size ∙ f.size;
      first = f.top;
      second = g.top ∙ f.roots y;
      first_inside = omega arith;
      second_inside = g.inside;
    }

turned : {t t' : List ℕ} {x y u v : ℕ} → Twice t t' x y u v → Twice t t' y x v u
turned w =
    record {
      falls = w.falls;
      roots = w.roots;
      size = w.size;
      first = w.second;
      second = w.first;
      first_inside = w.second_inside;
      second_inside = w.first_inside;
    }

module _ {t t' : List ℕ} {x y u v : ℕ} (w : Twice t t' x y u v) where
  first_top : Top t' u
  first_top = record { falls = w.falls; inside = w.first_inside; own = rw (w.first, ← w.roots x) (root_settled w.falls x) }

  first_root : root t' u ≡ root t x
  first_root = root_top t' u first_top.own ∙ w.first

module _ {t t' : List ℕ} {x y u v : ℕ} (w : Twice t t' x y u v) where
  -- both roots stand in the slice, so they fit it
  roots_fit : ((i : ℕ) → Fits w32 (parent t' i)) → (u < 2 ^ 32) × (v < 2 ^ 32)
  roots_fit given = (omega (arith, given u, (first_top w).own), omega (arith, given v, (first_top (turned w)).own))

  twice_joined : {t'' : List ℕ} {r : Bool} → Joined t' t'' u v r → Joined t t'' x y r
  unfolding apart
  twice_joined j = record {
    answer = j.answer ∙ ap₂ (λ a b. not (eqb a b)) (first_root w) (first_root (turned w));
    roots = λ z. j.roots z ∙ rw (first_root w, first_root (turned w), w.roots z);
    falls = j.falls;
    size = j.size ∙ w.size;
  }

pub link-requires-clause-top : goal.link-requires-clause-top
link-requires-clause-top c = let w = twice c.find-u.ensures c.find-v.ensures in (first_top w, first_top (turned w))

pub link-requires-clause-u_bound : goal.link-requires-clause-u_bound
link-requires-clause-u_bound c = roots_fit (twice c.find-u.ensures c.find-v.ensures) (search rules)

pub returns : goal.returns
returns c = twice_joined (twice c.find-u.ensures c.find-v.ensures) c.link.ensures
