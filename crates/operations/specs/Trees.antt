-- The forest's part of the work area, told by its roots: which numbers stand in it does not matter.
--   Outside D w w'         == w' is w, but for the forest's part
--   rooted D w x           == the root of x
--   Kept D w w'            == w' is w, but for the forest's part, and each number has kept its root
--   Found D w w' x r       == r is the root of x, and the roots are kept
--   merged R p q           == the roots R, once those of p and q are joined
--   Joined D w w' p q r    == p and q are joined, and r says whether they were apart
use Rattle.std.specs.Prelude.{Bool, not, List, ◌≡◌, ℕ, ◌*◌, eqb, length, take, drop}
use Rattle.forest.specs.Forest.{Falls, root, linked}
use Rattle.area.specs.Area.{forest_in}

pub record Outside (D : ℕ) (w w' : List ℕ) : Type 0 where
  pub size : length w' ≡ length w
  pub front : take (2 * D) w' ≡ take (2 * D) w
  pub rest : drop (3 * D) w' ≡ drop (3 * D) w

abbrev pub rooted : ℕ → List ℕ → ℕ → ℕ
rooted D w = root (forest_in D w)

pub record Kept (D : ℕ) (w w' : List ℕ) : Type 0 where
  pub outside : Outside D w w'
  pub falls : Falls (forest_in D w')
  pub roots : rooted D w' ≡ rooted D w

pub record Found (D : ℕ) (w w' : List ℕ) (x r : ℕ) : Type 0 where
  pub kept : Kept D w w'
  pub top : r ≡ rooted D w x

unfoldable pub merged : (ℕ → ℕ) → ℕ → ℕ → ℕ → ℕ
merged R p q x = linked (R p) (R q) (R x)

pub record Joined (D : ℕ) (w w' : List ℕ) (p q : ℕ) (r : Bool) : Type 0 where
  pub outside : Outside D w w'
  pub falls : Falls (forest_in D w')
  pub roots : rooted D w' ≡ merged (rooted D w) p q
  pub answer : r ≡ not (eqb (rooted D w p) (rooted D w q))
