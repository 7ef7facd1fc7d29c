-- A forest in a list of numbers: at each number stands its parent, no parent is above its child, and a root is its own parent.
--
--   parent t x   == the number that stands at x in the list t; 0 past the end, so no bound on x is needed
--   Falls t      == t is a forest: no parent is above its child
--   climb t k x  == where k steps from child to parent lead from x
--   root t x     == the root of x: in a forest x steps from x are enough
--   linked u v r == the root of what had the root r, once the roots u and v are joined: the lower of the two in place of the higher
--   apart t x y  == the test whether x and y have two different roots
--   Stands t x   == t is a forest, and x is one of its numbers: what a caller of `find` and of `join` shows
--   Top t x      == t is a forest, and x is one of its roots: what a caller of `link` shows
--   Fresh n t    == what `fresh` leaves: each of n numbers is its own parent
--   Found ..     == what `find` leaves: r is the root of x, and every number has kept its root
--   Joined ..    == what `join` and `link` leave: the roots of x and y are joined, and the answer says whether they were two
use Rattle.std.specs.Prelude.{◌≡◌, Bool, cond, not, List, ℕ, zero, suc, ◌≤◌, ◌<◌, min, max, eqb, length, get_or}

abbrev pub parent : List ℕ → ℕ → ℕ
parent t x = get_or t x 0

pub record Falls (t : List ℕ) : Type 0 where
  pub down : (x : ℕ) → parent t x ≤ x

unfoldable pub climb : List ℕ → ℕ → ℕ → ℕ
climb t zero x = x
climb t (suc k) x = climb t k (parent t x)

unfoldable pub root : List ℕ → ℕ → ℕ
root t x = climb t x x

unfoldable pub linked : ℕ → ℕ → ℕ → ℕ
linked u v r = cond (eqb r (max u v)) (min u v) r

unfoldable pub apart : List ℕ → ℕ → ℕ → Bool
apart t x y = not (eqb (root t x) (root t y))

pub record Stands (t : List ℕ) (x : ℕ) : Type 0 where
  pub falls : Falls t
  pub inside : x < length t

pub record Top (t : List ℕ) (x : ℕ) : Type 0 where
  pub falls : Falls t
  pub inside : x < length t
  pub own : parent t x ≡ x

pub record Fresh (n : ℕ) (t : List ℕ) : Type 0 where
  pub size : length t ≡ n
  pub own : (x : ℕ) → x < n → parent t x ≡ x

-- t before the call, t' after it, r the result
pub record Found (t t' : List ℕ) (x r : ℕ) : Type 0 where
  pub top : r ≡ root t x
  pub inside : r < length t'
  pub roots : (z : ℕ) → root t' z ≡ root t z
  pub falls : Falls t'
  pub size : length t' ≡ length t

pub record Joined (t t' : List ℕ) (x y : ℕ) (r : Bool) : Type 0 where
  pub answer : r ≡ apart t x y
  pub roots : (z : ℕ) → root t' z ≡ linked (root t x) (root t y) (root t z)
  pub falls : Falls t'
  pub size : length t' ≡ length t
