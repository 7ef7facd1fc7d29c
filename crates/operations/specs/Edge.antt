-- The operation on an edge, judged and done step by step. p and q are the edge's darts.
--   Says n i a              == the answer a has the number n and, unless it is done, the place i; its second place is 0
--   Judged D k e i w w' r   == r is the answer for edge e at place i; where it is done the edge's two darts are joined, and else the roots are kept
--   Bounds D w p q          == p and q are darts, and so are their successors and the darts before them
--   bypassed D w a b q x y  == a leads on to x and b to y; where x is q, a leads on to y and that is all
use Rattle.std.specs.Prelude.{Result, true, List, ◌≢◌, ◌≡◌, ℕ, ◌+◌, ◌*◌, ◌<◌, eqb, get_or}
use Rattle.std.specs.Prelude.{if◌then◌else◌}
use Rattle.darts.specs.Cases.{answer_of}
use Rattle.darts.specs.declared.Refusal.{Refusal}
use Rattle.area.specs.Area.{bound}
use Rattle.operations.specs.Operate.{judged}
use Rattle.operations.specs.Trees.{rooted, Kept, Joined}

pub record Says (n i : ℕ) (a : Result (Unit {0}) Refusal) : Type 0 where
  pub number : (answer_of a).number ≡ n
  pub place : n ≢ 0 → (answer_of a).place ≡ i
  pub second : (answer_of a).second ≡ 0

pub record Judged (D k e i : ℕ) (w w' : List ℕ) (r : Result (Unit {0}) Refusal) : Type 0 where
  pub answer : Says (judged D w (rooted D w) k e) i r
  pub refused : (answer_of r).number ≢ 0 → Kept D w w'
  pub done : (answer_of r).number ≡ 0 → Joined D w w' (2 * e) (2 * e + 1) true

pub record Bounds (D : ℕ) (w : List ℕ) (p q : ℕ) : Type 0 where
  pub first : p < D
  pub second : q < D
  pub first_next : get_or w p 0 < D
  pub second_next : get_or w q 0 < D
  pub first_before : get_or w (D + p) 0 < D
  pub second_before : get_or w (D + q) 0 < D

unfoldable pub bypassed : ℕ → List ℕ → ℕ → ℕ → ℕ → ℕ → ℕ → List ℕ
bypassed D w a b q x y = if eqb x q then bound D w a y else bound D (bound D w a x) b y
