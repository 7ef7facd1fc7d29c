-- Operations taken back in the work area, the last one first: tests 6 to 15 of a pyramid.
-- Of the operation h: p, q its partner, r and s their successors; x is the near one of r and s, y the far one.
--   fitting D w p q x y == tests 6 to 15, of p, q, x and y
--   fits D w h          == tests 6 to 15
--   inserted ..         == a leads to p and b to q, p to r and q to s
--   placed ..           == p and q inserted before x and y, or both before y where x is q
--   tried_edge ..         == p and q tested, and placed where they fit
--   taken_back D w h     == the work area before the operation h
--   tried_back D w h     == the operation h tested, and taken back where it fits
--   backs D w n c       == the last c of n operations taken back, each tested
--   Inside D e          == p, q, r and s of the edge e are darts
--   Mapped D w          == there is room, and the map's entries are darts
--   Sound D n w         == there are at most D operations besides, and their numbers are of darts
use Rattle.std.specs.Prelude.{Bool, true, false, not, ◌&&◌, List, ℕ, zero, suc, ◌+◌, ◌-◌, ◌*◌, ◌/◌, ◌%◌, ◌≤◌, ◌<◌, eqb, get_or}
use Rattle.permutations.specs.Partner.{partner}
use Rattle.std.specs.Prelude.{if◌then◌else◌}
use Rattle.darts.specs.Map.{successor}
use Rattle.darts.specs.Operation.{Kind, kind_of}
use Rattle.darts.specs.Tests.{near, far}
use Rattle.operations.specs.declared.back.Edge.{Edge}
use Rattle.area.specs.Area.{prev, there, stamp, Room, bound, Tried, tried, tried_if}

abbrev pub fitting : ℕ → List ℕ → ℕ → ℕ → ℕ → ℕ → Bool
fitting D w p q x y =
    if eqb x q then there D w y else eqb (p % 2) 0 && (there D w x && (there D w y && not (eqb x y)))

unfoldable pub fits : ℕ → List ℕ → ℕ → Bool
fits D w h =
    let p : ℕ = h / 2 in
    let q : ℕ = partner p in
    let x : ℕ = near (kind_of h) (successor w p) (successor w q) in
    let y : ℕ = far (kind_of h) (successor w p) (successor w q) in
    fitting D w p q x y

unfoldable pub inserted : ℕ → List ℕ → ℕ → ℕ → ℕ → ℕ → ℕ → ℕ → List ℕ
inserted D w p q r s a b = bound D (bound D (bound D (bound D w a p) b q) p r) q s

-- where x is q, the dart before q is the near one of p and q: p after a removal, q itself after a contraction
abbrev pub placed : ℕ → List ℕ → Kind → ℕ → ℕ → ℕ → ℕ → ℕ → ℕ → List ℕ
placed D w k p q r s x y =
    if eqb x q then inserted D w p q r s (prev D w y) (near k p q) else inserted D w p q r s (prev D w x) (prev D w y)

-- x is the near one of r and s, y the far one
abbrev pub tried_edge : ℕ → List ℕ → Kind → ℕ → ℕ → ℕ → ℕ → Tried
tried_edge D w k p q r s =
    tried_if (fitting D w p q (near k r s) (far k r s)) w (placed D w k p q r s (near k r s) (far k r s))

unfoldable pub taken_back : ℕ → List ℕ → ℕ → List ℕ
taken_back D w h =
    let p : ℕ = h / 2 in
    let q : ℕ = partner p in
    let r : ℕ = successor w p in
    let s : ℕ = successor w q in
    let x : ℕ = near (kind_of h) r s in
    let y : ℕ = far (kind_of h) r s in
    placed D w (kind_of h) p q r s x y

unfoldable pub tried_back : ℕ → List ℕ → ℕ → Tried
tried_back D w h = tried_if (fits D w h) w (taken_back D w h)

unfoldable pub backs : ℕ → List ℕ → ℕ → ℕ → Tried
backs D w n zero = tried true w
backs D w n (suc c) =
    let h : ℕ = stamp D w (n - 1) in
    if fits D w h then backs D (taken_back D w h) (n - 1) c else tried false w

pub record Inside (D : ℕ) (e : Edge) : Type 0 where
  pub p : e.p < D
  pub q : e.q < D
  pub r : e.r < D
  pub s : e.s < D

pub record Mapped (D : ℕ) (w : List ℕ) : Type 0 where
  pub room : Room D w
  pub darts : (x : ℕ) → x < D → get_or w x 0 < D

pub record Sound (D n : ℕ) (w : List ℕ) : Type 0 where
  pub mapped : Mapped D w
  pub few : n ≤ D
  pub numbers : (i : ℕ) → i < n → get_or w (3 * D + i) 0 < 2 * D
