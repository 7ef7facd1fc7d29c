-- The table and the history in the work area, with the dart before each survivor: tests 1 to 5 of a pyramid.
--   marks D w i m      == the m history numbers from place i on: their edges are marked as gone (tests 1 and 2)
--   links D n w x m    == the m darts from x on, n operations having gone before: each survivor is noted before its successor (tests 3, 4 and 5), or who keeps it from that
--   gone_in D n w x     == x is marked as gone, by one of n operations
--   notes D n w x      == dart x noted before its successor, if it survives
--   beside_in D w x     == the second culprit beside x
--   given D n t h w    == table and history laid
--   blank D w          == nothing is known of the dart before each dart
--   relinks D n w      == the dart before each survivor found anew: blank, then marks and links
--   loads D n t h w    == table and history laid, and linked so
--   loads_base D t w    == a table laid alone, and linked: no dart is gone
use Rattle.std.specs.Prelude.{Bool, true, false, not, ◌&&◌, List, [], ℕ, zero, suc, ◌+◌, ◌*◌, ◌/◌, eqb, leb, ltb, set, take, replicate}
use Rattle.slices.specs.Laid.{laid}
use Rattle.std.specs.Prelude.{if◌then◌else◌}
use Rattle.darts.specs.Map.{successor, permutes, culprits}
use Rattle.area.specs.Area.{prev, stamp, Tried, tried, tried_if}
use Rattle.area.specs.Verdicts.{Said, said, passing}

-- test 1: the number is below 2D; test 2: no edge twice
unfoldable pub marks : ℕ → List ℕ → ℕ → ℕ → Tried
marks D w i zero = tried true w
marks D w i (suc m) =
    let h : ℕ = stamp D w i in
    let p : ℕ = 2 * (h / 4) in
    if leb (2 * D) h then tried false w
    else if not (eqb (prev D w p) (D + 1)) then tried false w
    else marks D (set (set w (D + p) D) (D + (p + 1)) D) (suc i) m

-- x is marked as gone; after no operation none is
unfoldable pub gone_in : ℕ → ℕ → List ℕ → ℕ → Bool
gone_in D n w x = ltb 0 n && eqb (prev D w x) D

-- one dart of `links`
unfoldable pub notes : ℕ → ℕ → List ℕ → ℕ → Tried
notes D n w x =
    let y : ℕ = successor w x in
    if leb D y then tried false w
    else if gone_in D n w x then tried true w
    else tried_if (eqb (prev D w y) (D + 1)) w (set w (D + y) x)

-- what is noted at the successor of x, D where that is no dart
unfoldable pub beside_in : ℕ → List ℕ → ℕ → ℕ
beside_in D w x = if leb D (successor w x) then D else prev D w (successor w x)

-- test 3: the entry is below D; tests 4 and 5: a survivor's entry survives, and no survivor was noted there
unfoldable pub links : ℕ → ℕ → List ℕ → ℕ → ℕ → Said
links D n w x zero = said permutes w
links D n w x (suc m) =
    let y : ℕ = successor w x in
    if leb D y then said (culprits x D) w
    else if gone_in D n w x then links D n w (suc x) m
    else if not (eqb (prev D w y) (D + 1)) then said (culprits x (prev D w y)) w
    else links D n (set w (D + y) x) (suc x) m

unfoldable pub given : ℕ → ℕ → List ℕ → List ℕ → List ℕ → List ℕ
given D n t h w = laid (laid w 0 (take D t)) (3 * D) (take n h)

unfoldable pub blank : ℕ → List ℕ → List ℕ
blank D w = laid w D (replicate D (D + 1))

unfoldable pub links_after : ℕ → ℕ → Tried → Tried
links_after D n a = if a.fine then passing (links D n a.work 0 D) else a

unfoldable pub relinks : ℕ → ℕ → List ℕ → Tried
relinks D n w = links_after D n (marks D (blank D w) 0 n)

unfoldable pub loads : ℕ → ℕ → List ℕ → List ℕ → List ℕ → Tried
loads D n t h w = relinks D n (given D n t h w)

unfoldable pub loads_base : ℕ → List ℕ → List ℕ → Said
loads_base D t w = links D 0 (blank D (given D 0 t [] w)) 0 D
