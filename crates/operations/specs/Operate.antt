-- One operation in the work area. k is 0 for a removal and 1 for a contraction, the last bit of the history number.
--   takes_in D w e        == the sweep takes edge e: it survives, and is an empty loop and no whole piece
--   judged D w R k e     == the answer's number for edge e, by the forest's roots R
--   led D w k p          == the darts before p and q lead on
--   operated D n w k e   == the work area after the operation on edge e, the one of count n
use Rattle.std.specs.Prelude.{Bool, not, ◌&&◌, List, ℕ, ◌+◌, ◌-◌, ◌*◌, ◌/◌, eqb, leb, set}
use Rattle.permutations.specs.Partner.{partner}
use Rattle.std.specs.Prelude.{if◌then◌else◌}
use Rattle.darts.specs.Levels.{empty_loop}
use Rattle.darts.specs.Map.{successor}
use Rattle.darts.specs.Operation.{Kind, kind_of, lead, whole_edge}
use Rattle.darts.specs.Tests.{near, far}
use Rattle.area.specs.Area.{prev, there, bound}

-- "taking each surviving edge that at its turn is an empty loop (r = q or s = p) and no whole piece"
unfoldable pub takes_in : ℕ → List ℕ → ℕ → Bool
takes_in D w e = there D w (2 * e) && (empty_loop w e && not (whole_edge w e))

unfoldable pub judged : ℕ → List ℕ → (ℕ → ℕ) → ℕ → ℕ → ℕ
judged D w R k e =
    if leb (D / 2) e then 7
    else if not (there D w (2 * e)) then 8
    else if eqb (R (2 * e)) (R (2 * e + 1)) then 10 - k
    else if whole_edge w e then 11
    else 0

unfoldable pub led : ℕ → List ℕ → Kind → ℕ → List ℕ
led D w k p =
    let q : ℕ = partner p in
    let x : ℕ = near k (successor w p) (successor w q) in
    let y : ℕ = far k (successor w p) (successor w q) in
    if eqb x q then bound D w (prev D w p) y else bound D (bound D w (prev D w p) x) (prev D w q) y

-- the edge is marked as gone, and the history gets its number
unfoldable pub noted : ℕ → ℕ → List ℕ → ℕ → ℕ → List ℕ
noted D n w k p = set (set (set w (D + p) D) (D + partner p) D) (3 * D + n) (2 * p + k)

unfoldable pub operated : ℕ → ℕ → List ℕ → ℕ → ℕ → List ℕ
operated D n w k e = let p : ℕ = lead (kind_of k) w e in noted D n (led D w (kind_of k) p) k p
