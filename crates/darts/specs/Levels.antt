-- Levels: the sweep, undo of one level, unfold (document 01, "Levels and calls").
--   empty_loop t e         == r = q or s = p
--   takes t past e        == the sweep takes edge e
--   swept_from D t past es == the sweep's pass over the edges es
--   swept D t past        == the whole pass
--   sweep s t past        == one level more, by the sweep
--   undo_level s t past    == the last level undone
--   unfold_to k s t past   == back to level k
use Rattle.std.specs.Prelude.{Bool, ◌||◌, ◌&&◌, not, List, [], ◌∷◌, ℕ, zero, suc, ◌+◌, ◌-◌, ◌*◌, ◌/◌, eqb, leb, ltb, get_or, set, drop}
use Rattle.std.specs.Prelude.{if◌then◌else◌}
use Rattle.darts.specs.Answers.{too_many_levels, no_level}
use Rattle.darts.specs.Map.{successor, survives}
use Rattle.darts.specs.Operation.{removal, lead, whole_edge, operate, number, undone}
use Rattle.darts.specs.Kernel.{rising, Run, stands}
use Rattle.darts.specs.State.{State, storing, Result, gives, refuses, and_then, levelled}

-- "an empty loop (r = q or s = p)"
unfoldable pub empty_loop : List ℕ → ℕ → Bool
empty_loop t e = eqb (successor t (2 * e)) (2 * e + 1) || eqb (successor t (2 * e + 1)) (2 * e)

-- "taking each surviving edge that at its turn is an empty loop (r = q or s = p) and no whole piece"
unfoldable pub takes : List ℕ → List ℕ → ℕ → Bool
takes t past e = survives past (2 * e) && (empty_loop t e && not (whole_edge t e))

-- each edge that it takes is removed, and none is judged: an empty loop has two different faces (document 02, Seven)
unfoldable pub swept_from : ℕ → List ℕ → List ℕ → List ℕ → Run
swept_from D t past [] = stands t past
swept_from D t past (e ∷ es) =
    if takes t past e then swept_from D (operate removal D t past e) (number removal (lead removal t e) ∷ past) es else swept_from D t past es

-- "one pass over the edges by rising number"
unfoldable pub swept : ℕ → List ℕ → List ℕ → Run
swept D t past = swept_from D t past (rising 0 (D / 2))

-- "The sweep is a removal kernel". "A sweep that takes no edge is an empty kernel (answer 5)."
unfoldable pub sweep : State → List ℕ → List ℕ → Result
sweep s t past =
    if leb 64 s.levels then refuses too_many_levels else levelled s past (swept s.darts t past)

-- the operation count before the last kernel
unfoldable pub end_below : State → ℕ
end_below s = if leb s.levels 1 then 0 else get_or s.ends (s.levels - 2) 0

unfoldable pub lowered : State → List ℕ → List ℕ → State
lowered s t past = storing s.darts (end_below s) (s.levels - 1) (set s.ends (s.levels - 1) 0) t past

-- "undo one level", refused "at the base"
unfoldable pub undo_level : State → List ℕ → List ℕ → Result
undo_level s t past =
    let n : ℕ = s.operations - end_below s in
    let u : List ℕ = undone s.darts n t past in
    if eqb s.levels 0 then refuses (no_level 0) else gives (lowered s u (drop n past)) u (drop n past)

unfoldable pub undo_levels : ℕ → State → List ℕ → List ℕ → Result
undo_levels zero s t past = gives s t past
undo_levels (suc n) s t past = and_then (undo_level s t past) (undo_levels n)

-- "unfold to level k (k at or below the top; it equals that many undos, and the top itself changes nothing)"
unfoldable pub unfold_to : ℕ → State → List ℕ → List ℕ → Result
unfold_to k s t past = if ltb s.levels k then refuses (no_level s.levels) else undo_levels (s.levels - k) s t past
