-- What a worked lookup says.
--   found_of l    == answer number and place, dart and count
--   looked_up h k x == these, of the successor of dart x of map T at level k, with the ends h and rubbish in the work area
use Rattle.std.specs.Prelude.{List, [], ◌∷◌, ℕ, replicate}
use Rattle.ends.specs.Lookup.{Looked, successor_at}

abbrev pub found_of : Looked → ℕ × ℕ × ℕ × ℕ
found_of l = (l.answer.number, l.answer.place, l.found.dart, l.found.passed)

abbrev pub looked_up : List ℕ → ℕ → ℕ → ℕ × ℕ × ℕ × ℕ
looked_up h k x = found_of (successor_at 8 k x (5 ∷ 2 ∷ 1 ∷ 4 ∷ 6 ∷ 0 ∷ 3 ∷ 7 ∷ []) h (replicate 32 9))
