-- The shape of a state, over the history in the work area.
--   state_with f     == the state that these figures are, its numbers not looked at
--   has_kind k hs    == one of the operations hs is of kind k, 0 for removals and 1 for contractions
--   history_in D n w == the n history numbers, the first operation first
use Rattle.std.specs.Prelude.{Bool, false, ◌||◌, List, [], ◌∷◌, ℕ, ◌+◌, ◌*◌, ◌%◌, eqb}
use Rattle.darts.specs.State.{State}
use Rattle.slices.specs.Part.{part}
use Rattle.area.specs.declared.Figures.{Figures}

abbrev pub state_with : Figures → State
state_with f = record { darts = f.darts; operations = f.operations; levels = f.levels; ends = f.ends; vertices = 0; faces = 0 }

unfoldable pub has_kind : ℕ → List ℕ → Bool
has_kind k [] = false
has_kind k (h ∷ hs) = eqb (h % 2) k || has_kind k hs

abbrev pub history_in : ℕ → ℕ → List ℕ → List ℕ
history_in D n w = part (3 * D) (3 * D + n) w
