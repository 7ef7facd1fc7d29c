-- Counts of the present level (document 01, "Levels and calls").
--   lowest f D x          == no dart of x's cycle is below x
--   cycles f D past n     == how many of the first n darts survive and are the lowest of their cycle
--   surviving past n      == how many of the first n darts survive
--   Counts                == surviving darts, vertices, faces, the Euler number
--   counts_of D t past     == the counts of the present level
use Rattle.std.specs.Prelude.{Bool, true, ◌&&◌, List, ℕ, zero, suc, ◌/◌, leb, ℤ, pos, ◌+ℤ◌, ◌-ℤ◌}
use Rattle.std.specs.Prelude.{if◌then◌else◌}
use Rattle.darts.specs.Map.{successor, face_next, survives}

-- none of the n darts that follow y is below x
unfoldable pub never_below : (ℕ → ℕ) → ℕ → ℕ → ℕ → Bool
never_below f zero x y = true
never_below f (suc n) x y = leb x (f y) && never_below f n x (f y)

unfoldable pub lowest : (ℕ → ℕ) → ℕ → ℕ → Bool
lowest f D x = never_below f D x x

-- each cycle counted at its lowest dart
unfoldable pub cycles : (ℕ → ℕ) → ℕ → List ℕ → ℕ → ℕ
cycles f D past zero = 0
cycles f D past (suc n) = if survives past n && lowest f D n then suc (cycles f D past n) else cycles f D past n

unfoldable pub surviving : List ℕ → ℕ → ℕ
surviving past zero = 0
surviving past (suc n) = if survives past n then suc (surviving past n) else surviving past n

-- "Counts: surviving darts, vertices, faces, and the Euler number, vertices minus edges plus faces, a signed number that may fall below zero."
pub record Counts : Type 0 where
  pub darts : ℕ
  pub vertices : ℕ
  pub faces : ℕ
  pub euler : ℤ

abbrev pub counts_from : ℕ → ℕ → ℕ → Counts
counts_from d v f = record { darts = d; vertices = v; faces = f; euler = pos v -ℤ pos (d / 2) +ℤ pos f }

unfoldable pub counts_of : ℕ → List ℕ → List ℕ → Counts
counts_of D t past = counts_from (surviving past D) (cycles (successor t) D past D) (cycles (face_next t) D past D)

-- "Refused counts are four zeros."
abbrev pub no_counts : Counts
no_counts = record { darts = 0; vertices = 0; faces = 0; euler = pos 0 }
