-- The checksums.
--   step_of c v == "for each number v: c := (c * 31 + v + 1) mod 4294967291"
--   sum_of c vs == the checksum after these numbers, from that before them
--   numbers_of_metres m == metres count "1, the high 32 bits and the low 32 bits", or "2 0 0 for a NaN"
--   numbers_of_yarn y   == "0 0 0 for not measured", or what its metres count
use lib.Ieee.{Float, binary64}
use Rattle.std.specs.Prelude.{ℕ, ◌+◌, ◌*◌, ◌/◌, ◌%◌, List, [], ◌∷◌, Option, Some, None, cond, is_nan, to_bits}

abbrev pub step_of : ℕ → ℕ → ℕ
step_of c v = (c * 31 + v + 1) % 4294967291

abbrev pub sum_of : ℕ → List ℕ → ℕ
sum_of c [] = c
sum_of c (v ∷ vs) = sum_of (step_of c v) vs

abbrev pub numbers_of_metres : Float → List ℕ
numbers_of_metres m = cond (is_nan m) (2 ∷ 0 ∷ 0 ∷ []) (1 ∷ to_bits binary64 m / 4294967296 ∷ to_bits binary64 m % 4294967296 ∷ [])

abbrev pub numbers_of_yarn : Option Float → List ℕ
numbers_of_yarn None = 0 ∷ 0 ∷ 0 ∷ []
numbers_of_yarn (Some m) = numbers_of_metres m
