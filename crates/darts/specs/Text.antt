-- Bytes of a file: words and numbers.
--   bytes w     == the bytes of a word
--   decimal n   == the decimal digits of n, up to five
use Rattle.std.specs.Prelude.{List, [], ◌∷◌, ℕ, zero, suc, ◌+◌, ◌/◌, ◌%◌, ltb}
use Prim.Native.Char.{code}
use Prim.Native.String.{String}
use Rattle.std.specs.Prelude.{if◌then◌else◌}

abbrev pub bytes : String → List ℕ
bytes String.[] = []
bytes (String.◌∷◌ c w) = code c ∷ bytes w

-- at most n digits of x, before the bytes b
unfoldable pub digits : ℕ → ℕ → List ℕ → List ℕ
digits zero x b = b
digits (suc n) x b =
    let all : List ℕ = digits n (x / 10) ((48 + x % 10) ∷ b) in
    if ltb x 10 then (48 + x) ∷ b else all

-- "Numbers are decimal, one to five digits, no leading zero but for 0 itself."
unfoldable pub decimal : ℕ → List ℕ
decimal x = digits 5 x []
