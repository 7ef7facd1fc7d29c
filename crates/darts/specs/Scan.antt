-- Reading a file's bytes from left to right: the first fault decides (document 01, "The file").
--   byte_at b at         == the byte at a place, 256 where the file has ended
--   Scan A              == what stands at a place: found with the place after it, or the answer of the first fault
--   after r f           == r, and then f from the place after it
--   word w b at         == the bytes w
--   number_at b at       == a number in good form
--   field w end b at    == the bytes w, a number, and the bytes end
use Rattle.std.specs.Prelude.{Bool, ◌&&◌, List, [], ◌∷◌, ℕ, zero, suc, ◌+◌, ◌-◌, ◌*◌, eqb, leb, get_or}
use Rattle.std.specs.Prelude.{if◌then◌else◌}
use Rattle.darts.specs.Answers.{Answer, no_file}

unfoldable pub byte_at : List ℕ → ℕ → ℕ
byte_at b at = get_or b at 256

pub data Scan (A : Type 0) : Type 0 where
  found : A → ℕ → Scan A
  fault : Answer → Scan A

abbrev pub after : {A B : Type 0} → Scan A → (A → ℕ → Scan B) → Scan B
after (found a at) f = f a at
after (fault x) f = fault x

-- "13: the bytes leave the file's form; first wrong byte, from 0, or the length if it ends early"
unfoldable pub word : List ℕ → List ℕ → ℕ → Scan ℕ
word [] b at = found 0 at
word (c ∷ w) b at = if eqb (byte_at b at) c then word w b (suc at) else fault (no_file at)

unfoldable pub is_digit : ℕ → Bool
is_digit c = leb 48 c && leb c 57

-- at most n digits more of a number that is x so far
unfoldable pub number_on : ℕ → List ℕ → ℕ → ℕ → Scan ℕ
number_on zero b at x = found x at
number_on (suc n) b at x =
    if is_digit (byte_at b at) then number_on n b (suc at) (10 * x + (byte_at b at - 48)) else found x at

-- "Numbers are decimal, one to five digits, no leading zero but for 0 itself." A digit too many is a wrong byte for what follows the number.
unfoldable pub number_at : List ℕ → ℕ → Scan ℕ
number_at b at =
    if eqb (byte_at b at) 48 then found 0 (suc at)
    else if is_digit (byte_at b at) then number_on 5 b at 0
    else fault (no_file at)

unfoldable pub field : List ℕ → List ℕ → List ℕ → ℕ → Scan ℕ
field w end b at = after (word w b at) (λ _ at. after (number_at b at) (λ x at. after (word end b at) (λ _ at. found x at)))
