-- What the code's answers say in the words of document 01.
--   byte_of r      == the byte that was found, 256 where the file has ended
--   Digit b at x   == at a place of b the digit x stands
--   place_of r     == 0 with the place after what was found, or the answer of the first fault
--   number_of r    == a number that was found, with the place after it
--   scan_of make r == what `make` makes of what was found, with the place after it, or the answer of the first fault
use Rattle.std.specs.Prelude.{◌≡◌, List, ℕ, ◌+◌, ◌≤◌, Option, None, Some, Result, Ok, Err}
use Rattle.darts.specs.Cases.{refusal_of}
use Rattle.darts.specs.Scan.{Scan, found, fault, byte_at}
use Rattle.darts.specs.declared.Refusal.{Refusal}

abbrev pub byte_of : Option ℕ → ℕ
byte_of None = 256
byte_of (Some c) = c

pub record Digit (b : List ℕ) (at x : ℕ) : Type 0 where
  pub byte : byte_at b at ≡ 48 + x
  pub small : x ≤ 9

abbrev pub place_of : Result ℕ Refusal → Scan ℕ
place_of (Ok next) = found 0 next
place_of (Err r) = fault (refusal_of r)

abbrev pub number_of : ℕ × ℕ → Scan ℕ
number_of r = found r.0 r.1

abbrev pub scan_of : {T A : Type 0} → (T → A) → Result (T × ℕ) Refusal → Scan A
scan_of make (Ok r) = found (make r.0) r.1
scan_of make (Err r) = fault (refusal_of r)
