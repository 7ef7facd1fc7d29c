-- A drawn plan: one line a course, the highest course first, one byte a cell; each line is ended by one line feed.
--   wales_of d         == how many bytes the first line of the drawing d has
--   wrong_from w k n d == the first wrong line, where the bytes d follow after k bytes of line n, if a line is wrong
--   wrong_line d       == the first wrong line of the drawing d, counted from 1 in the order drawn, if a line is wrong
--   courses_of d       == how many lines a drawing has whose lines are all right
--   line_at w j d      == the w bytes of line j, counted from 0, of a drawing of w wales
--   upside_down w d c  == the first c lines, the last of them first
--   plan_of d          == the plan's codes: "lowest course first and each from the left"
--   Fits w c d p      == the drawing d has c lines of w bytes, and the slice p has room for their codes
--   Right d           == no line of the drawing d is wrong, and it has at most 65,536 bytes: a room of as many has room for its codes
use Rattle.std.specs.Prelude.{List, [], ◌∷◌, ◌++◌, ◌≡◌, ℕ, zero, suc, ◌+◌, ◌*◌, ◌/◌, ◌≤◌, eqb, length, take, drop, Option, Some, None}
use Rattle.std.specs.Prelude.{if◌then◌else◌}

-- the bytes before the first line feed; all bytes, where there is none
unfoldable pub wales_of : List ℕ → ℕ
wales_of [] = 0
wales_of (b ∷ d) = if eqb b 10 then 0 else suc (wales_of d)

-- a line is wrong whose length is not w, and the last one where its line feed is missing
unfoldable pub wrong_from : ℕ → ℕ → ℕ → List ℕ → Option ℕ
wrong_from w k n [] = if eqb k 0 then None else Some n
wrong_from w k n (b ∷ d) =
    if eqb b 10 then (if eqb k w then wrong_from w 0 (n + 1) d else Some n)
    else if eqb k w then Some n
    else wrong_from w (k + 1) n d

unfoldable pub wrong_line : List ℕ → Option ℕ
wrong_line d = wrong_from (wales_of d) 0 1 d

unfoldable pub courses_of : List ℕ → ℕ
courses_of d = length d / (wales_of d + 1)

-- each line has its w bytes and a line feed
unfoldable pub line_at : ℕ → ℕ → List ℕ → List ℕ
line_at w j d = take w (drop (j * (w + 1)) d)

-- course y of a plan of c courses is line c - 1 - y of its drawing
unfoldable pub upside_down : ℕ → List ℕ → ℕ → List ℕ
upside_down w d zero = []
upside_down w d (suc c) = line_at w c d ++ upside_down w d c

unfoldable pub plan_of : List ℕ → List ℕ
plan_of d = upside_down (wales_of d) d (courses_of d)

pub record Fits (w c : ℕ) (d p : List ℕ) : Type 0 where
  pub lines : c * (w + 1) ≤ length d
  pub drawing : length d ≤ 65536
  pub room : c * w ≤ length p

pub record Right (d : List ℕ) : Type 0 where
  pub lines : wrong_line d ≡ None
  pub size : length d ≤ 65536
