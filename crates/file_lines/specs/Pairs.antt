-- What reading the lines of the pairs leaves.
--   PairsRead b at D F t t' r == r answers for the lines from the place at on; t' is the table t with the numbers of the lines at the front
--   last_at D b at             == the same lines as the last ones of the file
--   LastRead b at D F t t' r  == r answers for them; t' is the table t with their numbers at the front
use Rattle.std.specs.Prelude.{◌≡◌, List, map, ℕ, ◌/◌, eqb, length, drop, Result}
use Rattle.std.specs.Prelude.{if◌then◌else◌}
use Rattle.darts.specs.Answers.{no_file}
use Rattle.darts.specs.Scan.{Scan, found, fault, after}
use Rattle.darts.specs.Read.{pairs_at, from_flag}
use Rattle.slices.specs.Over.{over}
use Rattle.darts.specs.declared.Refusal.{Refusal}
use Rattle.file_lines.specs.Found.{place_of}

pub record PairsRead (b : List ℕ) (at D F : ℕ) (t t' : List ℕ) (r : Result ℕ Refusal) : Type 0 where
  pub answer : place_of r ≡ after (pairs_at (D / 2) b at) (λ _ next. found 0 next)
  pub table : (xs : List ℕ) (next : ℕ) → pairs_at (D / 2) b at ≡ found xs next → t' ≡ over (map (from_flag F D) xs) t
  pub rest : drop D t' ≡ drop D t

-- "nothing after the last"
unfoldable pub last_at : ℕ → List ℕ → ℕ → Scan (List ℕ)
last_at D b at = after (pairs_at (D / 2) b at) (λ xs next. if eqb next (length b) then found xs next else fault (no_file next))

pub record LastRead (b : List ℕ) (at D F : ℕ) (t t' : List ℕ) (r : Result ℕ Refusal) : Type 0 where
  pub answer : place_of r ≡ after (last_at D b at) (λ _ next. found 0 next)
  pub table : (xs : List ℕ) (next : ℕ) → pairs_at (D / 2) b at ≡ found xs next → t' ≡ over (map (from_flag F D) xs) t
