-- "sheets that no accepted start and these operations give" (document 02, request Five): what it is to be given, and its decision.
--   Looked D b hs S Z  == the sheets S and Z are the same wherever they are looked at after the operations hs on the base b
--   Fit D b S          == a start accepts the sheet: each record of the base is fit
--   Given D b hs S     == an accepted start and the operations hs on the base b give the sheets S, wherever they are looked at
--   given D b hs S     == the decision
use Rattle.std.specs.Prelude.{Bool, List, ◌≢◌, ◌≡◌, ℕ, ◌≤◌, ◌<◌, T, length}
use Rattle.sheets.specs.Records.{fit_of, at}
use Rattle.sheets.specs.Sheets.{Sheets, none, merged_by, right}
use Rattle.yarn.specs.Places.{is_place, merges}

-- "at the place of its lowest dart among D places (the others are not looked at)"; "a removal's place is neither read nor written, nor are places past the
-- count but by a new contraction"
pub record Looked (D : ℕ) (b hs : List ℕ) (S Z : Sheets) : Type 0 where
  pub sheet : (x : ℕ) → x < D → T (is_place D b x) → at S.sheet x ≡ at Z.sheet x
  pub kept : (t : ℕ) → t < length hs → merges D b hs t ≢ none → at S.kept t ≡ at Z.kept t

pub record Fit (D : ℕ) (b : List ℕ) (S : Sheets) : Type 0 where
  pub each : (x : ℕ) → x < D → T (is_place D b x) → T (fit_of (at S.sheet x))

pub record Given (D : ℕ) (b hs : List ℕ) (S : Sheets) : Type 0 where
  -- the sheets that were lent to the start
  pub first : Sheets
  pub long : D ≤ length first.sheet
  pub keeps : length hs ≤ length first.kept
  pub fit : Fit D b first
  pub looked : Looked D b hs (merged_by (merges D b hs) 0 (length hs) first) S

-- nothing is undone: what the operations left says what it came from
unfoldable pub given : ℕ → List ℕ → List ℕ → Sheets → Bool
given D b hs S = right (is_place D b) (merges D b hs) D (length hs) S
