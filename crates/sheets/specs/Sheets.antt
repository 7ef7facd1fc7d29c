-- The two sheets, and what operations do to them (document 02, request Five). What an operation merges is told by a Merge: operation t, from 0, merges ms t.
--   Sheets              == the sheet of zone records, and the sheet of kept records
--   Merge               == an operation merges no records (a removal), or the one at `high` into the one at `low`
--   merged m t S        == the sheets after operation t, which merges m
--   returned m t S      == the sheets once operation t is undone
--   merged_by ms t c S   == the sheets after the c operations from t on
--   returned_by ms n c S == the sheets once the last c of n operations are undone
--   last_into ms n x     == 1 + the last of the first n operations that merged a record into the one at x; 0 where none did
--   sound ms S l z      == z is a base's record (l is 0), or the one that operation l - 1 left
--   kept_right ms S n    == the records that the first n operations kept are right
--   sheet_right p ms n S m == after n operations the records at those of the first m places that p picks are right
--   right p ms D n S    == both
use Rattle.std.specs.Prelude.{Bool, true, false, not, ◌&&◌, ◌||◌, List, ℕ, zero, suc, ◌-◌, eqb, set}
use Rattle.permutations.specs.Choice.{pick}
use Rattle.sheets.specs.declared.Zone.{Zone}
use Rattle.sheets.specs.Records.{merge_of, fit_of, same_zone, at}

-- "A lent sheet holds one record for each vertex of the base"; "the lower record as it was is kept on a second sheet of D/2 places, one an operation"
pub record Sheets : Type 0 where
  pub sheet : List Zone
  pub kept : List Zone

pub data Merge : Type 0 where
  none : Merge
  into : ℕ → ℕ → Merge

unfoldable pub low_into : Merge → ℕ → Bool
low_into none x = false
low_into (into low high) x = eqb low x

unfoldable pub high_of : Merge → ℕ
high_of none = 0
high_of (into low high) = high

-- "A contraction merges the two records into the lower-numbered one"; "The other record stays as it is."; "the lower record as it was is kept on a second
-- sheet"; "a removal's place is neither read nor written"
unfoldable pub merged : Merge → ℕ → Sheets → Sheets
merged none t S = S
merged (into low high) t S = record {
  sheet = set S.sheet low (merge_of (at S.sheet low) (at S.sheet high));
  kept = set S.kept t (at S.sheet low);
}

-- "Undo returns the old figure bit for bit"
unfoldable pub returned : Merge → ℕ → Sheets → Sheets
returned none t S = S
returned (into low high) t S = record { sheet = set S.sheet low (at S.kept t); kept = S.kept }

unfoldable pub merged_by : (ℕ → Merge) → ℕ → ℕ → Sheets → Sheets
merged_by ms t zero S = S
merged_by ms t (suc c) S = merged_by ms (suc t) c (merged (ms t) t S)

-- the last operation first
unfoldable pub returned_by : (ℕ → Merge) → ℕ → ℕ → Sheets → Sheets
returned_by ms n zero S = S
returned_by ms n (suc c) S = returned_by ms (n - 1) c (returned (ms (n - 1)) (n - 1) S)

-- ---- the sheets that an accepted start and these operations give, told from the sheets as they stand

unfoldable pub last_into : (ℕ → Merge) → ℕ → ℕ → ℕ
last_into ms zero x = 0
last_into ms (suc t) x = pick (low_into (ms t) x) (suc t) (last_into ms t x)

-- The record that operation t left at its lower place is the one it kept with the other one merged into it, and that other one is never written again.
unfoldable pub sound : (ℕ → Merge) → Sheets → ℕ → Zone → Bool
sound ms S zero z = fit_of z
sound ms S (suc t) z = same_zone (merge_of (at S.kept t) (at S.sheet (high_of (ms t)))) z

-- what operation t kept is what the last merge into the same place before it had left there
unfoldable pub kept_sound : (ℕ → Merge) → Sheets → ℕ → Merge → Bool
kept_sound ms S t none = true
kept_sound ms S t (into low high) = sound ms S (last_into ms t low) (at S.kept t)

unfoldable pub kept_right : (ℕ → Merge) → Sheets → ℕ → Bool
kept_right ms S zero = true
kept_right ms S (suc t) = kept_right ms S t && kept_sound ms S t (ms t)

-- "(the others are not looked at)"
unfoldable pub sheet_right : (ℕ → Bool) → (ℕ → Merge) → ℕ → Sheets → ℕ → Bool
sheet_right place ms n S zero = true
sheet_right place ms n S (suc x) =
    sheet_right place ms n S x && (not (place x) || sound ms S (last_into ms n x) (at S.sheet x))

unfoldable pub right : (ℕ → Bool) → (ℕ → Merge) → ℕ → ℕ → Sheets → Bool
right place ms D n S = kept_right ms S n && sheet_right place ms n S D
