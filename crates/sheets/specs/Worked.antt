-- Records worked by hand, as one table under one claim (document 02, request Five): the limits of a base's records, one bit inside and outside; a
-- merge, and what undo returns.
--   Row            == one worked example
--   right r        == the definitions give what the row says
--   bits n         == the float of the pattern n
--   table          == the rows
--   records_worked == all of them are right
use Rattle.std.specs.Prelude.{Bool, true, ◌&&◌, not, List, [], ◌∷◌, ◌≡◌, refl, ℕ, Float, Option, Some, None}
use Rattle.std.specs.Float.Ieee as Ieee
use Rattle.std.specs.Float.{binary64}
use Rattle.sheets.specs.declared.Zone.{Zone}
use Rattle.sheets.specs.Records.{merge_of, fit_of, same_integer, same_metres, same_yarn, same_zone, at}
use Rattle.sheets.specs.Sheets.{Sheets, into, merged, returned}

pub data Row : Type 0 where
  -- it may stand on a base's sheet; it may not
  fit unfit : Zone → Row
  -- the second record merged into the first, the lower one, gives the third
  merging : Zone → Zone → Zone → Row
  -- the second record merged into the first, and that undone: the first is as it was
  undoing : Zone → Zone → Row

abbrev zone : ℕ → Option Float → Zone
zone n y = record { stitches = n; yarn = y }

-- the sheet of two records, and an operation that merges them and is undone
abbrev undone : Zone → Zone → Sheets
undone a b = returned (into 0 1) 0 (merged (into 0 1) 0 (record { sheet = a ∷ b ∷ []; kept = b ∷ [] }))

abbrev right : Row → Bool
right (fit z) = fit_of z
right (unfit z) = not (fit_of z)
right (merging a b z) = same_zone (merge_of a b) z
right (undoing a b) = same_zone (at (undone a b).sheet 0) a && same_zone (at (undone a b).sheet 1) b

abbrev all_right : List Row → Bool
all_right [] = true
all_right (r ∷ rs) = right r && all_right rs

-- ---- metres by their 64 bits

abbrev bits : ℕ → Option Float
bits n = Some (Ieee.of_bits binary64 n)

-- a half, a tenth, two tenths; a tenth and two tenths added, which is not three tenths
abbrev half : Option Float
half = bits 4602678819172646912

abbrev tenth : Option Float
tenth = bits 4591870180066957722

abbrev fifth : Option Float
fifth = bits 4596373779694328218

abbrev added : Option Float
added = bits 4599075939470750516

abbrev pub table : List Row
table =
    -- "stitches, up to 65,535"
    fit (zone 0 half)
    ∷ fit (zone 0 None)
    ∷ fit (zone 65535 half)
    ∷ unfit (zone 65536 half)
    ∷ fit (zone 65535 None)
    ∷ unfit (zone 65536 None)
    -- "metres not from 0 to 100,000": 100,000, the float below it and the float above it
    ∷ fit (zone 1 (bits 4681608360884174848))
    ∷ fit (zone 1 (bits 4681608360884174847))
    ∷ unfit (zone 1 (bits 4681608360884174849))
    -- zero and minus zero, the float above them and the float below them
    ∷ fit (zone 1 (bits 0))
    ∷ fit (zone 1 (bits 9223372036854775808))
    ∷ fit (zone 1 (bits 1))
    ∷ unfit (zone 1 (bits 9223372036854775809))
    -- the infinities, and the largest number and its negative, next to them
    ∷ unfit (zone 1 (bits 9218868437227405312))
    ∷ unfit (zone 1 (bits 18442240474082181120))
    ∷ unfit (zone 1 (bits 9218868437227405311))
    ∷ unfit (zone 1 (bits 18442240474082181119))
    -- "(a NaN is not)": the first pattern and the last one, with either sign
    ∷ unfit (zone 1 (bits 9218868437227405313))
    ∷ unfit (zone 1 (bits 9223372036854775807))
    ∷ unfit (zone 1 (bits 18442240474082181121))
    ∷ unfit (zone 1 (bits 18446744073709551615))
    -- either limit is enough
    ∷ unfit (zone 65536 (bits 4681608360884174849))
    -- "stitches add, metres add with one rounding"; "merged ones may be larger"
    ∷ merging (zone 1 tenth) (zone 2 fifth) (zone 3 added)
    ∷ merging (zone 65535 (bits 4681608360884174848)) (zone 65535 (bits 4681608360884174848)) (zone 131070 (bits 4686111960511545344))
    -- "and not measured with anything is not measured"
    ∷ merging (zone 1 tenth) (zone 2 None) (zone 3 None)
    ∷ merging (zone 1 None) (zone 2 fifth) (zone 3 None)
    ∷ merging (zone 1 None) (zone 2 None) (zone 3 None)
    -- "Undo returns the old figure bit for bit; subtracting does not do that"
    ∷ undoing (zone 1 tenth) (zone 2 fifth)
    ∷ undoing (zone 1 tenth) (zone 2 None)
    ∷ undoing (zone 1 None) (zone 2 fifth)
    ∷ []

-- subtraction and the strict comparison are computed too, so that a definition with one of them is refused by what it gives
pub records_worked : all_right table ≡ true
unfolding same_integer same_metres same_yarn same_zone merged returned Ieee.le Ieee.lt Ieee.add Ieee.sub Ieee.of_bits
records_worked = refl
