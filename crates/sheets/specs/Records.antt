-- A record of a sheet, and two of them (document 02, request Five): "stitches, up to 65,535, and a yarn figure that is either metres, a 64-bit float,
-- or not measured".
--   joined a b     == the yarn of two records together
--   merge_of a b    == the lower record a, once b is merged into it
--   fit_of z        == z may stand on a base's sheet
--   same_metres, same_yarn, same_zone == they are the same, bit for bit
--   measured z     == the record has metres
--   at s i         == the record at place i of the sheet s
use Rattle.std.specs.Prelude.{Bool, true, false, ◌&&◌, List, ℕ, ◌+◌, eqb, leb, ℤ, pos, negsuc, get_or, Float, Option, Some, None}
use Rattle.std.specs.Bool.{beq}
use Rattle.std.specs.Float.Ieee as Ieee
use Rattle.std.specs.Float.{nan, inf, fin, binary64}
use Rattle.sheets.specs.declared.Zone.{Zone}

-- "metres add with one rounding and the lower record first, and not measured with anything is not measured"
abbrev pub joined : Option Float → Option Float → Option Float
joined (Some a) (Some b) = Some (Ieee.add binary64 a b)
joined (Some a) None = None
joined None b = None

-- "stitches add"
abbrev pub merge_of : Zone → Zone → Zone
merge_of lower other = record { stitches = lower.stitches + other.stitches; yarn = joined lower.yarn other.yarn }

-- "metres not from 0 to 100,000 (a NaN is not)": 100,000 is 3125 * 2 ^ 5. Each comparison with a NaN is false, and minus zero is not below zero.
abbrev pub metres_fit : Float → Bool
metres_fit m = Ieee.le (fin false 0 (pos 0)) m && Ieee.le m (fin false 3125 (pos 5))

abbrev pub yarn_fits : Option Float → Bool
yarn_fits (Some m) = metres_fit m
yarn_fits None = true

-- "These limits are for the base's records; merged ones may be larger"
abbrev pub fit_of : Zone → Bool
fit_of z = leb z.stitches 65535 && yarn_fits z.yarn

unfoldable pub same_integer : ℤ → ℤ → Bool
same_integer (pos a) (pos b) = eqb a b
same_integer (pos a) (negsuc b) = false
same_integer (negsuc a) (pos b) = false
same_integer (negsuc a) (negsuc b) = eqb a b

-- the same float: there is one NaN, and the two zeros are two
unfoldable pub same_metres : Float → Float → Bool
same_metres nan nan = true
same_metres nan (inf s) = false
same_metres nan (fin s m e) = false
same_metres (inf s) nan = false
same_metres (inf s) (inf z) = beq s z
same_metres (inf s) (fin z m e) = false
same_metres (fin s m e) nan = false
same_metres (fin s m e) (inf z) = false
same_metres (fin s m e) (fin z n f) = beq s z && (eqb m n && same_integer e f)

unfoldable pub same_yarn : Option Float → Option Float → Bool
same_yarn (Some a) (Some b) = same_metres a b
same_yarn (Some a) None = false
same_yarn None (Some b) = false
same_yarn None None = true

-- "bit for bit"
unfoldable pub same_zone : Zone → Zone → Bool
same_zone a b = eqb a.stitches b.stitches && same_yarn a.yarn b.yarn

unfoldable pub measured : Zone → Bool
measured z = yarn_measured z.yarn
  where
    yarn_measured : Option Float → Bool
    yarn_measured (Some m) = true
    yarn_measured None = false

-- past the end of a sheet, where no call looks, there is a record of no stitches
abbrev pub at : List Zone → ℕ → Zone
at s i = get_or s i (record { stitches = 0; yarn = None })
