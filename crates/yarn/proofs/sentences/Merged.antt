-- "A contraction merges the two records into the lower-numbered one: stitches add, metres add with one rounding and the lower record first, and not measured
-- with anything is not measured. The other record stays as it is."
--   merge_stitches, merge_metres, merge_measured == what the merged record holds
--   merged_low, merged_high, merged_other        == what a contraction leaves on the sheet
--   merged_kept, merged_before                   == and on the second sheet: "the lower record as it was"
use mathlib.Core.Bool.{◌&&◌}
use mathlib.Core.Logic.{◌≢◌}
use mathlib.Core.Path.{◌≡◌, refl}
use Prim.Native.Nat.{ℕ, ◌+◌, ◌<◌}
use lib.Ieee as Ieee
use lib.Ieee.{Float, binary64}
use lib.ListN.{length}
use lib.Seq.{get_or-set_same, get_or-set_other}
use Rattle.std.specs.Prelude.{Option, Some, None}
use Rattle.sheets.specs.declared.Zone.{Zone}
use Rattle.sheets.specs.Records.{merge_of, measured, at}
use Rattle.sheets.specs.Sheets.{Sheets, into, merged}

-- ---- two records

-- "stitches add"
pub merge_stitches : (a b : Zone) → (merge_of a b).stitches ≡ a.stitches + b.stitches
merge_stitches a b = refl

-- "metres add with one rounding and the lower record first"
pub merge_metres : (a b : Zone) (m n : Float) → a.yarn ≡ Some m → b.yarn ≡ Some n → (merge_of a b).yarn ≡ Some (Ieee.add binary64 m n)
merge_metres a b m n e f = rw (e, f)

-- "not measured with anything is not measured"
pub merge_measured : (a b : Zone) → measured (merge_of a b) ≡ (measured a && measured b)
unfolding measured
merge_measured a b = go a.yarn b.yarn
  where
    go : (y z : Option Float)
        → measured (merge_of (record { stitches = 0; yarn = y }) (record { stitches = 0; yarn = z }))
        ≡ (measured (record { stitches = 0; yarn = y }) && measured (record { stitches = 0; yarn = z }))
    go (Some m) (Some n) = refl
    go (Some m) None = refl
    go None z = refl

-- ---- the sheets

module _ (low high t : ℕ) (S : Sheets) where
  -- "into the lower-numbered one"
  pub merged_low : low < length S.sheet → at (merged (into low high) t S).sheet low ≡ merge_of (at S.sheet low) (at S.sheet high)
  unfolding merged
  merged_low l = get_or-set_same S.sheet low _ _ l

  -- no other record of the sheet changes
  pub merged_other : (x : ℕ) → x ≢ low → at (merged (into low high) t S).sheet x ≡ at S.sheet x
  unfolding merged
  merged_other x n = get_or-set_other S.sheet low x _ _ n

  -- "The other record stays as it is."
  pub merged_high : high ≢ low → at (merged (into low high) t S).sheet high ≡ at S.sheet high
  merged_high = merged_other high

  -- "the lower record as it was is kept on a second sheet of D/2 places, one an operation"
  pub merged_kept : t < length S.kept → at (merged (into low high) t S).kept t ≡ at S.sheet low
  unfolding merged
  merged_kept l = get_or-set_same S.kept t _ _ l

  pub merged_before : (i : ℕ) → i ≢ t → at (merged (into low high) t S).kept i ≡ at S.kept i
  unfolding merged
  merged_before i n = get_or-set_other S.kept t i _ _ n
