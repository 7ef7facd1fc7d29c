-- What the zones of a level have together (document 02, request Five): "The total of stitches at any level equals the base's."
--   summed add unit f n   == f 0, f 1, .. f (n - 1), added up
--   own R x               == x is the place of a zone's record, where the places are R
--   over p unit f x       == f x where p picks x, and nothing elsewhere
--   stitches_at S x        == the stitches of the record at x
--   measured_at S x        == the record at x has metres
--   total D R S           == the stitches of all zones together, where the places are R
--   went_to R Z x y        == y is a zone's place where the places are R, and that zone has the place x where they are Z
--   stitches_from D R Z S x == the stitches of all zones that went into the one at x
--   measured_from D R Z S x == each zone that went into the one at x is measured
use Rattle.std.specs.Prelude.{Bool, true, ◌&&◌, ℕ, zero, suc, ◌+◌, eqb}
use Rattle.std.specs.Prelude.{if◌then◌else◌}
use Rattle.sheets.specs.Records.{measured, at}
use Rattle.sheets.specs.Sheets.{Sheets}

unfoldable pub summed : {A : Type 0} → (A → A → A) → A → (ℕ → A) → ℕ → A
summed add unit f zero = unit
summed add unit f (suc n) = add (summed add unit f n) (f n)

abbrev pub own : (ℕ → ℕ) → ℕ → Bool
own R x = eqb (R x) x

abbrev pub over : {A : Type 0} → (ℕ → Bool) → A → (ℕ → A) → ℕ → A
over p unit f x = if p x then f x else unit

abbrev pub stitches_at : Sheets → ℕ → ℕ
stitches_at S x = (at S.sheet x).stitches

abbrev pub measured_at : Sheets → ℕ → Bool
measured_at S x = measured (at S.sheet x)

unfoldable pub total : ℕ → (ℕ → ℕ) → Sheets → ℕ
total D R S = summed ◌+◌ 0 (over (own R) 0 (stitches_at S)) D

abbrev pub went_to : (ℕ → ℕ) → (ℕ → ℕ) → ℕ → ℕ → Bool
went_to R Z x y = own R y && eqb (Z y) x

unfoldable pub stitches_from : ℕ → (ℕ → ℕ) → (ℕ → ℕ) → Sheets → ℕ → ℕ
stitches_from D R Z S x = summed ◌+◌ 0 (over (went_to R Z x) 0 (stitches_at S)) D

unfoldable pub measured_from : ℕ → (ℕ → ℕ) → (ℕ → ℕ) → Sheets → ℕ → Bool
measured_from D R Z S x = summed ◌&&◌ true (over (went_to R Z x) true (measured_at S)) D
