-- The metres of a record, where it has any, are a value of f64.
--   Held y        == what that says of a yarn figure
--   yarn_fits_lem == a yarn figure that the machine holds is so
--   zone_fits     == and so are the metres of a record that it holds
use mathlib.Core.List.{List}
use mathlib.Core.Path.{◌≡◌, sym, subst}
use lib.Dec.{T}
use lib.Ieee.{Float, binary64, fits}
use mir.Val.{Val}
use denote.Builtin.{f64}
use denote.Laws.{Is}
use denote.Struct.Laws as LL
use denote.Enum.Laws as EL
use Rattle.std.specs.Prelude.{Option, Some, None}
use Rattle.std.specs.contracts.option.Option as O
use Rattle.sheets.specs.declared.Zone.{Zone}
use Rattle.sheets.specs.contracts.Zone as Z
use Rattle.sheets.proofs.Zone.TheLaws as Z'

abbrev pub Held : Option Float → Type 0
Held (Some x) = T (fits binary64 x)
Held None = Unit {0}

abbrev yarn_laws : EL.Laws (O.the_type f64)
yarn_laws = (tt, ((LL.f64-laws, tt), tt))

pub yarn_fits_lem : (y : Option Float) (vs : List Val) → Is (O.the_row f64) y vs → Held y
yarn_fits_lem (Some x) vs is = subst T (sym (EL.owed (O.the_type f64) yarn_laws (Some x) vs is).0.1) tt
yarn_fits_lem None vs is = tt

pub zone_fits : (z : Zone) (x : Float) → Is Z.the_row z (LL.vals Z.the_type Z'.the_laws z) → z.yarn ≡ Some x → T (fits binary64 x)
zone_fits z x is e = subst Held e (yarn_fits_lem z.yarn _ (LL.owed Z.the_type Z'.the_laws z _ is).1.0)
