-- What is handed on where a test is passed.
--   some_then == it is handed on where it is
--   if_then   == of what is handed on holds what holds of it
use mathlib.Core.Bool.{Bool, true, false}
use mathlib.Core.Path.{◌≡◌, refl}
use Rattle.std.proofs.Common.{is_some, IfSome}
use Rattle.std.specs.Bool.{then_some}

pub some_then : {T : Type 0} (b : Bool) (x : T) → is_some (then_some b x) ≡ b
some_then true x = refl
some_then false x = refl

pub if_then : {T : Type 0} (b : Bool) (x : T) (P : T → Type 0) → P x → IfSome (then_some b x) P
if_then true x P p = p
if_then false x P p = tt
