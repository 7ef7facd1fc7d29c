-- The two kinds as the code has them.
--   kind_is k == the kind of the definitions
--   bit k     == the last bit of its history numbers
--   other k   == the other one
use Rattle.std.specs.Prelude.{ℕ}
use Rattle.darts.specs.Operation.{Kind as OfKind, contraction, removal}
use Rattle.darts.specs.declared.Kind.{Kind}
use Rattle.darts.specs.declared.Kind.TheVariants.{Contract, Remove}

abbrev pub kind_is : Kind → OfKind
kind_is Contract = contraction
kind_is Remove = removal

-- "2p for a removal and 2p+1 for a contraction"
abbrev pub bit : Kind → ℕ
bit Contract = 1
bit Remove = 0

abbrev pub other : Kind → Kind
other Contract = Remove
other Remove = Contract
