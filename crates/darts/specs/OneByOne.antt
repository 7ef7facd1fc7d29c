-- Operations one by one, kinds mixed as they come, whatever kernels they are in.
--   one_by_one D t past os == the run of the operations os: the pass that takes each of them
--   operation_of h        == the operation that a history number tells
--   operations_of ks      == the operations of the kernels ks, one after another
--   NoneEmpty ks         == none of the kernels is empty
use Rattle.std.specs.Prelude.{List, [], ◌∷◌, ◌++◌, ℕ, ◌<◌, length}
use Rattle.darts.specs.Operation.{kind_of, edge_of}
use Rattle.darts.specs.Kernel.{Operation, each, Run, always, pass}
use Rattle.darts.specs.Pyramid.{Kernel}

unfoldable pub one_by_one : ℕ → List ℕ → List ℕ → List Operation → Run
one_by_one = pass always

-- "The history gets one number, 2p for a removal and 2p+1 for a contraction."
abbrev pub operation_of : ℕ → Operation
operation_of h = record { kind = kind_of h; edge = edge_of h }

abbrev pub operations_of : List Kernel → List Operation
operations_of [] = []
operations_of (k ∷ ks) = each k.kind k.edges ++ operations_of ks

abbrev pub NoneEmpty : List Kernel → Type 0
NoneEmpty [] = Unit {0}
NoneEmpty (k ∷ ks) = (0 < length k.edges) × NoneEmpty ks
