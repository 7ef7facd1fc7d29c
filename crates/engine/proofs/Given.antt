-- The laws of the tests that taking back and loading ask for.
--   fits_stand   == an operation that fits leaves a map once it is undone
--   linked_stand == a table that passes tests 3 to 5 holds a map
use Prim.Native.Nat.{ℕ}
use Rattle.laws.proofs.tests.Back.{fits_redo}
use Rattle.laws.proofs.tests.Links.{linked_stands}
use Rattle.engine.proofs.AllBack.{FitsStand}
use Rattle.engine.proofs.Loaded.{LinkedStand}

pub fits_stand : {D : ℕ} → FitsStand D
fits_stand t h past S numbers fits = (fits_redo S numbers fits).standing

pub linked_stand : {D : ℕ} → LinkedStand D
linked_stand {D} t past even size linked = (linked_stands D t past even size).0 linked
