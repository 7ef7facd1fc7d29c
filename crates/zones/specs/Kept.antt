-- What a line leaves of the rooms that it writes only by a command of their own.
--   Kept a b       == plan and ends of the rooms b are those of the rooms a
--   KeptByIo r a b == so it is where the writer took no more
use Rattle.std.specs.Prelude.{◌≡◌, Result, Ok, Err}
use Rattle.zones.specs.declared.rooms.Rooms.{Rooms}
use Rattle.zones.specs.declared.lines.Stop.{Stop}
use Rattle.zones.specs.declared.lines.Stop.TheVariants.{Wrong, Io}

pub record Kept (a b : Rooms) : Type 0 where
  pub plan : b.plan ≡ a.plan
  pub ends : b.ends ≡ a.ends

abbrev pub KeptByIo : Result (Unit {0}) Stop → Rooms → Rooms → Type 0
KeptByIo (Ok x) a b = Unit {0}
KeptByIo (Err Wrong) a b = Unit {0}
KeptByIo (Err (Io e)) a b = Kept a b
