-- `noting::check::reload` meets its contract: a pyramid's table and history load.
use Rattle.noting.proofs.Reloading.{reload_fits, reloaded}
use Rattle.noting.proofs.check.reload.Goals as goal

pub load-requires : goal.load-requires
load-requires c = let fits = reload_fits c.requires in record { room = fits.0; d_in_bounds = fits.1 }

pub returns : goal.returns
returns c = reloaded c.requires c.load.ensures
