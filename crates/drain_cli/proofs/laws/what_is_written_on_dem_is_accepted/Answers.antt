use Rattle.drain_cli.proofs.RoundTrips.{accepted_on_dem}
use Rattle.drain_cli.proofs.laws.what_is_written_on_dem_is_accepted.Goals as goal

pub returns : goal.returns
returns g c = accepted_on_dem g.R.ByteSource.bytes_left g.F.ByteSink c.made_on_dem_is_accepted.ensures
