use Rattle.drain_cli.proofs.RoundTrips.{accepted}
use Rattle.drain_cli.proofs.laws.what_is_written_is_accepted.Goals as goal

pub returns : goal.returns
returns g c = accepted g.R.ByteSource.bytes_left g.F.ByteSink c.made_is_accepted.ensures
