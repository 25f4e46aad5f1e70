use Rattle.drain_paths.proofs.PlacesAhead.{table_is}
use Rattle.drain_paths.proofs.places.offsets.Goals as goal

pub returns : goal.returns
returns c = rw c.cols-cols.ensures (table_is c.args.shape)
