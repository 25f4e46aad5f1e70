use Rattle.drain_basin.proofs.Bits.{low_set}
use Rattle.drain_basin.proofs.lowest.set_low.Goals as goal

pub returns-clause-set : goal.returns-clause-set
returns-clause-set c = low_set c.args.low.now c.args.place c.requires
