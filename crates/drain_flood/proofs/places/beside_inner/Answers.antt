use Rattle.drain_flood.proofs.Insides.{beside_there}
use Rattle.drain_flood.proofs.places.beside_inner.Goals as goal

pub returns-clause-beside : goal.returns-clause-beside
returns-clause-beside c =
    beside_there c.args.shape c.args.place c.offset.result c.cols-cols.result c.args.direction c.requires (rw c.cols-cols.ensures at c.offset.ensures) c.cols-cols.ensures
