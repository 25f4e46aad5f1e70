use Rattle.drain_paths.proofs.CellPlaces.{IsPutAt-set}
use Rattle.drain_paths.proofs.cell_numbers.put_at.Goals as goal

pub returns : goal.returns
returns c =
    IsPutAt-set c.args.shape c.args.numbers.now c.args.cell c.index.result c.args.number c.requires.inside c.index.ensures.place c.requires.counted
