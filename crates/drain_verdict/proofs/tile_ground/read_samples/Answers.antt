use Rattle.drain_verdict.proofs.Names.{ap, Ok, rules, RowStep}
use Rattle.drain_verdict.proofs.RasterSteps.{narrow}
use Rattle.drain_verdict.proofs.TileSteps.{mosaic_more}
use Rattle.drain_verdict.proofs.tile_ground.read_samples.Goals as goal

pub returns-in-Ok-clause-rows : goal.returns-in-Ok-clause-rows
returns-in-Ok-clause-rows g c = λ t n before.
    let now = c.in-Ok.ensures in
    mosaic_more g.R.ByteSource.bytes_left g.R.ByteSource.counts c.args.mosaic.now c.next_row.new.self c.args.tiles.now c.next_row.new.from _ _ t n _
    (search rules) c.requires.counted now.read now.rows now.empty now.seam now.wrong (λ ended. now.at_end (ap (λ (s : RowStep). Ok s) ended)) before

pub returns-in-Ok-clause-narrow : goal.returns-in-Ok-clause-narrow
returns-in-Ok-clause-narrow g c =
    narrow _ c.args.mosaic.now.shape.cols _ _ c.requires.narrow c.in-Ok.ensures.long c.in-Ok.ensures.empty
