use Rattle.drain_maker.proofs.DemReading.{raster_whole}
use Rattle.drain_maker.proofs.whole_dem.read_pixels.Goals as goal

pub returns-in-Ok-marked_raster-clause-raster : goal.returns-in-Ok-marked_raster-clause-raster
returns-in-Ok-marked_raster-clause-raster g c = λ bytes known.
    raster_whole c.args.header.now (g.R.ByteSource.bytes_left c.args.body.now) (g.R.ByteSource.bytes_left c.read_whole.new.from)
    c.in-Ok.bytes.items c.in-Ok-marked_raster.raster (rw c.needed_len.ensures at c.in-Ok.ensures.bytes) c.in-Ok-marked_raster.ensures.raster bytes known
