use Rattle.drain_raster.proofs.PixelLemmas.{nodata-held, nodata-stored}
use Rattle.drain_raster.proofs.read.nodata.Goals as goal

pub returns-in-Some-clause-in_range : goal.returns-in-Some-clause-in_range
returns-in-Some-clause-in_range c = nodata-stored _ (nodata-held _ c.in-Some.number c.header.invariant.nodata_ok c.in-Some.is)
