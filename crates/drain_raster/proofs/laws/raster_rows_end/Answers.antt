use Rattle.drain_raster.proofs.RasterEnds as ends
use Rattle.drain_raster.proofs.laws.raster_rows_end.Goals as goal

pub returns : goal.returns
returns c = ends.raster_rows_end
