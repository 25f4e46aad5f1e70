use Rattle.drain_raster.proofs.RasterRowLemmas as pixels
use Rattle.drain_raster.proofs.laws.raster_rows_are_pixels.Goals as goal

pub returns : goal.returns
returns c = pixels.raster_rows_are_pixels
