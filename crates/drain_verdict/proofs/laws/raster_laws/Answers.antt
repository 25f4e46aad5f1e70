use Rattle.drain_verdict.proofs.laws.raster_laws.Goals as goal

pub returns : goal.returns
returns c = record {
  raster_end = c.raster_rows_end.ensures;
  raster_pixels = c.raster_rows_are_pixels.ensures;
}
