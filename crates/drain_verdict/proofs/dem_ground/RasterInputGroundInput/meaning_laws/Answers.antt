use Rattle.drain_verdict.proofs.DemAnswers.{pixels_told}
use Rattle.drain_verdict.proofs.DemSteps.{dem_framed, dem_laid, dem_none_early, dem_rows, dem_starts}
use Rattle.drain_verdict.proofs.dem_ground.RasterInputGroundInput.meaning_laws.Goals as goal

pub returns : goal.returns
returns g c = record {
  framed = λ f xs x fit means. dem_framed g.R.ByteSource.bytes_left f xs x fit means;
  laid = λ f x framed. dem_laid f x framed;
  none_early = λ f xs x fit means. dem_none_early f x (dem_framed g.R.ByteSource.bytes_left f xs x fit means);
  start = λ f xs x rows means framed begun. dem_starts g.R.ByteSource.bytes_left f rows.raster rows.voids xs x means framed begun;
  rows = λ f x framed none. dem_rows c.raster_rows_end.ensures c.elevation_rows_are_pixels.ensures f x framed none;
  told = λ f x framed whole same. pixels_told f x framed whole;
}
