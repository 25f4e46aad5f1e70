use Rattle.std.proofs.Common.{refl}
use Rattle.drain_verdict.proofs.DemSteps.{dem_fails, dem_read_none, dem_read_then, dem_sized, dem_taken, dem_takes_none}
use Rattle.drain_verdict.proofs.dem_ground.RasterInputGroundInput.reading_laws.Goals as goal

pub returns : goal.returns
returns g c =
    let bl = g.R.ByteSource.bytes_left in
    let ct = g.R.ByteSource.counts in
    record {
      counted = λ f rows begun. refl;
      sized = λ f xs fit. dem_sized bl ct f xs fit;
      recounted = λ a b failed read. refl;
      nothing = λ s. dem_read_none bl ct (s.0.raster, s.1);
      joined = λ a b d failed one other. dem_read_then bl ct (a.0.raster, a.1) (b.0.raster, b.1) (d.0.raster, d.1) failed one other;
      none_within = λ key xs. dem_takes_none bl ct xs;
      within = λ f a b failed begun fit read. dem_taken bl ct f (a.0.raster, a.1) (b.0.raster, b.1) failed begun.begun fit read c.raster_rows_take_what_is_needed.ensures;
      faults = λ f a b failed begun fit read. dem_fails bl ct f (a.0.raster, a.1) (b.0.raster, b.1) failed begun.begun fit read;
      none_kept = λ xs. refl;
      kept = λ a b failed read. read.headers;
    }
