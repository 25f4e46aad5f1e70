use Rattle.std.proofs.Common.{refl}
use Rattle.drain_verdict.proofs.AuditDevices.{tiles_take_none}
use Rattle.drain_verdict.proofs.TileSteps.{tiles_fail, tiles_named, tiles_read_none, tiles_read_then, tiles_taken}
use Rattle.drain_verdict.proofs.tile_ground.TileInputGroundInput.reading_laws.Goals as goal

pub returns : goal.returns
returns g c = record {
  counted = λ f rows begun. begun.counted;
  sized = λ f xs fit. tiles_named f xs fit;
  recounted = λ a b failed read. read.counted;
  nothing = λ s. tiles_read_none g.R.ByteSource.bytes_left g.R.ByteSource.counts (s.0.mosaic, s.1);
  joined = λ a b d failed one other. tiles_read_then g.R.ByteSource.bytes_left g.R.ByteSource.counts (a.0.mosaic, a.1) (b.0.mosaic, b.1) (d.0.mosaic, d.1) failed one other;
  none_within = λ side xs. tiles_take_none g.R.ByteSource.bytes_left side xs;
  within = λ f a b failed begun fit read. tiles_taken g.R.ByteSource.bytes_left g.R.ByteSource.counts f (a.0.mosaic, a.1) (b.0.mosaic, b.1) failed begun fit read;
  faults = λ f a b failed begun fit read. tiles_fail g.R.ByteSource.bytes_left g.R.ByteSource.counts f (a.0.mosaic, a.1) (b.0.mosaic, b.1) failed begun fit read;
  none_kept = λ xs. refl;
  kept = λ a b failed read. read.names;
}
