use Rattle.drain_hgt.proofs.TileSamples as samples
use Rattle.drain_hgt.proofs.laws.tile_rows_are_samples.Goals as goal

pub returns : goal.returns
returns c = samples.tile_rows_are_samples
