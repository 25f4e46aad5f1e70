use Rattle.drain_verdict.proofs.TilePixels as lemmas
use Rattle.drain_verdict.proofs.laws.tiles_are_rasters.Goals as goal

pub returns : goal.returns
returns c = lemmas.tiles_are_rasters
