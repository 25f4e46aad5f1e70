use Rattle.drain_verdict.proofs.TilePixels as lemmas
use Rattle.drain_verdict.proofs.laws.samples_are_elevations.Goals as goal

pub returns : goal.returns
returns c = lemmas.samples_are_elevations
