-- The law is a lemma on the place of each pixel's bytes.
use Rattle.drain_raster.proofs.ReadBackLemmas as lemmas
use Rattle.drain_raster.proofs.laws.bytes_read_back.Goals as goal

pub returns : goal.returns
returns c = lemmas.bytes_read_back
