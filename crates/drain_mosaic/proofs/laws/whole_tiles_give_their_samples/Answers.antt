use Rattle.drain_mosaic.proofs.MosaicSteps as lemmas
use Rattle.drain_mosaic.proofs.laws.whole_tiles_give_their_samples.Goals as goal

pub returns : goal.returns
returns c = lemmas.whole_tiles_give_their_samples
