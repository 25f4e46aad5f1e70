use Rattle.drain_mosaic.proofs.StreamSteps as lemmas
use Rattle.drain_mosaic.proofs.laws.rows_are_whole.Goals as goal

pub returns : goal.returns
returns c = lemmas.rows_are_whole
