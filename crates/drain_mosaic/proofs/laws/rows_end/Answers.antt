use Rattle.drain_mosaic.proofs.StreamSteps as lemmas
use Rattle.drain_mosaic.proofs.laws.rows_end.Goals as goal

pub returns : goal.returns
returns c = lemmas.rows_end
