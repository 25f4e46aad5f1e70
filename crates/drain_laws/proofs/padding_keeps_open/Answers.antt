use Rattle.drain_laws.proofs.PaddedCells as lemmas
use Rattle.drain_laws.proofs.padding_keeps_open.Goals as goal

pub returns : goal.returns
returns c = lemmas.padding_keeps_open
