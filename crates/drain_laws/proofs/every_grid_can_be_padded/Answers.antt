use Rattle.drain_laws.proofs.PaddedCells as lemmas
use Rattle.drain_laws.proofs.every_grid_can_be_padded.Goals as goal

pub returns : goal.returns
returns c = lemmas.every_grid_can_be_padded
