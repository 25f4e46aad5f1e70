use Rattle.drain_filled.proofs.LeastSurfaces as lemmas
use Rattle.drain_filled.proofs.laws.same_numbers_same_cell.Goals as goal

pub returns : goal.returns
returns c = lemmas.same_numbers_same_cell
