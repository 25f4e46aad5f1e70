use Rattle.drain_filled.proofs.LeastSurfaces as lemmas
use Rattle.drain_filled.proofs.laws.same_cells_same_surface.Goals as goal

pub returns : goal.returns
returns c = lemmas.same_cells_same_surface
