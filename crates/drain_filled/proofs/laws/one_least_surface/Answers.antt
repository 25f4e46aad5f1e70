use Rattle.drain_filled.proofs.LeastSurfaces as lemmas
use Rattle.drain_filled.proofs.laws.one_least_surface.Goals as goal

pub returns : goal.returns
returns c = lemmas.one_least_surface
