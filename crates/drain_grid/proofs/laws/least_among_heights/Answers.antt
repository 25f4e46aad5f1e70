-- The law is a lemma on surfaces of heights.
use Rattle.drain_grid.proofs.HeightSurfaces as lemmas
use Rattle.drain_grid.proofs.laws.least_among_heights.Goals as goal

pub returns : goal.returns
returns c = λ g s kind least. lemmas.least_among_heights g s least kind
