-- The law is a lemma on distances.
use Rattle.drain_grid.proofs.Distances as lemmas
use Rattle.drain_grid.proofs.laws.keys_on_unit_spacing.Goals as goal

pub returns : goal.returns
returns c = lemmas.keys_on_unit_spacing
